-- So far the first names are there.
use Rattle.std.proofs.Common.{◌≡◌, ◌++◌, map, take, string_bytes}
use Rattle.lra_report_build.proofs.listing.push_each.Given as goal

abbrev pub invariant-texts : goal.invariant-texts
invariant-texts l = l.names ≡ l.fn.names ++ map string_bytes (take l.text-index l.text-items)
