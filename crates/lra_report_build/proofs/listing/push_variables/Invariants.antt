-- So far the first names are there.
use Rattle.std.proofs.Common.{◌≡◌, ◌++◌, map, take}
use Rattle.std.specs.List.{flat_map}
use Rattle.lra_syntax.specs.Views.{global_view}
use Rattle.lra_report_build.specs.Crates.lra_resolution_spec.LiveNames.{live_name}
use Rattle.lra_report_build.proofs.listing.push_variables.Given as goal

abbrev pub invariant-globals : goal.invariant-globals
invariant-globals l = l.names ≡ l.fn.names ++ flat_map live_name (map global_view (take l.global-index l.globals))
