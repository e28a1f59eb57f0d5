-- The names so far, and then those of the parts that are left, are those of all parts.
use Rattle.std.proofs.Common.{◌≡◌, ◌++◌, map, drop}
use Rattle.lra_syntax.specs.Views.{external_view}
use Rattle.lra_report_build.specs.Crates.lra_resolution_spec.LiveNames.{globals_named}
use Rattle.lra_report_build.proofs.listing.names_of_globals.Given as goal

abbrev pub invariant-parts : goal.invariant-parts
invariant-parts l = l.names ++ globals_named (map external_view (drop l.item-index l.item-items)) ≡ globals_named (map external_view l.item-items)
