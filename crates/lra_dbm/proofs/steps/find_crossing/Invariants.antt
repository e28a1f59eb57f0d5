use Rattle.std.proofs.Common.{◌≡◌}
use Rattle.lra_dbm.specs.Steps.{crossed, crossing_passes}
use Rattle.lra_dbm.proofs.steps.find_crossing.Given as goal

abbrev pub invariant-loop-i : goal.invariant-loop-i
invariant-loop-i l = record {
  crossing : l.is_crossed ≡ crossed l.cells l.i;
  passing : l.passes ≡ crossing_passes l.cells l.i;
}
