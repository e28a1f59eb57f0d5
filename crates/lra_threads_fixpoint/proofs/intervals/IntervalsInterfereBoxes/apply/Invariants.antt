use Rattle.std.proofs.Common.{◌≡◌, drop}
use Rattle.lra_box.specs.Content.{WellFormedBox}
use Rattle.lra_threads_fixpoint.specs.Interference.{admitting_row}
use Rattle.lra_threads_fixpoint.proofs.intervals.IntervalsInterfereBoxes.apply.Given as goal

abbrev pub invariant-globals : goal.invariant-globals
invariant-globals l = record {
  formed : WellFormedBox l.value;
  rest : admitting_row l.x (drop l.x l.interval-items) l.value ≡ admitting_row 0 l.interval-items l.initial.value;
}
