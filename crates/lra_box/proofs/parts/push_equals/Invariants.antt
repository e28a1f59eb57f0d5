use Rattle.std.proofs.Common.{◌≡◌, ◌+◌, ◌++◌, length, replicate}
use Rattle.lra_box.specs.Crates.lra_linear_spec.declared.ConKind.TheVariants.{Eq}
use Rattle.lra_box.specs.{Bounds.AllValidIntervals, Parts.box_equalities}
use Rattle.lra_box.proofs.parts.push_equals.Given as goal

abbrev pub invariant-loop-interval : goal.invariant-loop-interval
invariant-loop-interval l = record {
  places : l.k + length l.left ≡ length l.intervals;
  dims : l.system.dims ≡ length l.intervals;
  sound : AllValidIntervals l.left;
  rows : l.system.rows ++ box_equalities (length l.intervals) l.k l.left ≡ l.fn.system.rows ++ box_equalities (length l.intervals) 0 l.intervals;
  kinds : l.system.kinds ++ replicate (length (box_equalities (length l.intervals) l.k l.left)) Eq ≡ l.fn.system.kinds ++ replicate (length (box_equalities (length l.intervals) 0 l.intervals)) Eq;
}

abbrev pub decreases-loop-interval : goal.decreases-loop-interval
decreases-loop-interval l = length l.left
