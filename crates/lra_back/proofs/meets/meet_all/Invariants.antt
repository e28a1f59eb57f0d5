use Rattle.std.proofs.Common.{◌≡◌, ℕ, Some, length, slice_get}
use Rattle.lra_back.specs.Operations.{lossy_back_operations}
use Rattle.lra_back.proofs.MeetSteps.{StillMeets}
use Rattle.lra_back.proofs.meets.meet_all.Given as goal

-- what is met from here on is met in all
abbrev pub invariant-points : goal.invariant-points
invariant-points g l = record {
  still : StillMeets (lossy_back_operations g.D.Domain.abstraction g.D.Backward.backward_abstraction) l.going.heads.items l.forward l.going.flag l.point l.flag
      l.values.items;
  count : length l.values.items ≡ l.point;
  dims : (p : ℕ) (v : g.row.D.Denot) → slice_get l.values.items p ≡ Some v → (x : g.row.D.Denot) → slice_get l.forward p ≡ Some x
      → g.D.Domain.abstraction.dims v ≡ g.D.Domain.abstraction.dims x;
}
