use Rattle.std.proofs.Common.{◌≡◌, take}
use Rattle.lra_systems.proofs.sameness.are_same_kinds.Given as goal

abbrev pub invariant-loop-place : goal.invariant-loop-place
invariant-loop-place l = take l.place l.kinds ≡ take l.place l.others
