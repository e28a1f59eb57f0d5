use Rattle.std.proofs.Common.{◌≡◌, take}
use Rattle.lra_descriptions.specs.ShownLists.{without}
use Rattle.lra_descriptions.proofs.shown.others.Given as goal

abbrev pub invariant-loop-other : goal.invariant-loop-other
invariant-loop-other l = l.others.items ≡ without l.row (take l.other-index l.rows)
