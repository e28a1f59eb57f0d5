-- A call goes down the tree, or hands on what a statement leaves.
use Rattle.std.proofs.Common.{◌≤◌}
use Rattle.lra_syntax.specs.Branches.{size_left}
use Rattle.lra_syntax.proofs.trees.+statement_drop.Given as goal

abbrev pub decreases-BlockItem::drop : goal.decreases-BlockItem::drop
decreases-BlockItem::drop l = goal.size-BlockItem::drop l

abbrev pub decreases-Block::drop : goal.decreases-Block::drop
decreases-Block::drop l = goal.size-Block::drop l

abbrev pub decreases-Branches::drop : goal.decreases-Branches::drop
decreases-Branches::drop l = size_left l.self

abbrev pub invariant-Branches::drop-branches : goal.invariant-Branches::drop-branches
invariant-Branches::drop-branches l = size_left l.self ≤ size_left l.initial.self

abbrev pub decreases-Branches::drop-branches : goal.decreases-Branches::drop-branches
decreases-Branches::drop-branches l = size_left l.self
