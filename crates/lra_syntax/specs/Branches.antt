-- How deep the statements are that a statement leaves when it is dropped.
use Rattle.std.specs.Prelude.{ℕ, ◌+◌, max}
use Rattle.lra_syntax.specs.{declared.trees.Block.size-Block, declared.trees.Branches.Branches}
use Rattle.lra_syntax.specs.{declared.trees.Cases.size-Cases, declared.trees.Stmt.size-Stmt}

abbrev pub size_left : Branches → ℕ
size_left Branches.Nothing = 0
size_left (Branches.Items block) = 1 + size-Block block
size_left (Branches.Cases cases) = 1 + size-Cases cases
size_left (Branches.One branch) = 1 + size-Stmt branch.value
size_left (Branches.Two branch other) = 1 + max (size-Stmt branch.value) (size-Stmt other.value)
