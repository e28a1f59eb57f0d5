-- A program has few paths, or too many from some source, but not both.
use Rattle.std.specs.Prelude.{ℕ, List}
use Rattle.lra_paths.specs.Crates.{lra_program.Sites.Site, lra_program.declared.program.GlobalVariable.GlobalVariable}
use Rattle.lra_operations.specs.Tree.{Node}
use Rattle.lra_paths.specs.Paths.{AreFewIn, HasTooManyIn}

abbrev pub FewExcludeMany : Type 0
FewExcludeMany = (globals : List GlobalVariable) (sites : List Site) (g : Node) (q : ℕ) → AreFewIn globals sites g →
    HasTooManyIn globals sites g q → ⊥
