-- More paths than may be aren't few.
use Rattle.std.proofs.Common.{ℕ, List, arith}
use Rattle.lra_paths.specs.Crates.{lra_program.Sites.Site, lra_program.declared.program.GlobalVariable.GlobalVariable}
use Rattle.lra_operations.specs.Tree.{Node}
use Rattle.lra_paths.specs.Paths.{AreFewIn, HasTooManyIn}

pub not_both : (globals : List GlobalVariable) (sites : List Site) (g : Node) (q : ℕ) → AreFewIn globals sites g → HasTooManyIn globals sites g q → ⊥
not_both globals sites g q few many =
    let least = few q many.source many.goal in
    let more = many.many in
    omega (arith, least, more)
