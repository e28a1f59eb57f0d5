-- Where the assertion at a point is false, only paths from that point lead there.
use Rattle.std.specs.Prelude.{◌≡◌, ◌<◌, ℕ, suc, length}
use Rattle.lra_paths.specs.Crates.lra_program.Sites.{sites_of}
use Rattle.lra_paths.specs.Crates.{lra_path_segments.Segments.violates, lra_program.Program.Program}
use Rattle.lra_operations.specs.{Agree.IsInlinedTree, Tree.Node}
use Rattle.lra_paths.specs.Paths.{paths_between, violations_of}

-- so those that are counted at their source are all that there are
abbrev pub ViolationsAreOwn : Type 0
ViolationsAreOwn = (P : Program) (g : Node) (q : ℕ) → IsInlinedTree P g → q < length (sites_of P) →
    violations_of P g q ≡ paths_between P g (suc q) (violates q)
