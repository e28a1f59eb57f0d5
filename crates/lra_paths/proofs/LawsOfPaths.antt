-- The laws on programs, as they are claimed.
use Rattle.std.proofs.Common.{ℕ, ℤ, List, Bool}
use Rattle.std.specs.Prelude.{IsTrue}
use Rattle.lra_paths.specs.Crates.{lra_path_segments.Segments.Goal, lra_program.Program.Program, lra_program.Traces.Trace, lra_program.Traces.NoChange, lra_program.WellFormed.IsWellFormed}
use Rattle.lra_operations.specs.{Agree.IsInlinedTree, Traces.RunExtent, Traces.RunsUpTo, Tree.Node}
use Rattle.lra_paths.proofs.{Came.came, CoverSteps.paths_cover, CoverSteps.kept, FollowedRuns.trees_follow_runs}
use Rattle.lra_paths.specs.Covers.{HasGone, PathsCover, AreInductiveAlong, HoldInAllRuns}

pub all_paths_cover : (P : Program) (g : Node) → IsWellFormed P → IsInlinedTree P g → PathsCover P g
all_paths_cover P g well is = paths_cover P g (trees_follow_runs P g well is)

pub what_is_kept : (P : Program) (g : Node) → IsWellFormed P → IsInlinedTree P g → (holds : Goal → List ℤ → Bool) →
    AreInductiveAlong P g (λ goal t. IsTrue (holds goal t)) →
    HoldInAllRuns P (λ goal t. IsTrue (holds goal t))
what_is_kept P g well is holds k = kept P g (trees_follow_runs P g well is) (λ goal t. IsTrue (holds goal t)) k

pub all_ways_cover : (g : Node) (a : Trace ℕ) (u : RunExtent) (b : Trace ℕ) → RunsUpTo (λ q. q) NoChange g a u b → HasGone (λ q. q) g a u b
all_ways_cover g a u b x = came (λ q. q) g a u b x
