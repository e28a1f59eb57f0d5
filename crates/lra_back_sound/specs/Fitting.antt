-- What the trees of programs must guarantee to going back.
use Rattle.std.specs.Prelude.{◌≡◌, ◌≢◌, ◌≤◌, ◌↔◌, ℕ, List, [], length, Some, slice_get}
use Rattle.lra_back_sound.specs.Crates.{lra_analysis_spec.Analysis.IsUnreachable, lra_analysis_spec.LiveLimit.most_live}
use Rattle.lra_back_sound.specs.Crates.{lra_domain.Abstraction.Abstraction, lra_operations.Agree.IsInlinedTree}
use Rattle.lra_back_sound.specs.Crates.{lra_operations.Tree.Node, lra_pass_results.Dimensions.TreeFits}
use Rattle.lra_back_sound.specs.Crates.{lra_path_segments.Segments.comes_to, lra_paths.Paths.actions_between}
use Rattle.lra_back_sound.specs.Crates.{lra_program.Program.Program, lra_program.Sites.Site, lra_program.Sites.sites_of}
use Rattle.lra_back_sound.specs.Crates.{lra_program.declared.program.GlobalVariable.GlobalVariable}
use Rattle.lra_fixpoint.specs.Lives.{PointsHave}
use Rattle.lra_back.specs.BackwardAnalysis.{AreAsserted, NothingLeftAtStart, PathsFit}

-- a tree whose operations can be made, and which reaches its points with as many variables as live there, has paths
-- that can be made if the globals are no more than may live
abbrev pub TreesHavePathsThatFit : Type 0
TreesHavePathsThatFit = (globals : List GlobalVariable) (sites : List Site) (g : Node) →
    length globals ≤ most_live → TreeFits g (length globals) → PointsHave sites g (length globals) →
    PathsFit globals sites g

-- right after each point that asserts its condition may be false, and no other condition is
abbrev pub AssertionsHaveViolations : Type 0
AssertionsHaveViolations = (P : Program) (g : Node) → IsInlinedTree P g → AreAsserted (sites_of P) g

-- paths from the start lead to this point of the program, and to no other one
pub record IsFirst (P : Program) (g : Node) (q : ℕ) : Type 0 where
  pub site : (s : Site) × (slice_get (sites_of P) q ≡ Some s)
  pub leads : actions_between P g 0 (comes_to q) ≢ []
  pub alone : (r : ℕ) → actions_between P g 0 (comes_to r) ≢ [] → r ≡ q

-- each program has such a point
abbrev pub OnePointIsFirst : Type 0
OnePointIsFirst = (P : Program) (g : Node) → IsInlinedTree P g → (q : ℕ) × IsFirst P g q

-- nothing is left at the start exactly if nothing is left at that point
abbrev pub NothingLeftAtFirst : {V H : Type 0} → Abstraction V H → Type 0
NothingLeftAtFirst {V} m = (P : Program) (g : Node) (q : ℕ) (values : List V) (v : V) → IsFirst P g q →
    slice_get values q ≡ Some v → (NothingLeftAtStart m P.globals (sites_of P) g values ↔ IsUnreachable m v)
