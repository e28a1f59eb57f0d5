-- The tree that stands for a well-formed program follows its runs.
use Rattle.std.proofs.Common.{◌≡◌, ℕ, ℤ, List, length, Some, ap}
use Rattle.std.specs.Prelude.{slice_get}
use Rattle.lra_paths.specs.Crates.{lra_program.Program.Program, lra_program.Run.Point, lra_program.Sites.Site, lra_program.Sites.sites_of, lra_program.Step.State, lra_program.Traces.Trace}
use Rattle.lra_paths.specs.Crates.{lra_program.Traces.NoChange, lra_program.WellFormed.AreGoodGlobals, lra_program.WellFormed.IsWellFormed}
use Rattle.lra_operations.specs.{Agree.AreDistinct, Agree.IsInlinedTree, Traces.to_point, TracesAgree.TreeRunsUpTo, TracesAgree.TracesAgree, Tree.Node}
use Rattle.lra_paths.proofs.Crates.{lra_inline_sound.Agreement.trees_have_traces, lra_inline_sound.DistinctSites.distinct_sites, lra_inline_sound.Performed.performed}

-- the tree reaches the points of the program's runs, on their traces; no two points are the same
pub record FollowsRuns (P : Program) (g : Node) : Type 0 where
  pub globals : AreGoodGlobals P.globals
  pub distinct : AreDistinct (sites_of P)
  pub trails : TracesAgree NoChange P g
  -- the tree has no other points than these
  pub points : (q : ℕ) (draws : List ℤ) (a : Trace Point) → TreeRunsUpTo NoChange P g draws (to_point q) a → (s : Site) × (slice_get (sites_of P) q ≡ Some s)

pub trees_follow_runs : (P : Program) (g : Node) → IsWellFormed P → IsInlinedTree P g → FollowsRuns P g
trees_follow_runs P g well is = record {
  globals = well.globals;
  distinct = distinct_sites P well;
  trails = trees_have_traces P g (distinct_sites P well) is;
  points = λ q draws a x.
      let y = performed NoChange (λ s t e. ap (λ (x : State). length x.store) e) P g is draws q a x in
      (record { path = y.there.here.path; label = y.label; live = length y.there.state.store; asserts = y.asserts }, y.site);
}
