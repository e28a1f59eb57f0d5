-- From a point a run goes on to the next one, and so does the tree.
use Rattle.std.proofs.Common.{◌≡◌, ℕ, ℤ, List, [], ◌∷◌, Some, slice_get, refl, subst}
use Rattle.lra_inline_sound.specs.Crates.lra_program.Run.{Point, IsOn, start}
use Rattle.lra_inline_sound.specs.Crates.lra_program.Traces.{TraceEvent, visit, Trace, TracedSteps, Arrives, RunSegment}
use Rattle.lra_inline_sound.specs.Crates.{lra_program.Program.Program, lra_program.Sites.Site, lra_program.Sites.sites_of, lra_program.Step.State, lra_program.Step.Config}
use Rattle.lra_inline_sound.proofs.Crates.lra_program.TraceLaws.{walk_on}
use Rattle.lra_operations.specs.{Agree.point_of, Traces.to_point, TracesAgree.TreeRunsUpTo, TracesAgree.TracesAgree, Tree.Node}
use Rattle.lra_inline_sound.proofs.Split.{trail}

module _ (may : State → State → Type 0) (P : Program) (g : Node) (trails : TracesAgree may P g) (draws : List ℤ) where
  -- the tree reaches the point on the trace
  pub record TreeAt (p : Point) (a : Trace Point) : Type 0 where
    pub number : ℕ
    pub site : Site
    pub there : slice_get (sites_of P) number ≡ Some site
    pub point : p ≡ point_of site
    pub goes : TreeRunsUpTo may P g draws (to_point number) a

  pub tree_at : (p : Point) (a : Trace Point) → Arrives may P draws p a → TreeAt p a
  tree_at p a x =
      let (number, s, there, same) = trails.others p draws a x in
      record { number = number; site = s; there = there; point = same; goes = (trails.comes number s draws a there).0 (subst (λ q. Arrives may P draws q a) same x) }

  -- one piece of a run: the tree reaches the one point, and then to the next, past nothing else
  pub next_point : (n : ℕ) (c d : Config) (xs : List (TraceEvent Point)) (p q : Point) → TracedSteps may P n (start P draws) [] c xs → RunSegment may P p c d →
      IsOn d q
      → TreeAt p (trail c.state xs) × TreeAt q (trail d.state (visit p c.state ∷ xs))
  next_point n c d xs p q w (on, m, v) there =
      let all = walk_on may P n m (start P draws) c d [] xs (visit p c.state ∷ xs) w (v xs) in
      (tree_at p (trail c.state xs) (n, c, w, on, refl), tree_at q (trail d.state (visit p c.state ∷ xs)) (all.0, d, all.1, there, refl))
