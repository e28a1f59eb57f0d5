-- What fits, handed to whoever lists it: a verdict for each point at which the tree computes something.
use Rattle.std.proofs.Common.{◌≡◌, ◌∙◌, ◌<◌, ℕ, List, length, Option, None, Bool, true, false, sym, ap, subst, eq-eqb}
use Rattle.std.proofs.{lemmas.Bool.eqb-true, lemmas.List.Folds.Any-from_list_any, lemmas.List.Folds.list_any_at}
use Rattle.std.specs.{List.Contains, List.list_any, Prelude.IsTrue, Prelude.nat_eq}
use Rattle.lra_analyse_source.specs.Crates.lra_analysis_spec.Fits.{OpFits, Judges, JudgesIf}
use Rattle.lra_analyse_source.specs.Crates.lra_operations.CheckedOperations.{OpAtPoint, computing_ops}
use Rattle.lra_analyse_source.specs.Crates.{lra_analysis_spec.Operations.Operations, lra_domain.Abstraction.Abstraction, lra_operations.Tree.Node, lra_program.Sites.Site}
use Rattle.lra_report_build.specs.AnalysisResults.{AreVerdictsOn, IsComputing}
use Rattle.lra_analyse_source.proofs.Crates.lra_linear_spec.ListPlaces.{there_within}
use Rattle.lra_analyse_source.proofs.Found.{found_on, none_before}

-- a tree computes where it asks, and asks where it computes
computes_there : (asked : List OpAtPoint) (a : OpAtPoint) → Contains asked a → IsTrue (list_any (λ (x : OpAtPoint). nat_eq x.point a.point) asked)
computes_there asked a h = list_any_at (λ (x : OpAtPoint). nat_eq x.point a.point) asked h.0 a h.1 (eq-eqb _ _ (ap (λ (x : OpAtPoint). x.point) h.2))

asked_there : (asked : List OpAtPoint) (q : ℕ) → IsTrue (list_any (λ (x : OpAtPoint). nat_eq x.point q) asked) →
    (a : OpAtPoint) × Contains asked a × (a.point ≡ q)
asked_there asked q h =
    let (k, a, inside, is, at) = Any-from_list_any (λ (x : OpAtPoint). nat_eq x.point q) asked h in
    (a, (k, inside, is), eqb-true _ _ at)

module _ {V H : Type 0} (m : Abstraction V H) (ops : Operations V H) (g : Node) (values : List V) (flagged : Option ℕ) (fitting : List (ℕ × Bool))
    (behind : Option ℕ) where
  pub fitting_on : (sites : List Site) → length values ≡ length sites → Judges m ops g values flagged fitting behind
      → AreVerdictsOn (IsComputing g sites) fitting
  fitting_on sites many j = found_on ops (OpFits m ops) (computing_ops None g) values flagged fitting behind j (IsComputing g sites)
      (λ a one low. let (s, site) = there_within sites a.point (subst (λ (n : ℕ). a.point < n) many low) in
      (s, site, computes_there (computing_ops None g) a one))
      (λ q (s, site, so). asked_there (computing_ops None g) q so)

pub unflagged_before : {V H : Type 0} (m : Abstraction V H) (ops : Operations V H) (b : Bool) (g : Node) (values : List V) (flagged : Option ℕ)
    (fitting : List (ℕ × Bool)) (behind : Option ℕ) → behind ≡ None → JudgesIf m ops b g values flagged fitting behind → flagged ≡ None
unflagged_before m ops true g values flagged fitting behind none j = none_before ops (OpFits m ops) (computing_ops None g) values flagged fitting behind j none
unflagged_before m ops false g values flagged fitting behind none j = sym j.1 ∙ none
