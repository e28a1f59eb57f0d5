-- What is reported about generators that exceed a limit.
use Rattle.std.proofs.Common.{◌≡◌, ◌≢◌, ◌∙◌, ℕ, List, [], ◌∷◌, ◌++◌, refl, subst, sym, inl, inr}
use Rattle.lra_poly.specs.Crates.lra_systems.LinearSystems.{LinearSystem, generators}
use Rattle.lra_poly.specs.Crates.{lra_linear_spec.Descriptions.LinearRow, lra_linear_spec.Polyhedra.Polyhedron, lra_linear_spec.Strain.Loss, lra_linear_spec.declared.GenKind.GenKind}
use Rattle.lra_duality.specs.Incremental.{MayTurn}
use Rattle.lra_description_pair.specs.{TakenPoints.IsOfPoints, TriedRows.StrainsWhenTried}
use Rattle.lra_poly.specs.United.{AreTriedPoints, CannotExtend, UnitesAnew}
use Rattle.lra_poly.specs.{Outcomes.IfFlagged, Outcomes.first_loss, declared.outcome.Outcome.Outcome, declared.outcome.Outcome.TheVariants.Exact, declared.outcome.Outcome.TheVariants.Flagged}

some_told : (l : Loss) (losses : List Loss) → l ∷ losses ≢ []
some_told l losses e = cc

pub tried_points : (n : ℕ) (given : List LinearRow) (made pair : Polyhedron) (o : Outcome) (losses : List Loss) → made ≡ pair → o ≡ first_loss losses →
    (losses ≢ [] → IsOfPoints n given pair losses) → IfFlagged (λ _. AreTriedPoints n given made o) o
tried_points n given made pair o losses em e h = subst (λ (x : Outcome). IfFlagged (λ _. AreTriedPoints n given made x) x) (sym e) (by_losses losses h)
  where
    by_losses : (losses : List Loss) → (losses ≢ [] → IsOfPoints n given pair losses) → IfFlagged (λ _. AreTriedPoints n given made (first_loss losses)) (first_loss losses)
    by_losses [] h = tt
    by_losses (l ∷ later) h = record {
      losses = l ∷ later;
      told = refl;
      of = subst (λ (p : Polyhedron). IsOfPoints n given p (l ∷ later)) (sym em) (h (some_told l later));
    }

pub no_cone : (p view : Polyhedron) (more : List LinearRow) → view ≡ p → ¬ (MayTurn view.dims view.rows view.generators) → CannotExtend p more
no_cone p view more e fails = inl (subst (λ (x : Polyhedron). ¬ (MayTurn x.dims x.rows x.generators)) e fails)

pub strains_behind : (p : Polyhedron) (d : ℕ) (taken listed more : List LinearRow) → d ≡ p.dims → taken ≡ listed → listed ≡ p.generators → StrainsWhenTried d taken more → CannotExtend p more
strains_behind p d taken listed more ed et el h = inr (subst (λ (n : ℕ). StrainsWhenTried n p.generators more) ed (subst (λ (l : List LinearRow). StrainsWhenTried d l more) (et ∙ el) h))

pub unites_anew : (p made : Polyhedron) (more : List LinearRow) (o : Outcome) → CannotExtend p more → IfFlagged (λ _. AreTriedPoints p.dims (p.generators ++ more) made o) o →
    IfFlagged (λ _. UnitesAnew p more made o) o
unites_anew p made more o stops h = by_outcome o h
  where
    by_outcome : (x : Outcome) → IfFlagged (λ _. AreTriedPoints p.dims (p.generators ++ more) made o) x → IfFlagged (λ _. UnitesAnew p more made o) x
    by_outcome Exact h = tt
    by_outcome (Flagged loss) h = record { stops = stops; tried = h }

-- of the list that stands for the generators of an operation
pub tried_as : (n : ℕ) (given : List LinearRow) (list : LinearSystem GenKind) (made : Polyhedron) (o : Outcome) → list.dims ≡ n → generators list ≡ given →
    IfFlagged (λ _. AreTriedPoints list.dims (generators list) made o) o → IfFlagged (λ _. AreTriedPoints n given made o) o
tried_as n given list made o ed eg h = subst (λ (l : List LinearRow). IfFlagged (λ _. AreTriedPoints n l made o) o) eg
    (subst (λ (d : ℕ). IfFlagged (λ _. AreTriedPoints d (generators list) made o) o) ed h)
