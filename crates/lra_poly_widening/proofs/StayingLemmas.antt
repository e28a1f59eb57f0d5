-- What a widening keeps if it is flagged.
use Rattle.std.proofs.Common.{◌≡◌, ◌++◌, ℕ, List, [], inr, subst}
use Rattle.lra_poly_widening.specs.Crates.lra_linear_spec.OperationStrain.{tight_on, with_positivity}
use Rattle.lra_poly_widening.specs.Crates.{lra_linear_spec.Descriptions.LinearRow, lra_linear_spec.Polyhedra.Polyhedron, lra_linear_spec.declared.ConKind.ConKind}
use Rattle.lra_systems.specs.LinearSystems.{LinearSystem, constraints}
use Rattle.lra_poly.specs.{Restricted.IsTried, declared.outcome.Outcome.Outcome, declared.outcome.Outcome.TheVariants.Exact, declared.outcome.Outcome.TheVariants.Flagged}
use Rattle.lra_poly_widening.specs.{Rank.kept_thresholds, StayingRows.IsOfStaying, StayingRows.StaysOrIsGivenUp}

pub of_staying : (p q r : Polyhedron) (given : List LinearRow) (list : LinearSystem ConKind) (o : Outcome) → list.dims ≡ p.dims → constraints list ≡ tight_on p q ++ kept_thresholds p q given →
    IsTried list.dims (with_positivity list.dims []) (constraints list) r o → IsOfStaying p q given r
of_staying p q r given list o ed er tried = record {
  outcome = o;
  tried = subst (λ (l : List LinearRow). IsTried p.dims (with_positivity p.dims []) l r o) er
      (subst (λ (n : ℕ). IsTried n (with_positivity n []) (constraints list) r o) ed tried);
}

pub staying : (p q r : Polyhedron) (given : List LinearRow) (o : Outcome) → IsOfStaying p q given r → StaysOrIsGivenUp p q given r o
staying p q r given Exact h = tt
staying p q r given (Flagged loss) h = inr h
