-- What a widening keeps if it is flagged.
use Rattle.std.specs.Prelude.{◌⊎◌, List, [], ◌++◌}
use Rattle.lra_poly_widening.specs.Crates.lra_linear_spec.OperationStrain.{tight_on, with_positivity}
use Rattle.lra_poly_widening.specs.Crates.{lra_linear_spec.Descriptions.LinearRow, lra_linear_spec.Polyhedra.Polyhedron}
use Rattle.lra_poly.specs.{Outcomes.IfFlagged, Restricted.IsTried, declared.outcome.Outcome.Outcome}
use Rattle.lra_poly_widening.specs.{Rank.kept_thresholds, Widenings.IsGivenUp}

-- the rows of Q that are tight on P, and the given ones that hold in the range on both, were tried from nothing
pub record IsOfStaying (p q : Polyhedron) (given : List LinearRow) (r : Polyhedron) : Type 0 where
  pub outcome : Outcome
  pub tried : IsTried p.dims (with_positivity p.dims []) (tight_on p q ++ kept_thresholds p q given) r outcome

-- if it is flagged, unless it isn't known whether P lies in Q
abbrev pub StaysOrIsGivenUp : Polyhedron → Polyhedron → List LinearRow → Polyhedron → Outcome → Type 0
StaysOrIsGivenUp p q given r o = IfFlagged (λ _. IsGivenUp p q r o ⊎ IsOfStaying p q given r) o
