-- What is reported about a widening.
use Rattle.std.specs.List.{Contains}
use Rattle.std.specs.Prelude.{◌≡◌, ◌⊎◌, ℕ, suc, true, List, [], ◌++◌, length}
use Rattle.lra_poly_widening.specs.Crates.lra_linear_spec.declared.Excess as E
use Rattle.lra_poly_widening.specs.Crates.lra_duality.declared.inclusion.Inclusion.TheVariants.{Yes, No, Wide}
use Rattle.lra_poly_widening.specs.Crates.lra_linear_spec.Descriptions.{LinearRow, Con}
use Rattle.lra_poly_widening.specs.Crates.lra_linear_spec.OperationStrain.{LimitedStrains, ProductsPass}
use Rattle.lra_poly_widening.specs.Crates.lra_linear_spec.Polyhedra.{HasPoint, IsPolyhedronOf, Polyhedron}
use Rattle.lra_poly_widening.specs.Crates.lra_linear_spec.Widening.{is_tight, LimitedWidening}
use Rattle.lra_poly_widening.specs.Crates.{lra_duality.Inclusions.IsInclusion, lra_linear_spec.Points.IsWithin}
use Rattle.lra_poly_widening.specs.Crates.{lra_linear_spec.declared.Cause.TheVariants.Excess}
use Rattle.lra_poly_widening.specs.Crates.lra_linear_spec.Strain as strain
use Rattle.lra_poly.specs.{Outcomes.Becomes, Outcomes.IfExact, declared.outcome.Outcome.Outcome}
use Rattle.lra_poly_widening.specs.declared.error.WidenError.TheVariants.{NotIncluded, Memory}
use Rattle.lra_poly_widening.specs.{Rank.holds_in_range, declared.error.WidenError.WidenError}

-- the place is that of the first generator of P outside Q, and no product before it passes
abbrev pub IsOutside : Polyhedron → Polyhedron → ℕ → Type 0
IsOutside p q place = IsInclusion q.rows p.generators (No place)

abbrev pub IsRefusal : Polyhedron → Polyhedron → WidenError → Type 0
IsRefusal p q (NotIncluded place) = IsOutside p q place
IsRefusal p q Memory = Unit {0}

-- a product passes before it is known whether P lies in Q; then it is flagged, and R has all points
pub record IsGivenUp (p q r : Polyhedron) (o : Outcome) : Type 0 where
  pub generator : ℕ
  pub row : ℕ
  pub wide : IsInclusion q.rows p.generators (Wide generator row)
  pub flagged : IfExact ⊥ o
  pub all : IsPolyhedronOf p.dims (Con []) r

-- P lies in Q, or is given up
abbrev pub LiesOrIsGivenUp : Polyhedron → Polyhedron → Polyhedron → Outcome → Type 0
LiesOrIsGivenUp p q r o = IsInclusion q.rows p.generators Yes ⊎ IsGivenUp p q r o

-- R is the polyhedron of rows each of which is tight on P, or is given and holds in range on P
pub record KeepsRows (p r : Polyhedron) (given : List LinearRow) : Type 0 where
  pub rows : List LinearRow
  pub made : IsPolyhedronOf r.dims (Con rows) r
  pub widths : (g : LinearRow) → Contains rows g → length g.row ≡ suc r.dims
  pub told : (g : LinearRow) → Contains rows g →
      (is_tight p g ≡ true) ⊎ (Contains given g × (holds_in_range p g ≡ true))

-- the loss of a row of Q, or of a given one, whose product with a generator of P or of Q passes
pub record PassesOnBoth (p q : Polyhedron) (given : List LinearRow) (loss : strain.Loss) : Type 0 where
  pub excess : E.Excess
  pub is_cause : loss.cause ≡ Excess excess
  pub passes : ProductsPass (q.rows ++ given) (p.generators ++ q.generators) excess
  pub is_further : loss.further ≡ passes.row
  pub nothing : loss.chosen ≡ []

-- R is what the widening of P by Q, limited by the thresholds, gives, and the outcome what it says
pub record IsLimitedWidening (p q : Polyhedron) (given : List LinearRow) (r : Polyhedron) (o : Outcome) : Type 0 where
  pub becomes : Becomes p.dims (LimitedWidening p q given) (LimitedStrains p q given) r o
  pub old : IsWithin p.dims (Con p.rows) (Con r.rows)
  pub keeps : HasPoint p → KeepsRows p r given

-- the rows have a column for the constant and one for each dimension
abbrev pub HaveColumns : ℕ → List LinearRow → Type 0
HaveColumns n given = (g : LinearRow) → Contains given g → length g.row ≡ suc n
