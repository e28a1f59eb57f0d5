-- The least value of a form on a polyhedron: with its sign turned, the greatest value of the form's opposite.
use Rattle.std.specs.Prelude.{ℤ, pos, neg_ℤ, ◌*ℤ◌, ◌<ℤ◌, ◌≤ℤ◌, ⊤, List, [], ◌∷◌}
use Rattle.lra_poly_queries.specs.Crates.lra_linear_spec.declared.Excess as E
use Rattle.lra_poly_queries.specs.Crates.lra_duality.Maxima.{HasValue, IsMaximum}
use Rattle.lra_poly_queries.specs.Crates.lra_linear_spec.Descriptions.{LinearRow, Con}
use Rattle.lra_poly_queries.specs.Crates.lra_linear_spec.LowestTerms.{IsPrimitive}
use Rattle.lra_poly_queries.specs.Crates.lra_linear_spec.OperationStrain.{MaximiseStrains}
use Rattle.lra_poly_queries.specs.Crates.lra_linear_spec.Points.{IsPoint, IsEmptySet}
use Rattle.lra_poly_queries.specs.Crates.lra_linear_spec.Polyhedra.{Polyhedron}
use Rattle.lra_poly_queries.specs.Crates.lra_linear_spec.Vectors.{entry, negated, product}
use Rattle.lra_poly_queries.specs.Crates.{lra_duality.declared.maximum.Maximum.Maximum, lra_linear_spec.Range.InRange}
use Rattle.lra_poly_queries.specs.Crates.lra_duality.declared.maximum.Maximum.TheVariants as greatest
use Rattle.lra_poly_queries.specs.declared.minimum.Minimum.{Minimum}
use Rattle.lra_poly_queries.specs.declared.minimum.Minimum.TheVariants.{Empty, Wide, Unbounded, At}

-- the form's value at the point is at least num / den
abbrev pub IsAtLeast : List ℤ → ℤ → ℤ → List ℤ → Type 0
IsAtLeast form num den x = (num *ℤ entry x 0) ≤ℤ (product form x *ℤ den)

-- some point has the value num / den, in lowest terms, and no point has less
pub record IsLeastValue (p : Polyhedron) (form : List ℤ) (num den : ℤ) : Type 0 where
  pub point : List ℤ
  pub is_point : IsPoint p.dims point
  pub inside : Con p.rows point
  pub value : HasValue form num den point
  pub least : (x : List ℤ) → IsPoint p.dims x → Con p.rows x → IsAtLeast form num den x
  pub positive : pos 0 <ℤ den
  pub lowest : IsPrimitive (num ∷ den ∷ [])

-- no number is at most each of the values
abbrev pub IsUnboundedBelow : Polyhedron → List ℤ → Type 0
IsUnboundedBelow p form =
    (least : ℤ) → ¬ ((x : List ℤ) → IsPoint p.dims x → Con p.rows x → IsAtLeast form least (pos 1) x)

abbrev pub TellsMinimum : Polyhedron → List ℤ → Minimum → Type 0
TellsMinimum p form Empty = IsEmptySet p.dims (Con p.rows)
TellsMinimum p form (Wide place) = (e : E.Excess) × MaximiseStrains p (negated form) e
TellsMinimum p form (Unbounded place) = IsUnboundedBelow p form
TellsMinimum p form (At num den place) = IsLeastValue p form num den

-- ---- which generator decides: the one that decides of the opposite's greatest value
abbrev pub turned : Minimum → Maximum
turned Empty = greatest.Empty
turned (Wide place) = greatest.Wide place
turned (Unbounded place) = greatest.Unbounded place
turned (At num den place) = greatest.At (neg_ℤ num) den place

abbrev pub IsMinimum : List ℤ → List LinearRow → Minimum → Type 0
IsMinimum form generators m = IsMaximum (negated form) generators (turned m)

-- a value that is reported is of numbers in the range
abbrev pub LeastInRange : Minimum → Type 0
LeastInRange Empty = ⊤
LeastInRange (Wide place) = ⊤
LeastInRange (Unbounded place) = ⊤
LeastInRange (At num den place) = InRange num × InRange den
