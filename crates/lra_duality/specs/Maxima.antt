-- The greatest value of a form on a polyhedron, given by its generators in their order. The value of the form c0, ..,
-- cn at a point is its product with the point's row, divided by the point's divisor.
use Rattle.std.specs.Prelude.{◌≡◌, ◌≢◌, ℕ, ◌⊎◌, ℤ, pos, ◌*ℤ◌, ◌<ℤ◌, ◌≤ℤ◌, Bool, true, false, cond, ⊤, List, [], ◌∷◌}
use Rattle.std.specs.{List.All, Prelude.IsOk, Prelude.IsErr}
use Rattle.lra_duality.specs.Crates.lra_linear_spec.declared.Excess as E
use Rattle.lra_duality.specs.Crates.lra_linear_spec.CheckedArithmetic.{checked_product}
use Rattle.lra_duality.specs.Crates.lra_linear_spec.Descriptions.{LinearRow, Con}
use Rattle.lra_duality.specs.Crates.lra_linear_spec.OperationStrain.{MaximiseStrains}
use Rattle.lra_duality.specs.Crates.lra_linear_spec.Points.{IsPoint, IsEmptySet}
use Rattle.lra_duality.specs.Crates.lra_linear_spec.Vectors.{entry, negated, product}
use Rattle.lra_duality.specs.Crates.{lra_linear_spec.LowestTerms.IsPrimitive, lra_linear_spec.Polyhedra.Polyhedron}
use Rattle.lra_duality.specs.Crates.{lra_linear_spec.Range.InRange, lra_systems.FirstPlaces.FirstAt}
use Rattle.lra_linear_forms.specs.Form.{Form, form_row}
use Rattle.lra_duality.specs.declared.maximum.Maximum.{Maximum}
use Rattle.lra_duality.specs.declared.maximum.Maximum.TheVariants.{Empty, Wide, Unbounded, At}

-- the form's row, or the row of its opposite: the least value of a form is, with its sign turned, the greatest of that
abbrev pub directed : Form → Bool → List ℤ
directed form is_opposite = cond is_opposite (negated (form_row form)) (form_row form)

-- ---- a form and a generator
abbrev pub StaysInRange : List ℤ → LinearRow → Type 0
StaysInRange form g = IsOk (checked_product form g.row)

abbrev pub PassesRange : List ℤ → LinearRow → Type 0
PassesRange form g = IsErr (checked_product form g.row)

-- a ray along which the form grows, or a line along which it changes
abbrev pub Improves : List ℤ → LinearRow → Type 0
Improves form g = (entry g.row 0 ≡ pos 0) ×
    (((g.equal ≡ false) × (pos 0 <ℤ product form g.row)) ⊎ ((g.equal ≡ true) × (product form g.row ≢ pos 0)))

abbrev pub DoesNotImprove : List ℤ → LinearRow → Type 0
DoesNotImprove form g = ¬ (Improves form g)

-- the form's value there is num / den
abbrev pub HasValue : List ℤ → ℤ → ℤ → List ℤ → Type 0
HasValue form num den x = product form x *ℤ den ≡ num *ℤ entry x 0

abbrev pub IsAtMost : List ℤ → ℤ → ℤ → List ℤ → Type 0
IsAtMost form num den x = (product form x *ℤ den) ≤ℤ (num *ℤ entry x 0)

abbrev pub IsBelow : List ℤ → ℤ → ℤ → List ℤ → Type 0
IsBelow form num den x = (product form x *ℤ den) <ℤ (num *ℤ entry x 0)

-- of a point; nothing is asked of a ray or line
abbrev pub OfPoint : (List ℤ → Type 0) → LinearRow → Type 0
OfPoint P g = pos 0 <ℤ entry g.row 0 → P g.row

-- ---- the generators
-- the point at the place has the value num / den, each point has at most that, and each before it less
pub record IsGreatest (form : List ℤ) (generators : List LinearRow) (num den : ℤ) (place : ℕ) : Type 0 where
  pub first : FirstAt (OfPoint (IsBelow form num den)) (λ g. (pos 0 <ℤ entry g.row 0) × HasValue form num den g.row)
      generators place
  pub others : All (OfPoint (IsAtMost form num den)) generators
  pub positive : pos 0 <ℤ den

abbrev pub IsMaximum : List ℤ → List LinearRow → Maximum → Type 0
IsMaximum form generators Empty = generators ≡ []
IsMaximum form generators (Wide place) = FirstAt (StaysInRange form) (PassesRange form) generators place
IsMaximum form generators (Unbounded place) =
    All (StaysInRange form) generators × FirstAt (DoesNotImprove form) (Improves form) generators place
IsMaximum form generators (At num den place) =
    All (StaysInRange form) generators × All (DoesNotImprove form) generators
    × IsGreatest form generators num den place × IsPrimitive (num ∷ den ∷ [])

-- a value that is reported is of numbers in the range, the lower one above 0
abbrev pub ValueInRange : Maximum → Type 0
ValueInRange Empty = ⊤
ValueInRange (Wide place) = ⊤
ValueInRange (Unbounded place) = ⊤
ValueInRange (At num den place) = InRange num × InRange den × (pos 0 <ℤ den)

-- ---- what it says of the set of points
-- some point has the value num / den, in lowest terms, and no point has more
pub record IsGreatestValue (p : Polyhedron) (form : List ℤ) (num den : ℤ) : Type 0 where
  pub point : List ℤ
  pub is_point : IsPoint p.dims point
  pub inside : Con p.rows point
  pub value : HasValue form num den point
  pub greatest : (x : List ℤ) → IsPoint p.dims x → Con p.rows x → IsAtMost form num den x
  pub positive : pos 0 <ℤ den
  pub lowest : IsPrimitive (num ∷ den ∷ [])

-- no number is at least each of the values
abbrev pub IsUnbounded : Polyhedron → List ℤ → Type 0
IsUnbounded p form = (most : ℤ) → ¬ ((x : List ℤ) → IsPoint p.dims x → Con p.rows x → IsAtMost form most (pos 1) x)

abbrev pub ReportsMaximum : Polyhedron → List ℤ → Maximum → Type 0
ReportsMaximum p form Empty = IsEmptySet p.dims (Con p.rows)
ReportsMaximum p form (Wide place) = (e : E.Excess) × MaximiseStrains p form e
ReportsMaximum p form (Unbounded place) = IsUnbounded p form
ReportsMaximum p form (At num den place) = IsGreatestValue p form num den
