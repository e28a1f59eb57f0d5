-- What a box says of the least and the greatest value of a form: the ends by which an assignment of the form sets the
-- bounds, and none if a number passes the range on the way.
use Rattle.std.specs.Prelude.{◌≡◌, ◌⊎◌, ℤ, ◌+ℤ◌, List, Option, None, Some}
use Rattle.lra_box.specs.Crates.{lra_linear_forms.Form.Form, lra_linear_spec.Range.InRange}
use Rattle.lra_box.specs.Bounds.{EndProductPasses, SumPasses, end_product, end_sum}
use Rattle.lra_box.specs.declared.interval.Side.TheVariants.{Low, High}
use Rattle.lra_box.specs.{declared.interval.Interval.Interval, declared.interval.Side.Side}

-- the end of a sum that begins with a number: the table's, or none if a product or a partial sum passes
abbrev pub IsEndFrom : Side → ℤ → List ℤ → List Interval → Option ℤ → Type 0
IsEndFrom side a cs is o =
    ((¬ SumPasses side a cs is) × (o ≡ end_sum side a cs is)) ⊎ (SumPasses side a cs is × (o ≡ None))

-- the least or the greatest value of the form over the intervals, as it is stated
abbrev pub IsEnd : Side → Form → List Interval → Option ℤ → Type 0
IsEnd side f is o = IsEndFrom side f.constant f.coefficients is o

-- both; an empty box says none
abbrev pub BoundsTell : Option (List Interval) → Form → Option ℤ → Option ℤ → Type 0
BoundsTell None f l h = (l ≡ None) × (h ≡ None)
BoundsTell (Some is) f l h = IsEnd Low f is l × IsEnd High f is h

-- a sum with one product more; none if there is no such product, or a number passes
pub record HasProduct (side : Side) (a c : ℤ) (i : Interval) (b : ℤ) : Type 0 where
  pub product : ℤ
  pub is : end_product side c i ≡ Some product
  pub fits : ¬ EndProductPasses side c i
  pub sum : b ≡ a +ℤ product
  pub in_range : InRange b

abbrev pub PlusEnd : Side → ℤ → ℤ → Interval → Option ℤ → Type 0
PlusEnd side a c i (Some b) = HasProduct side a c i b
PlusEnd side a c i None =
    ((¬ EndProductPasses side c i) × (end_product side c i ≡ None)) ⊎ EndProductPasses side c i
    ⊎ ((product : ℤ) × (end_product side c i ≡ Some product) × ¬ InRange (a +ℤ product))
