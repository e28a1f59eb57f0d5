-- What a polyhedron says of a form: the least and the greatest value on its rational points, rounded inwards to whole
-- numbers. Nothing is reported if there is no point, if there is no such value, or if a product of the form
-- with a generator passes the range.
use Rattle.std.specs.Int.{int_div_euclid}
use Rattle.std.specs.Prelude.{◌≡◌, ◌⊎◌, ℤ, neg_ℤ, List, Option, None, Some, option_map}
use Rattle.lra_poly_domain.specs.Crates.lra_linear_forms.Form.{Form, form_row}
use Rattle.lra_linear_spec.specs.declared.Excess as E
use Rattle.lra_linear_spec.specs.OperationStrain.{MaximiseStrains}
use Rattle.lra_linear_spec.specs.{Descriptions.Con, Points.IsEmptySet, Polyhedra.Polyhedron, Vectors.negated}
use Rattle.lra_duality.specs.Maxima.{IsGreatestValue, IsUnbounded}
use Rattle.lra_duality.specs.declared.maximum.Maximum.{Maximum}
use Rattle.lra_duality.specs.declared.maximum.Maximum.TheVariants.{Empty, Wide, Unbounded, At}

-- the greatest whole number that isn't above the greatest value
abbrev pub IsGreatestRounded : Polyhedron → List ℤ → Option ℤ → Type 0
IsGreatestRounded p row None = IsEmptySet p.dims (Con p.rows) ⊎ IsUnbounded p row
IsGreatestRounded p row (Some k) =
    (num : ℤ) × (den : ℤ) × IsGreatestValue p row num den × (k ≡ int_div_euclid num den)

-- the least that isn't below the least value: the least value is the greatest of the opposite, with its sign turned
abbrev pub IsLeastRounded : Polyhedron → List ℤ → Option ℤ → Type 0
IsLeastRounded p row low = (high : Option ℤ) × IsGreatestRounded p (negated row) high × (low ≡ option_map neg_ℤ high)

abbrev pub FormStrains : Polyhedron → Form → Type 0
FormStrains p form = (e : E.Excess) × MaximiseStrains p (form_row form) e

abbrev pub PolyhedronBounded : Polyhedron → Form → Option ℤ → Option ℤ → Type 0
PolyhedronBounded p form low high =
    (FormStrains p form × (low ≡ None) × (high ≡ None))
    ⊎ (¬ FormStrains p form × IsLeastRounded p (form_row form) low × IsGreatestRounded p (form_row form) high)

-- the floor of the greatest value, if there is one
abbrev pub rounded_down : Maximum → Option ℤ
rounded_down Empty = None
rounded_down (Wide place) = None
rounded_down (Unbounded place) = None
rounded_down (At num den place) = Some (int_div_euclid num den)
