-- What the greatest values of a form and of its opposite report is what a polyhedron says of the form.
use Rattle.std.proofs.Common.{◌≡◌, ◌⊎◌, ℤ, neg_ℤ, List, [], ◌∷◌, None, Result, Ok, Err, IsErr, inl, inr, true, ap, refl, subst, sym}
use Rattle.std.proofs.lemmas.List.Elements.{All-contains}
use Rattle.std.specs.{List.All, List.Contains, Prelude.option_map}
use Rattle.lra_poly_domain.specs.Crates.lra_linear_forms.Form.{Form, form_row}
use Rattle.lra_linear_spec.specs.{CheckedArithmetic.checked_product, Descriptions.LinearRow, Descriptions.inequality, OperationStrain.MaximiseStrains, Polyhedra.Polyhedron, Vectors.negated}
use Rattle.lra_linear_spec.specs.declared.Excess as E
use Rattle.lra_linear_spec.proofs.{Membership.contains_cases, Membership.contains_head, Membership.contains_none, Products.negated_twice}
use Rattle.lra_duality.specs.declared.maximum.Maximum.TheVariants.{Empty, Wide, Unbounded, At}
use Rattle.lra_duality.specs.{Maxima.IsMaximum, Maxima.StaysInRange, Maxima.ReportsMaximum, declared.maximum.Maximum.Maximum}
use Rattle.lra_duality.proofs.MaximumLemmas.{opposite_fails}
use Rattle.lra_poly_domain.specs.Bounded.{IsGreatestRounded, PolyhedronBounded, rounded_down}

-- a product of the row with a generator passes
abbrev ProductStrains : Polyhedron → List ℤ → Type 0
ProductStrains p row = (e : E.Excess) × MaximiseStrains p row e

only : (r x : LinearRow) → Contains (r ∷ []) x → x ≡ r
only r x h = elim (contains_cases r x [] h) [
  | inl e ↦ sym e
  | inr c ↦ absurd (contains_none x c)
]

-- there is none if all stay in the range
none_passes : (p : Polyhedron) (row : List ℤ) → All (StaysInRange row) p.generators → ¬ ProductStrains p row
none_passes p row stays (e, x) =
    let same : x.row ≡ inequality row = only (inequality row) x.row x.has_row in
    let ok = All-contains (StaysInRange row) p.generators x.generator stays x.has_generator in
    absurd (both row x.row x.generator e same x.passes ok)
  where
    both : (row : List ℤ) (r g : LinearRow) (e : E.Excess) → r ≡ inequality row → checked_product r.row g.row ≡ Err e →
        StaysInRange row g → ⊥
    both row r g e same passes ok = cc

none_there : (p : Polyhedron) (row : List ℤ) → p.generators ≡ [] → ¬ ProductStrains p row
none_there p row e (f, x) = contains_none x.generator (subst (λ (l : List LinearRow). Contains l x.generator) e x.has_generator)

greatest_or_strained : (p : Polyhedron) (row : List ℤ) (m : Maximum) → IsMaximum row p.generators m → ReportsMaximum p row m →
    (ProductStrains p row × (rounded_down m ≡ None)) ⊎ ((¬ ProductStrains p row) × IsGreatestRounded p row (rounded_down m))
greatest_or_strained p row Empty first tells = inr (none_there p row first, inl tells)
greatest_or_strained p row (Wide place) first tells = inl (tells, refl)
greatest_or_strained p row (Unbounded place) first tells = inr (none_passes p row first.0, inr tells)
greatest_or_strained p row (At num den place) first tells = inr (none_passes p row first.0, (num, den, tells, refl))

-- the row exceeds a limit with its opposite
strains_opposite : (p : Polyhedron) (row : List ℤ) → ProductStrains p row → ProductStrains p (negated row)
strains_opposite p row (e, x) =
    let same : x.row ≡ inequality row = only (inequality row) x.row x.has_row in
    let fails = err_value (checked_product (negated row) x.generator.row)
    (opposite_fails true row x.generator.row (passing row x.row x.generator e same x.passes)) in (
      fails.0,
      record {
        row = inequality (negated row);
        has_row = contains_head (inequality (negated row)) [];
        generator = x.generator;
        has_generator = x.has_generator;
        passes = fails.1;
      },
    )
  where
    passing : (row : List ℤ) (r g : LinearRow) (e : E.Excess) → r ≡ inequality row → checked_product r.row g.row ≡ Err e →
        IsErr (checked_product row g.row)
    passing row r g e same passes = cc

    err_value : (r : Result ℤ E.Excess) → IsErr r → (e : E.Excess) × (r ≡ Err e)
    err_value (Err e) h = (e, refl)
    err_value (Ok z) h = let wrong : ⊥ = cc in absurd wrong

opposite_strains : (p : Polyhedron) (row : List ℤ) → ProductStrains p (negated row) → ProductStrains p row
opposite_strains p row s = subst (ProductStrains p) (negated_twice row) (strains_opposite p (negated row) s)

pub told : (p : Polyhedron) (f : Form) (o m : Maximum) → IsMaximum (negated (form_row f)) p.generators o →
    ReportsMaximum p (negated (form_row f)) o → IsMaximum (form_row f) p.generators m → ReportsMaximum p (form_row f) m →
    PolyhedronBounded p f (option_map neg_ℤ (rounded_down o)) (rounded_down m)
told p f o m first_o tells_o first_m tells_m =
    combined (greatest_or_strained p (negated (form_row f)) o first_o tells_o)
    (greatest_or_strained p (form_row f) m first_m tells_m)
  where
    combined : (ProductStrains p (negated (form_row f)) × (rounded_down o ≡ None)) ⊎
        ((¬ ProductStrains p (negated (form_row f))) × IsGreatestRounded p (negated (form_row f)) (rounded_down o)) →
        (ProductStrains p (form_row f) × (rounded_down m ≡ None)) ⊎
        ((¬ ProductStrains p (form_row f)) × IsGreatestRounded p (form_row f) (rounded_down m)) →
        PolyhedronBounded p f (option_map neg_ℤ (rounded_down o)) (rounded_down m)
    combined (inl a) (inl b) = inl (b.0, ap (option_map neg_ℤ) a.1, b.1)
    combined (inl a) (inr b) = absurd (b.0 (opposite_strains p (form_row f) a.0))
    combined (inr a) (inl b) = absurd (a.0 (strains_opposite p (form_row f) b.0))
    combined (inr a) (inr b) = inr (b.0, (rounded_down o, a.1, refl), b.1)
