-- Parts that say what their domain has. Which slip an example would catch stands beside it.
use Rattle.std.proofs.Common.{◌≡◌, ℕ, zero, suc, ℤ, pos, negsuc, ◌*ℤ◌, List, [], ◌∷◌, refl, arith, length, ◌+ℤ◌}
use Rattle.std.proofs.lemmas.Int.{ints}
use Rattle.std.specs.{Int.Signed.le_z_yes, Prelude.get_or, Prelude.map}
use Rattle.lra_options.specs.declared.options.Domain.TheVariants.{Poly, Box}
use Rattle.lra_row_text.specs.{Part.ReportGenerator, Rows.ReportRow}
use Rattle.lra_report.specs.Crates.lra_linear_spec.Vectors.{product}
use Rattle.lra_report.proofs.Crates.lra_linear_spec.Products.{product_none}
use Rattle.lra_report.specs.Parts.{RationalPoint, LiesInPart, IsGenerated, HasSamePoints, ShowsPart}
use Rattle.lra_report.proofs.ReportTextExamples.{both, rows_alone, a_point, a_ray, is_positive}

abbrev rational : ℕ → List ℤ → RationalPoint
rational d xs = record { divisor = d; numerators = xs }

-- x >= 1/2
abbrev half_up : List ReportRow
half_up = is_positive (negsuc 0) (pos 2 ∷ []) ∷ []

abbrev half_and_ray : List ReportGenerator
half_and_ray = a_point 2 (pos 1 ∷ []) ∷ a_ray (pos 1 ∷ []) ∷ []

-- the vector (4, 3) of 3/4 is twice the point's (2, 1) and once the ray's (0, 1): catches points that are summed without their divisors
three_quarters : LiesInPart half_up (rational 4 (pos 3 ∷ [])) × IsGenerated half_and_ray (rational 4 (pos 3 ∷ []))
three_quarters = (
  (le_z_yes tt, tt),
  record {
    multiple = 1;
    positive = omega arith;
    factors = pos 2 ∷ pos 1 ∷ [];
    are_factors = (le_z_yes tt, (le_z_yes tt, tt));
    divisor = refl;
    numerators = columns;
  },
)
  where
    columns : (j : ℕ) → pos 1 *ℤ get_or (pos 3 ∷ []) j (pos 0)
        ≡ product (pos 2 ∷ pos 1 ∷ []) (map (λ (g : ReportGenerator). get_or g.numbers j (pos 0)) half_and_ray)
    columns zero = refl
    columns (suc j) = refl

-- main without variables: the point without coordinates
empty_main_tells : ShowsPart Poly 0 (both [] (a_point 1 [] ∷ []))
empty_main_tells = ((omega arith, tt), same, (rational 1 [], record { width = refl; divides = omega arith }, tt))
  where
    columns : (d : ℕ) (xs : List ℤ) → length xs ≡ 0 → (j : ℕ) → pos 1 *ℤ get_or xs j (pos 0) ≡ (pos d *ℤ pos 0) +ℤ pos 0
    columns d [] e j = omega (arith, ints)
    columns d (x ∷ xs) e j = absurd (omega (arith, e))

    same : HasSamePoints 0 (both [] (a_point 1 [] ∷ []))
    same x is_point = (
      λ within. record {
        multiple = 1;
        positive = omega arith;
        factors = pos x.divisor ∷ [];
        are_factors = (omega (arith, ints), tt);
        divisor = omega (arith, ints);
        numerators = columns x.divisor x.numerators is_point.width;
      },
      λ generated. tt,
    )

pub box_with_generator : ShowsPart Box 0 (both [] (a_point 1 [] ∷ [])) → ⊥
box_with_generator h = cc

-- a divisor 0, and rows without a generator
divided_by_zero : ShowsPart Poly 0 (both [] (a_point 0 [] ∷ [])) → ⊥
divided_by_zero h = omega (arith, h.0.0)

rows_without_generators : ShowsPart Poly 0 (rows_alone []) → ⊥
rows_without_generators h = none ((h.1 (rational 1 []) (record { width = refl; divides = omega arith })).0 tt)
  where
    none : IsGenerated [] (rational 1 []) → ⊥
    none g = let z = product_none g.factors in omega (arith, ints, z, g.positive, g.divisor)
