-- A form has its least value where its opposite has its greatest.
use Rattle.std.proofs.Common.{◌≡◌, ℕ, zero, suc, ℤ, pos, neg_ℤ, ◌*ℤ◌, List, [], ◌∷◌, ap, ◌∙◌, subst, arith, sym}
use Rattle.std.proofs.lemmas.Int.{ints}
use Rattle.std.specs.{Int.◌∣◌, Prelude.unsigned_abs}
use Rattle.lra_poly_queries.proofs.Crates.{lra_linear_forms.FormLemmas.neg_product, lra_linear_spec.Products.negated_dot}
use Rattle.lra_poly_queries.specs.Crates.lra_duality.Maxima.{IsGreatestValue, IsMaximum, IsUnbounded, HasValue, IsAtMost}
use Rattle.lra_poly_queries.specs.Crates.{lra_duality.declared.maximum.Maximum.TheVariants.At, lra_linear_spec.Descriptions.LinearRow, lra_linear_spec.LowestTerms.IsPrimitive}
use Rattle.lra_poly_queries.specs.Crates.{lra_linear_spec.Polyhedra.Polyhedron, lra_linear_spec.Vectors.entry, lra_linear_spec.Vectors.product, lra_linear_spec.Vectors.negated}
use Rattle.lra_poly_queries.specs.Minima.{IsAtLeast, IsLeastValue, IsUnboundedBelow}

-- the opposite's value is the value, turned
value_opposite : (form x : List ℤ) (den : ℤ) → product (negated form) x *ℤ den ≡ neg_ℤ (product form x *ℤ den)
value_opposite form x den =
    ap (λ (z : ℤ). z *ℤ den) (negated_dot form (entry x)) ∙ neg_product (product form x) den

at_most_turned : (form x : List ℤ) (num den : ℤ) → IsAtMost (negated form) num den x → IsAtLeast form (neg_ℤ num) den x
at_most_turned form x num den h =
    let t = value_opposite form x den in
    let r = neg_product num (entry x 0) in
    omega (arith, ints)

at_least_turned : (form x : List ℤ) (low : ℤ) → IsAtLeast form low (pos 1) x → IsAtMost (negated form) (neg_ℤ low) (pos 1) x
at_least_turned form x low h =
    let t = value_opposite form x (pos 1) in
    let r = neg_product low (entry x 0) in
    omega (arith, ints)

value_turned : (form x : List ℤ) (num den : ℤ) → HasValue (negated form) num den x → HasValue form (neg_ℤ num) den x
value_turned form x num den h =
    let t = value_opposite form x den in
    let r = neg_product num (entry x 0) in
    omega (arith, ints)

abs_turned : (a : ℤ) → unsigned_abs (neg_ℤ a) ≡ unsigned_abs a
abs_turned a = omega (arith, ints)

lowest_turned : (num den : ℤ) → IsPrimitive (num ∷ den ∷ []) → IsPrimitive (neg_ℤ num ∷ den ∷ [])
lowest_turned num den h d all = h d by_column
  where
    by_column : (j : ℕ) → d ∣ unsigned_abs (entry (num ∷ den ∷ []) j)
    by_column zero = subst (λ (n : ℕ). d ∣ n) (abs_turned num) (all zero)
    by_column (suc j) = all (suc j)

least_turned : (p : Polyhedron) (form : List ℤ) (num den : ℤ) → IsGreatestValue p (negated form) num den → IsLeastValue p form (neg_ℤ num) den
least_turned p form num den h = record {
  point = h.point;
  is_point = h.is_point;
  inside = h.inside;
  value = value_turned form h.point num den h.value;
  least = λ x i c. at_most_turned form x num den (h.greatest x i c);
  positive = h.positive;
  lowest = lowest_turned num den h.lowest;
}

pub least_value : (p : Polyhedron) (form : List ℤ) (num den value : ℤ) → value ≡ neg_ℤ num → IsGreatestValue p (negated form) num den → IsLeastValue p form value den
least_value p form num den value e h = subst (λ (z : ℤ). IsLeastValue p form z den) (sym e) (least_turned p form num den h)

pub least_place : (form : List ℤ) (generators : List LinearRow) (num den value : ℤ) (place : ℕ) → value ≡ neg_ℤ num → IsMaximum (negated form) generators (At num den place) →
    IsMaximum (negated form) generators (At (neg_ℤ value) den place)
least_place form generators num den value place e h = subst (λ (z : ℤ). IsMaximum (negated form) generators (At z den place)) (twice num value e) h
  where
    twice : (num value : ℤ) → value ≡ neg_ℤ num → num ≡ neg_ℤ value
    twice num value e = omega (arith, ints, e)

pub unbounded_below : (p : Polyhedron) (form : List ℤ) → IsUnbounded p (negated form) → IsUnboundedBelow p form
unbounded_below p form h = λ low all. h (neg_ℤ low) (λ x i c. at_least_turned form x low (all x i c))
