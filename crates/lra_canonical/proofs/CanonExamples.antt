-- Worked rows, by the definitions.
use Rattle.std.proofs.Common.{◌≡◌, ◌↔◌, ℕ, zero, suc, ◌<◌, ◌^◌, ◌-◌, true, false, List, [], ◌∷◌, length, get_or, refl, ap, sym, ◌∙◌, subst, pos, negsuc, ℤ, ◌+ℤ◌, ◌*ℤ◌, ◌≤ℤ◌, Ok, arith, inl, inr}
use Rattle.std.proofs.{Common.true≢false, lemmas.Int.ints, lemmas.List.Elements.All-cons}
use Rattle.std.specs.{List.Contains, declared.cmp.Ordering.TheVariants.Less}
use Rattle.lra_canonical.specs.Crates.lra_linear_spec.Descriptions.{LinearRow, Gen, generator}
use Rattle.lra_canonical.specs.Crates.{lra_linear_spec.Echelon.Before, lra_linear_spec.LowestTerms.IsPrimitive, lra_linear_spec.Reduction.checked_clearing, lra_linear_spec.Vectors.entry}
use Rattle.lra_canonical.specs.Crates.{lra_linear_spec.Vectors.product, lra_linear_spec.declared.Operation.TheVariants.Product}
use Rattle.lra_canonical.proofs.Crates.lra_linear_spec.Membership.{contains_cases, contains_head, contains_none, contains_tail, each_two}
use Rattle.lra_canonical.proofs.Crates.lra_linear_spec.Ring.{ring, v, ◌⊕◌, ◌⊗◌}
use Rattle.lra_canonical.proofs.Crates.{lra_linear_spec.Descriptions.gen_generated, lra_linear_spec.LinearMaps.generated_nonneg, lra_linear_spec.LowestTerms.primitive_at, lra_linear_spec.Signs.as_nat}
use Rattle.lra_bits.specs.{Matrix.Matrix, TruthValues.value_at}
use Rattle.lra_canonical.specs.declared.order.Order.TheVariants.{Inequalities, Generators, Pivots}
use Rattle.lra_canonical.specs.{Echelons.HaveOneWidth, Irredundant.IsSaturation, Irredundant.Solutions, Ordered.cmp_by, Reduced.IsEchelonForm, Reduced.FirstPassing}

-- ---- 2 x1 + x2 = 0
abbrev sloped : List ℤ
sloped = pos 0 ∷ pos 2 ∷ pos 1 ∷ []

pub sloped_is_form : IsEchelonForm ((pos 0 ∷ pos 2 ∷ pos 1 ∷ []) ∷ [])
sloped_is_form = (
  1 ∷ [],
  (
    record { before = early; here = omega (arith, ints) },
    primitive_at sloped 2 refl,
    (λ t k. absurd (contains_none t k)),
    (λ q k. absurd (contains_none q k)),
    tt,
  ),
)
  where
    early : (j : ℕ) → Before j 1 → entry sloped j ≡ pos 0
    early j (p, inl h) = absurd (omega (arith, p, h))
    early j (p, inr h) = absurd (omega (arith, h))

-- 2 (1, 3, 4) - 3 (0, 2, 1) is (2, 0, 5), and no number is divided out
clearing_is : checked_clearing sloped (pos 1 ∷ pos 3 ∷ pos 4 ∷ []) ≡ Ok (pos 2 ∷ pos 0 ∷ pos 5 ∷ [])
clearing_is = refl

-- the greatest number in column 0 passes in its product with 2, the first of all
abbrev greatest : ℤ
greatest = pos (2 ^ 127 - 1)

pub greatest_passes : FirstPassing (sloped ∷ []) (greatest ∷ pos 1 ∷ pos 0 ∷ []) (record { op = Product; left = pos 2; right = greatest })
greatest_passes = record { earlier = []; line = sloped; later = []; is = refl; last = greatest ∷ pos 1 ∷ pos 0 ∷ []; clears = refl; cancels = λ e. absurd (omega (arith, ints, e)); passes = refl }

-- three rows of three columns
pub three_wide : (a b c : List ℤ) → length a ≡ 3 → length b ≡ 3 → length c ≡ 3 → HaveOneWidth (a ∷ b ∷ c ∷ [])
three_wide a b c la lb lc = (
  3,
  omega arith,
  All-cons (λ (r : List ℤ). length r ≡ 3) a (b ∷ c ∷ []) la
      (All-cons (λ (r : List ℤ). length r ≡ 3) b (c ∷ []) lb (All-cons (λ (r : List ℤ). length r ≡ 3) c [] lc (λ k d h. absurd (omega (arith, h))))),
)

-- ---- the half-line x1 >= 0 with its origin and its ray: x1 >= 0 is tight at the origin, the positivity row at the ray, and
-- 1 + x1 >= 0 nowhere
abbrev at_least : List (List ℤ)
at_least = (pos 0 ∷ pos 1 ∷ []) ∷ (pos 1 ∷ pos 0 ∷ []) ∷ (pos 1 ∷ pos 1 ∷ []) ∷ []

abbrev half_line : List LinearRow
half_line = generator (pos 1 ∷ pos 0 ∷ []) ∷ generator (pos 0 ∷ pos 1 ∷ []) ∷ []

abbrev tight_where : Matrix
tight_where = record { width = 2; rows = (true ∷ false ∷ []) ∷ (false ∷ true ∷ []) ∷ (false ∷ false ∷ []) ∷ [] }

each_of_three : (P : List ℤ → Type 0) (a b c : List ℤ) → P a → P b → P c → (r : List ℤ) → Contains (a ∷ b ∷ c ∷ []) r → P r
each_of_three P a b c p q s r k = elim (contains_cases a r (b ∷ c ∷ []) k) [
  | inl e ↦ subst P e p
  | inr m ↦ elim (contains_cases b r (c ∷ []) m) [ inl e ↦ subst P e q | inr n ↦ elim (contains_cases c r [] n) [ inl e ↦ subst P e s | inr o ↦ absurd (contains_none r o) ] ]
]

not_two : (a : ℤ) → a ≡ pos 1 → ¬ (a ≡ pos 0)
not_two a e z = omega (arith, ints, e, z)

pub half_line_saturation : IsSaturation 2 [] half_line at_least tight_where
half_line_saturation = record {
  is_form = ([], tt);
  form_widths = λ k d h. absurd (omega (arith, h));
  row_widths = three_long;
  widths = each_two (λ (g : LinearRow). length g.row ≡ 2) (generator (pos 1 ∷ pos 0 ∷ [])) (generator (pos 0 ∷ pos 1 ∷ [])) refl refl;
  described = λ u l. (made u l, λ g. ((λ r k. absurd (contains_none r k)), met u g));
  reduced = λ r line k m. absurd (contains_none line m);
  lowest = each_of_three IsPrimitive (pos 0 ∷ pos 1 ∷ []) (pos 1 ∷ pos 0 ∷ []) (pos 1 ∷ pos 1 ∷ []) (primitive_at (pos 0 ∷ pos 1 ∷ []) 1 refl) (primitive_at (pos 1 ∷ pos 0 ∷ []) 0 refl)
      (primitive_at (pos 1 ∷ pos 1 ∷ []) 0 refl);
  loose = each_of_three (λ (r : List ℤ). ¬ ((g : LinearRow) → Contains half_line g → product r g.row ≡ pos 0)) (pos 0 ∷ pos 1 ∷ []) (pos 1 ∷ pos 0 ∷ []) (pos 1 ∷ pos 1 ∷ [])
      (λ h. not_two (pos 1) refl (h (generator (pos 0 ∷ pos 1 ∷ [])) second)) (λ h. not_two (pos 1) refl (h (generator (pos 1 ∷ pos 0 ∷ [])) first))
      (λ h. not_two (pos 1) refl (h (generator (pos 1 ∷ pos 0 ∷ [])) first));
  columns = as_many;
  tight = told;
}
  where
    first : Contains half_line (generator (pos 1 ∷ pos 0 ∷ []))
    first = contains_head (generator (pos 1 ∷ pos 0 ∷ [])) (generator (pos 0 ∷ pos 1 ∷ []) ∷ [])

    second : Contains half_line (generator (pos 0 ∷ pos 1 ∷ []))
    second = contains_tail (generator (pos 1 ∷ pos 0 ∷ [])) (generator (pos 0 ∷ pos 1 ∷ [])) (generator (pos 0 ∷ pos 1 ∷ []) ∷ []) (contains_head (generator (pos 0 ∷ pos 1 ∷ [])) [])

    three_long : (k : ℕ) (d : List ℤ) → k < 3 → length (get_or at_least k d) ≡ 2
    three_long zero d h = refl
    three_long (suc zero) d h = refl
    three_long (suc (suc zero)) d h = refl
    three_long (suc (suc (suc k))) d h = absurd (omega (arith, h))

    as_many : (i : ℕ) → i < 3 → length (get_or tight_where.rows i []) ≡ 2
    as_many zero h = refl
    as_many (suc zero) h = refl
    as_many (suc (suc zero)) h = refl
    as_many (suc (suc (suc i))) h = absurd (omega (arith, h))

    never : (a : ℤ) → a ≡ pos 1 → (false ≡ true) ↔ (a ≡ pos 0)
    never a e = ((λ q. absurd (true≢false (sym q))), (λ q. absurd (not_two a e q)))

    told : (i j : ℕ) (g : LinearRow) → i < 3 → j < 2 → (value_at (get_or tight_where.rows i []) j ≡ true) ↔ (product (get_or at_least i []) (get_or half_line j g).row ≡ pos 0)
    told zero zero g h l = ((λ e. refl), (λ e. refl))
    told zero (suc zero) g h l = never (pos 1) refl
    told (suc zero) zero g h l = never (pos 1) refl
    told (suc zero) (suc zero) g h l = ((λ e. refl), (λ e. refl))
    told (suc (suc zero)) zero g h l = never (pos 1) refl
    told (suc (suc zero)) (suc zero) g h l = never (pos 1) refl
    told (suc (suc (suc i))) j g h l = absurd (omega (arith, h))
    told zero (suc (suc j)) g h l = absurd (omega (arith, l))
    told (suc zero) (suc (suc j)) g h l = absurd (omega (arith, l))
    told (suc (suc zero)) (suc (suc j)) g h l = absurd (omega (arith, l))

    made : (u : List ℤ) → length u ≡ 2 → Solutions [] at_least u → Gen half_line u
    made [] l s = absurd (omega (arith, l))
    made (a ∷ []) l s = absurd (omega (arith, l))
    made (a ∷ b ∷ c ∷ u) l s = absurd (omega (arith, l))
    made (a ∷ b ∷ []) l s =
        let x = as_nat a (subst (λ z. pos 0 ≤ℤ z) (ring (v (pos 1) ⊗ v a ⊕ (v (pos 0) ⊗ v b ⊕ v (pos 0))) (v a) (omega arith))
        (s.1 (pos 1 ∷ pos 0 ∷ []) (contains_tail (pos 0 ∷ pos 1 ∷ []) (pos 1 ∷ pos 0 ∷ []) ((pos 1 ∷ pos 0 ∷ []) ∷ (pos 1 ∷ pos 1 ∷ []) ∷ [])
        (contains_head (pos 1 ∷ pos 0 ∷ []) ((pos 1 ∷ pos 1 ∷ []) ∷ []))))) in
        let y = as_nat b (subst (λ z. pos 0 ≤ℤ z) (ring (v (pos 0) ⊗ v a ⊕ (v (pos 1) ⊗ v b ⊕ v (pos 0))) (v b) (omega arith))
        (s.1 (pos 0 ∷ pos 1 ∷ []) (contains_head (pos 0 ∷ pos 1 ∷ []) ((pos 1 ∷ pos 0 ∷ []) ∷ (pos 1 ∷ pos 1 ∷ []) ∷ [])))) in
        record { multiple = 1; positive = omega arith; free = []; factors = x.0 ∷ y.0 ∷ []; is_sum = λ j. column a b x.0 y.0 x.1 y.1 j }
      where
        column : (a b : ℤ) (m n : ℕ) → a ≡ pos m → b ≡ pos n → (j : ℕ) → pos 1 *ℤ entry (a ∷ b ∷ []) j ≡
            pos 0 +ℤ ((pos m *ℤ entry (pos 1 ∷ pos 0 ∷ []) j) +ℤ ((pos n *ℤ entry (pos 0 ∷ pos 1 ∷ []) j) +ℤ pos 0))
        column a b m n e f zero = ap (λ z. pos 1 *ℤ z) e ∙ ring (v (pos 1) ⊗ v (pos m)) (v (pos 0) ⊕ (v (pos m) ⊗ v (pos 1) ⊕ (v (pos n) ⊗ v (pos 0) ⊕ v (pos 0)))) (omega arith)
        column a b m n e f (suc zero) = ap (λ z. pos 1 *ℤ z) f ∙ ring (v (pos 1) ⊗ v (pos n)) (v (pos 0) ⊕ (v (pos m) ⊗ v (pos 0) ⊕ (v (pos n) ⊗ v (pos 1) ⊕ v (pos 0)))) (omega arith)
        column a b m n e f (suc (suc j)) = ring (v (pos 1) ⊗ v (pos 0)) (v (pos 0) ⊕ (v (pos m) ⊗ v (pos 0) ⊕ (v (pos n) ⊗ v (pos 0) ⊕ v (pos 0)))) (omega arith)

    met : (u : List ℤ) → Gen half_line u → (r : List ℤ) → Contains at_least r → pos 0 ≤ℤ product r u
    met u g = each_of_three (λ (r : List ℤ). pos 0 ≤ℤ product r u) (pos 0 ∷ pos 1 ∷ []) (pos 1 ∷ pos 0 ∷ []) (pos 1 ∷ pos 1 ∷ [])
        (at (pos 0 ∷ pos 1 ∷ []) (omega (arith, ints)) (omega (arith, ints))) (at (pos 1 ∷ pos 0 ∷ []) (omega (arith, ints)) (omega (arith, ints)))
        (at (pos 1 ∷ pos 1 ∷ []) (omega (arith, ints)) (omega (arith, ints)))
      where
        at : (r : List ℤ) → pos 0 ≤ℤ product r (pos 1 ∷ pos 0 ∷ []) → pos 0 ≤ℤ product r (pos 0 ∷ pos 1 ∷ []) → pos 0 ≤ℤ product r u
        at r p q = generated_nonneg r ((pos 1 ∷ pos 0 ∷ []) ∷ (pos 0 ∷ pos 1 ∷ []) ∷ []) (entry u) (each_two (λ (t : List ℤ). pos 0 ≤ℤ product r t) (pos 1 ∷ pos 0 ∷ []) (pos 0 ∷ pos 1 ∷ []) p q)
            (gen_generated half_line (entry u) g)

-- ---- orders
-- of inequalities with one pivot the greater stands first; column 0 decides last
inequalities_are : cmp_by Inequalities (pos 0 ∷ pos 1 ∷ pos 0 ∷ []) (pos 1 ∷ negsuc 0 ∷ pos 0 ∷ []) ≡ Less
inequalities_are = refl

generators_are : cmp_by Generators (pos 2 ∷ negsuc 0 ∷ pos 0 ∷ []) (pos 1 ∷ pos 0 ∷ pos 0 ∷ []) ≡ Less
generators_are = refl

-- a line of column 0 alone stands last
pivots_are : cmp_by Pivots (pos 0 ∷ pos 0 ∷ pos 1 ∷ []) (pos 1 ∷ pos 0 ∷ pos 0 ∷ []) ≡ Less
pivots_are = refl
