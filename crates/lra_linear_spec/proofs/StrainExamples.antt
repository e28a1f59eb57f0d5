-- Worked examples of strain: a list of constraints that exceeds a limit by its third row only, in one dimension; an
-- image one of whose numbers passes the range, and one whose numbers just fit; two points that fit, since a line isn't
-- taken with itself; and an inclusion that fails at a line. M is the greatest number of the range.
use Rattle.std.proofs.Common.{Bool, Err, List, Ok, Result, [], ap, arith, inl, inr, length, neg_ℤ, negsuc, pos, refl, subst, suc, sym, true, zero, ℕ, ℤ, ◌*ℤ◌, ◌+ℤ◌, ◌++◌, ◌-◌, ◌<◌, ◌^◌, ◌∙◌, ◌∷◌, ◌≡◌}
use Rattle.std.proofs.{Common.◌≤ℤ◌, Common.◌⊎◌, lemmas.Bool.and_parts, lemmas.Int.ints}
use Rattle.std.specs.{List.Contains, List.list_all, Prelude.is_ok, Prelude.◌&&◌}
use Rattle.lra_linear_spec.specs.ConeStrain.{PairAcross, PairPasses, ProductPasses}
use Rattle.lra_linear_spec.specs.Descriptions.{Con, Gen, LinearRow, equality, generator, inequality, line, system_of}
use Rattle.lra_linear_spec.specs.{Canonical.IsCanonical, CheckedArithmetic.checked_blend, CheckedArithmetic.checked_product, Cones.AreDual, Cones.Generated, Cones.all_rows, Echelon.Before}
use Rattle.lra_linear_spec.specs.{Echelon.HasPivot, LowestTerms.IsPrimitive, OperationStrain.ImageStrains, OperationStrain.with_positivity, Points.IsWithin, Polyhedra.Polyhedron, Polyhedra.positivity}
use Rattle.lra_linear_spec.specs.{Strain.InOther, Strain.Strains, Vectors.entry, Vectors.negated, Vectors.product, declared.Cause.TheVariants.Excess, declared.Operation.TheVariants.Product}
use Rattle.lra_linear_spec.specs.declared.Excess as E
use Rattle.lra_linear_spec.proofs.Membership.{contains_cases, contains_head, contains_none, contains_tail, each_one, each_three, each_two, list_all_at, split_none, split_one, split_two}
use Rattle.lra_linear_spec.proofs.{Combinations.not_from_above, Combinations.not_from_zero, Descriptions.con_head, LinearMaps.separated, Lines.generated_described, LowestTerms.primitive_at}
use Rattle.lra_linear_spec.proofs.{Products.entry_past, Products.negated_twice, Ring.ring, Ring.v, Ring.⊖, Ring.◌⊕◌, Ring.◌⊗◌, Signs.as_nat}

abbrev pub greatest : ℕ
greatest = 2 ^ 127 - 1

-- ---- a list of which no number passes
-- no product of c with a row, and no combination of two, passes
abbrev fits : List ℤ → List (List ℤ) → Bool
fits c rows =
    list_all (λ u. is_ok (checked_product c u)) rows && list_all (λ u. list_all (λ d. is_ok (checked_blend (neg_ℤ (product c d)) (product c u) u d)) rows) rows

ok_not_err : {A : Type 0} (r : Result A E.Excess) (e : E.Excess) → is_ok r ≡ true → r ≡ Err e → ⊥
ok_not_err (Ok x) e h k = cc
ok_not_err (Err f) e h k = cc

pub fits_not_strained : (c : List ℤ) (rows : List (List ℤ)) → fits c rows ≡ true → (e : E.Excess) → ¬ (ProductPasses c rows e ⊎ PairPasses c rows e)
fits_not_strained c rows h e (inl p) =
    let b = and_parts (list_all (λ u. is_ok (checked_product c u)) rows) (list_all (λ u. list_all (λ d. is_ok (checked_blend (neg_ℤ (product c d)) (product c u) u d)) rows) rows) h in
    ok_not_err (checked_product c p.row) e (list_all_at (λ u. is_ok (checked_product c u)) rows b.0 p.row p.has) p.passes
fits_not_strained c rows h e (inr p) =
    let b = and_parts (list_all (λ u. is_ok (checked_product c u)) rows) (list_all (λ u. list_all (λ d. is_ok (checked_blend (neg_ℤ (product c d)) (product c u) u d)) rows) rows) h in
    ok_not_err (checked_blend (neg_ℤ (product c p.down)) (product c p.up) p.up p.down) e
    (list_all_at (λ d. is_ok (checked_blend (neg_ℤ (product c d)) (product c p.up) p.up d)) rows
    (list_all_at (λ u. list_all (λ d. is_ok (checked_blend (neg_ℤ (product c d)) (product c u) u d)) rows) rows b.1 p.up p.across.has_up) p.down p.across.has_down)
    p.passes

-- ---- the list: the positivity row, x1 at least -M, and 2 x1 at least 0
abbrev positive : List ℤ
positive = positivity 1

abbrev from_minus : List ℤ
from_minus = pos greatest ∷ pos 1 ∷ []

abbrev doubled : List ℤ
doubled = pos 0 ∷ pos 2 ∷ []

abbrev pub three_rows : List LinearRow
three_rows = with_positivity 1 (inequality from_minus ∷ inequality doubled ∷ [])

-- the vertex -M and the ray upwards
abbrev vertex : List ℤ
vertex = pos 1 ∷ neg_ℤ (pos greatest) ∷ []

abbrev up : List ℤ
up = pos 0 ∷ pos 1 ∷ []

abbrev down : List ℤ
down = pos 0 ∷ negsuc 0 ∷ []

abbrev unit : List ℤ
unit = pos 1 ∷ pos 0 ∷ []

-- ---- with no row taken the whole plane is left, by its two lines
before_one : (j : ℕ) → Before j 1 → ⊥
before_one j b = elim b.1 [ inl h ↦ let p = b.0 in omega (arith, p, h) | inr e ↦ let k : 1 ≡ 0 = e in omega (arith, k) ]

unit_later : (j : ℕ) → 0 < j → entry unit j ≡ pos 0
unit_later zero h = absurd (omega (arith, h))
unit_later (suc zero) h = refl
unit_later (suc (suc j)) h = refl

up_leads : HasPivot up 1
up_leads = record { before = λ j b. absurd (before_one j b); here = omega (arith, ints) }

unit_leads : HasPivot unit 0
unit_leads = record { before = λ j b. unit_later j b.0; here = omega (arith, ints) }

pub plane_canonical : IsCanonical (up ∷ unit ∷ []) []
plane_canonical = record {
  pivots = 1 ∷ 0 ∷ [];
  echelon = (
    up_leads,
    primitive_at up 1 refl,
    λ t k j h. each_one (λ y. entry y j ≡ pos 0) unit (elim h [ inl b ↦ absurd (before_one j b) | inr e ↦ unit_later j (omega (arith, e)) ]) t k,
    λ q k. elim (contains_cases 0 q [] k) [ inl e ↦ ap (entry up) (sym e) | inr n ↦ absurd (contains_none q n) ],
    (unit_leads, primitive_at unit 0 refl, λ t k. absurd (contains_none t k), λ q k. absurd (contains_none q k), tt),
  );
  reduced = λ r k. absurd (contains_none r k);
  lowest = λ r k. absurd (contains_none r k);
  needed = λ front r back e. absurd (split_none front r back e);
  pointed = λ r k. absurd (contains_none r k);
}

-- a row of two columns by its entries
two_columns : (u : List ℤ) → length u ≡ 2 → (a b : ℤ) → entry u 0 ≡ a → entry u 1 ≡ b → (j : ℕ) → entry u j ≡ entry (a ∷ b ∷ []) j
two_columns u l a b e f zero = e
two_columns u l a b e f (suc zero) = f
two_columns u l a b e f (suc (suc j)) = entry_past u (suc (suc j)) (omega (arith, l))

pub plane_dual : AreDual 2 [] (all_rows (up ∷ unit ∷ []) [])
plane_dual = record {
  system_widths = λ c k. absurd (contains_none c k);
  row_widths = λ t k. four (λ y. length y ≡ 2) up down unit (negated unit) refl refl refl refl t k;
  solutions = λ u l s. generated_described (up ∷ unit ∷ []) [] (entry u) (record { multiple = 1; positive = omega arith; free = entry u 1 ∷ entry u 0 ∷ []; factors = []; is_sum = spread u l });
  consequences = λ c l s. record {
    multiple = 1;
    positive = omega arith;
    factors = [];
    is_sum = λ j. ap (λ z. pos 1 *ℤ z) (two_columns c l (pos 0) (pos 0)
        (between (entry c 0) (s unit (contains_tail up unit (down ∷ unit ∷ negated unit ∷ []) (contains_tail down unit (unit ∷ negated unit ∷ []) (contains_head unit (negated unit ∷ [])))))
        (s (negated unit) (contains_tail up (negated unit) (down ∷ unit ∷ negated unit ∷ [])
        (contains_tail down (negated unit) (unit ∷ negated unit ∷ []) (contains_tail unit (negated unit) (negated unit ∷ []) (contains_head (negated unit) []))))) (omega (arith, ints))
        (omega (arith, ints)))
        (between (entry c 1) (s up (contains_head up (down ∷ unit ∷ negated unit ∷ []))) (s down
        (contains_tail up down (down ∷ unit ∷ negated unit ∷ []) (contains_head down (unit ∷ negated unit ∷ [])))) (omega (arith, ints)) (omega (arith, ints))) j) ∙ zeros_there j;
  };
  meets = λ r k c n. absurd (contains_none c n);
}
  where
    four : (P : List ℤ → Type 0) (a b c d : List ℤ) → P a → P b → P c → P d → (t : List ℤ) → Contains (a ∷ b ∷ c ∷ d ∷ []) t → P t
    four P a b c d p q r s t k = elim (contains_cases a t (b ∷ c ∷ d ∷ []) k) [ inl e ↦ subst P e p | inr n ↦ each_three P b c d q r s t n ]

    spread : (u : List ℤ) → length u ≡ 2 → (j : ℕ) → pos 1 *ℤ entry u j ≡ ((entry u 1 *ℤ entry up j) +ℤ ((entry u 0 *ℤ entry unit j) +ℤ pos 0)) +ℤ pos 0
    spread u l zero = ring (v (pos 1) ⊗ v (entry u 0)) ((v (entry u 1) ⊗ v (pos 0) ⊕ (v (entry u 0) ⊗ v (pos 1) ⊕ v (pos 0))) ⊕ v (pos 0)) (omega arith)
    spread u l (suc zero) = ring (v (pos 1) ⊗ v (entry u 1)) ((v (entry u 1) ⊗ v (pos 1) ⊕ (v (entry u 0) ⊗ v (pos 0) ⊕ v (pos 0))) ⊕ v (pos 0)) (omega arith)
    spread u l (suc (suc j)) = ap (λ z. pos 1 *ℤ z) (entry_past u (suc (suc j)) (omega (arith, l))) ∙
        ring (v (pos 1) ⊗ v (pos 0)) ((v (entry u 1) ⊗ v (pos 0) ⊕ (v (entry u 0) ⊗ v (pos 0) ⊕ v (pos 0))) ⊕ v (pos 0)) (omega arith)

    between : (z : ℤ) {a b : ℤ} → pos 0 ≤ℤ a → pos 0 ≤ℤ b → a ≡ z → b ≡ neg_ℤ z → z ≡ pos 0
    between z h k e f = omega (arith, ints, h, k, e, f)

    zeros_there : (j : ℕ) → pos 1 *ℤ entry (pos 0 ∷ pos 0 ∷ []) j ≡ pos 0
    zeros_there zero = refl
    zeros_there (suc zero) = refl
    zeros_there (suc (suc j)) = refl

-- no number passes as the positivity row is taken
pub first_fits : (e : E.Excess) → ¬ (ProductPasses positive (all_rows (up ∷ unit ∷ []) []) e ⊎ PairPasses positive (all_rows (up ∷ unit ∷ []) []) e)
first_fits = fits_not_strained positive (all_rows (up ∷ unit ∷ []) []) refl

-- ---- then a line and a ray are left
pub half_canonical : IsCanonical (up ∷ []) (unit ∷ [])
half_canonical = record {
  pivots = 1 ∷ [];
  echelon = (up_leads, primitive_at up 1 refl, λ t k. absurd (contains_none t k), λ q k. absurd (contains_none q k), tt);
  reduced = λ r k q n. each_one (λ t. entry t q ≡ pos 0) unit (elim (contains_cases 1 q [] n) [ inl e ↦ ap (entry unit) (sym e) | inr x ↦ absurd (contains_none q x) ]) r k;
  lowest = each_one IsPrimitive unit (primitive_at unit 0 refl);
  needed = split_one (λ others t. ¬ (Generated (all_rows (up ∷ []) others) (entry t))) unit
      (not_from_zero (up ∷ down ∷ []) (entry unit) 0 (each_two (λ t. entry t 0 ≡ pos 0) up down refl refl) (omega (arith, ints)));
  pointed = each_one (λ t. ¬ (Generated (all_rows (up ∷ []) (unit ∷ [])) (λ j. neg_ℤ (entry t j)))) unit
      (not_from_above (unit ∷ up ∷ down ∷ []) (λ j. neg_ℤ (entry unit j)) 0 (each_three (λ t. pos 0 ≤ℤ entry t 0) unit up down (omega (arith, ints)) (omega (arith, ints)) (omega (arith, ints)))
      (omega (arith, ints)));
}

pub half_dual : AreDual 2 (positive ∷ []) (all_rows (up ∷ []) (unit ∷ []))
half_dual = record {
  system_widths = each_one (λ t. length t ≡ 2) positive refl;
  row_widths = each_three (λ t. length t ≡ 2) unit up down refl refl refl;
  solutions = λ u l s.
      let a = as_nat (entry u 0) (let z = s positive (contains_head positive []) in omega (arith, ints, z)) in
      generated_described (up ∷ []) (unit ∷ []) (entry u) (record { multiple = 1; positive = omega arith; free = entry u 1 ∷ []; factors = a.0 ∷ []; is_sum = spread u l a.0 a.1 });
  consequences = λ c l s.
      let a = as_nat (entry c 0) (let z = s unit (contains_head unit (up ∷ down ∷ [])) in omega (arith, ints, z)) in
      let x = s up (contains_tail unit up (up ∷ down ∷ []) (contains_head up (down ∷ []))) in
      let y = s down (contains_tail unit down (up ∷ down ∷ []) (contains_tail up down (down ∷ []) (contains_head down []))) in
      record {
        multiple = 1;
        positive = omega arith;
        factors = a.0 ∷ [];
        is_sum = λ j. ap (λ z. pos 1 *ℤ z) (two_columns c l (pos a.0) (pos 0) a.1 (omega (arith, ints, x, y)) j) ∙
            first_column a.0 j;
      };
  meets = λ r k c n. each_one (λ y. pos 0 ≤ℤ product y r) positive (each_three (λ t. pos 0 ≤ℤ product positive t) unit up down (omega (arith, ints)) (omega (arith, ints)) (omega (arith, ints)) r k) c
      n;
}
  where
    spread : (u : List ℤ) → length u ≡ 2 → (a : ℕ) → entry u 0 ≡ pos a → (j : ℕ) → pos 1 *ℤ entry u j ≡ ((entry u 1 *ℤ entry up j) +ℤ pos 0) +ℤ ((pos a *ℤ entry unit j) +ℤ pos 0)
    spread u l a e zero = ap (λ z. pos 1 *ℤ z) e ∙ ring (v (pos 1) ⊗ v (pos a)) ((v (entry u 1) ⊗ v (pos 0) ⊕ v (pos 0)) ⊕ (v (pos a) ⊗ v (pos 1) ⊕ v (pos 0))) (omega arith)
    spread u l a e (suc zero) = ring (v (pos 1) ⊗ v (entry u 1)) ((v (entry u 1) ⊗ v (pos 1) ⊕ v (pos 0)) ⊕ (v (pos a) ⊗ v (pos 0) ⊕ v (pos 0))) (omega arith)
    spread u l a e (suc (suc j)) = ap (λ z. pos 1 *ℤ z) (entry_past u (suc (suc j)) (omega (arith, l))) ∙
        ring (v (pos 1) ⊗ v (pos 0)) ((v (entry u 1) ⊗ v (pos 0) ⊕ v (pos 0)) ⊕ (v (pos a) ⊗ v (pos 0) ⊕ v (pos 0))) (omega arith)

    first_column : (a : ℕ) (j : ℕ) → pos 1 *ℤ entry (pos a ∷ pos 0 ∷ []) j ≡ (pos a *ℤ entry positive j) +ℤ pos 0
    first_column a zero = ring (v (pos 1) ⊗ v (pos a)) (v (pos a) ⊗ v (pos 1) ⊕ v (pos 0)) (omega arith)
    first_column a (suc zero) = ring (v (pos 1) ⊗ v (pos 0)) (v (pos a) ⊗ v (pos 0) ⊕ v (pos 0)) (omega arith)
    first_column a (suc (suc j)) = ring (v (pos 1) ⊗ v (pos 0)) (v (pos a) ⊗ v (pos 0) ⊕ v (pos 0)) (omega arith)

-- no number passes as the second row is taken
pub second_fits : (e : E.Excess) → ¬ (ProductPasses from_minus (all_rows (up ∷ []) (unit ∷ [])) e ⊎ PairPasses from_minus (all_rows (up ∷ []) (unit ∷ [])) e)
second_fits = fits_not_strained from_minus (all_rows (up ∷ []) (unit ∷ [])) refl

-- ---- then the vertex and a ray are left
corner_canonical : IsCanonical [] (up ∷ vertex ∷ [])
corner_canonical = record {
  pivots = [];
  echelon = tt;
  reduced = λ r k q n. absurd (contains_none q n);
  lowest = each_two IsPrimitive up vertex (primitive_at up 1 refl) (primitive_at vertex 0 refl);
  needed = split_two (λ others t. ¬ (Generated (all_rows [] others) (entry t))) up vertex
      (separated down (vertex ∷ []) (entry up) (each_one (λ t. pos 0 ≤ℤ product down t) vertex (omega (arith, ints))) (omega (arith, ints)))
      (not_from_zero (up ∷ []) (entry vertex) 0 (each_one (λ t. entry t 0 ≡ pos 0) up refl) (omega (arith, ints)));
  pointed = each_two (λ t. ¬ (Generated (up ∷ vertex ∷ []) (λ j. neg_ℤ (entry t j)))) up vertex
      (separated from_minus (up ∷ vertex ∷ []) (λ j. neg_ℤ (entry up j)) (each_two (λ t. pos 0 ≤ℤ product from_minus t) up vertex (omega (arith, ints)) (omega (arith, ints))) (omega (arith, ints)))
      (separated positive (up ∷ vertex ∷ []) (λ j. neg_ℤ (entry vertex j)) (each_two (λ t. pos 0 ≤ℤ product positive t) up vertex (omega (arith, ints)) (omega (arith, ints))) (omega (arith, ints)));
}

corner_dual : AreDual 2 (positive ∷ from_minus ∷ []) (all_rows [] (up ∷ vertex ∷ []))
corner_dual = record {
  system_widths = each_two (λ t. length t ≡ 2) positive from_minus refl refl;
  row_widths = each_two (λ t. length t ≡ 2) up vertex refl refl;
  solutions = λ u l s.
      let x = s from_minus (contains_tail positive from_minus (from_minus ∷ []) (contains_head from_minus [])) in
      let a = as_nat (entry u 0) (let z = s positive (contains_head positive (from_minus ∷ [])) in omega (arith, ints, z)) in
      let b = as_nat ((pos greatest *ℤ entry u 0) +ℤ entry u 1) (omega (arith, ints, x)) in
      record {
        multiple = 1;
        positive = omega arith;
        factors = b.0 ∷ a.0 ∷ [];
        is_sum = λ j. ap (λ z. pos 1 *ℤ z)
            (two_columns u l (pos a.0) (pos b.0 +ℤ neg_ℤ (pos greatest *ℤ pos a.0)) a.1 (moved (pos greatest) (entry u 0) (entry u 1) (pos a.0) (pos b.0) a.1 b.1) j) ∙
            corner (pos greatest) (pos a.0) (pos b.0) j;
      };
  consequences = λ c l s.
      let a = as_nat (entry c 1) (let z = s up (contains_head up (vertex ∷ [])) in omega (arith, ints, z)) in
      let x = s vertex (contains_tail up vertex (vertex ∷ []) (contains_head vertex [])) in
      let b = as_nat (entry c 0 +ℤ neg_ℤ (pos greatest *ℤ entry c 1)) (omega (arith, ints, x)) in
      record {
        multiple = 1;
        positive = omega arith;
        factors = b.0 ∷ a.0 ∷ [];
        is_sum = λ j. ap (λ z. pos 1 *ℤ z)
            (two_columns c l (pos b.0 +ℤ (pos greatest *ℤ pos a.0)) (pos a.0) (back (pos greatest) (entry c 0) (entry c 1) (pos a.0) (pos b.0) a.1 b.1) a.1 j) ∙
            rows (pos greatest) (pos a.0) (pos b.0) j;
      };
  meets = λ r k c n. each_two (λ t. pos 0 ≤ℤ product c t) up vertex
      (each_two (λ t. pos 0 ≤ℤ product t up) positive from_minus (omega (arith, ints)) (omega (arith, ints)) c n)
      (each_two (λ t. pos 0 ≤ℤ product t vertex) positive from_minus (omega (arith, ints)) (omega (arith, ints)) c n) r k;
}
  where
    moved : (m x y a b : ℤ) → x ≡ a → (m *ℤ x) +ℤ y ≡ b → y ≡ b +ℤ neg_ℤ (m *ℤ a)
    moved m x y a b e f = ring (v y) ((v m ⊗ v x ⊕ v y) ⊕ ⊖ (v m ⊗ v x)) (omega arith) ∙ ap (λ z. z +ℤ neg_ℤ (m *ℤ x)) f ∙ ap (λ z. b +ℤ neg_ℤ (m *ℤ z)) e

    back : (m x y a b : ℤ) → y ≡ a → x +ℤ neg_ℤ (m *ℤ y) ≡ b → x ≡ b +ℤ (m *ℤ a)
    back m x y a b e f = ring (v x) ((v x ⊕ ⊖ (v m ⊗ v y)) ⊕ v m ⊗ v y) (omega arith) ∙ ap (λ z. z +ℤ (m *ℤ y)) f ∙ ap (λ z. b +ℤ (m *ℤ z)) e

    corner : (m a b : ℤ) (j : ℕ) → pos 1 *ℤ entry (a ∷ (b +ℤ neg_ℤ (m *ℤ a)) ∷ []) j ≡ (b *ℤ entry (pos 0 ∷ pos 1 ∷ []) j) +ℤ ((a *ℤ entry (pos 1 ∷ neg_ℤ m ∷ []) j) +ℤ pos 0)
    corner m a b zero = ring (v (pos 1) ⊗ v a) (v b ⊗ v (pos 0) ⊕ (v a ⊗ v (pos 1) ⊕ v (pos 0))) (omega arith)
    corner m a b (suc zero) = ring (v (pos 1) ⊗ (v b ⊕ ⊖ (v m ⊗ v a))) (v b ⊗ v (pos 1) ⊕ (v a ⊗ ⊖ (v m) ⊕ v (pos 0))) (omega arith)
    corner m a b (suc (suc j)) = ring (v (pos 1) ⊗ v (pos 0)) (v b ⊗ v (pos 0) ⊕ (v a ⊗ v (pos 0) ⊕ v (pos 0))) (omega arith)

    rows : (m a b : ℤ) (j : ℕ) → pos 1 *ℤ entry ((b +ℤ (m *ℤ a)) ∷ a ∷ []) j ≡ (b *ℤ entry (pos 1 ∷ pos 0 ∷ []) j) +ℤ ((a *ℤ entry (m ∷ pos 1 ∷ []) j) +ℤ pos 0)
    rows m a b zero = ring (v (pos 1) ⊗ (v b ⊕ v m ⊗ v a)) (v b ⊗ v (pos 1) ⊕ (v a ⊗ v m ⊕ v (pos 0))) (omega arith)
    rows m a b (suc zero) = ring (v (pos 1) ⊗ v a) (v b ⊗ v (pos 0) ⊕ (v a ⊗ v (pos 1) ⊕ v (pos 0))) (omega arith)
    rows m a b (suc (suc j)) = ring (v (pos 1) ⊗ v (pos 0)) (v b ⊗ v (pos 0) ⊕ (v a ⊗ v (pos 0) ⊕ v (pos 0))) (omega arith)

-- the product 2 (-M) of the third row with the vertex passes
pub third_passes : checked_product doubled vertex ≡ Err (record { op = Product; left = pos 2; right = neg_ℤ (pos greatest) })
third_passes = refl

-- so the list exceeds a limit, by its third row after the two before it
pub third_row_strains : Strains 2 three_rows (record {
  chosen = with_positivity 1 (inequality from_minus ∷ []);
  further = inequality doubled;
  cause = Excess (record { op = Product; left = pos 2; right = neg_ℤ (pos greatest) });
})
third_row_strains = record {
  rest = inequality doubled ∷ [];
  begins = refl;
  next = inl ([], refl);
  lines = [];
  rays = up ∷ vertex ∷ [];
  dual = corner_dual;
  canonical = corner_canonical;
  strained = inl (record { row = vertex; has = contains_tail up vertex (vertex ∷ []) (contains_head vertex []); passes = third_passes });
}

-- ---- an image: the point M by 2 x1, and by x1
abbrev at_greatest : List ℤ
at_greatest = pos 1 ∷ pos greatest ∷ []

pub twice_passes : checked_product (pos 0 ∷ pos 2 ∷ []) at_greatest ≡ Err (record { op = Product; left = pos 2; right = pos greatest })
twice_passes = refl

pub once_fits : checked_product (pos 0 ∷ pos 1 ∷ []) at_greatest ≡ Ok (pos greatest)
once_fits = refl

-- the image by 2 x1 of a polyhedron with that point exceeds a limit as the point is mapped, after the generators before
-- it
pub image_strains : (p : Polyhedron) (earlier later : List LinearRow) → p.generators ≡ earlier ++ generator at_greatest ∷ later →
    ImageStrains 1 (pos 0 ∷ pos 2 ∷ []) p (record { chosen = earlier; further = generator at_greatest; cause = Excess (record { op = Product; left = pos 2; right = pos greatest }) })
image_strains p earlier later k = inl (record { later = later; is = k; excess = record { op = Product; left = pos 2; right = pos greatest }; is_cause = refl; passes = twice_passes })

-- ---- a line isn't taken with itself
pub line_with_itself : (c : List ℤ) (rows : List (List ℤ)) (l : List ℤ) → ¬ (PairAcross c rows l (negated l))
line_with_itself c rows l p = p.apart (sym (negated_twice l))

pub line_with_itself_turned : (c : List ℤ) (rows : List (List ℤ)) (l : List ℤ) → ¬ (PairAcross c rows (negated l) l)
line_with_itself_turned c rows l p = p.apart refl

-- the point at 2 ^ 100 and the point at 0: the constraints of the first are an equality and the positivity row, and as the second is
-- taken only that equality with itself would pass
abbrev far_point : List ℤ
far_point = pos 1 ∷ pos (2 ^ 100) ∷ []

abbrev far_line : List ℤ
far_line = neg_ℤ (pos (2 ^ 100)) ∷ pos 1 ∷ []

pub far_line_would_pass : checked_blend (neg_ℤ (product unit far_line)) (product unit (negated far_line)) (negated far_line) far_line ≡
    Err (record { op = Product; left = pos (2 ^ 100); right = pos (2 ^ 100) })
far_line_would_pass = refl

abbrev far_rows : List (List ℤ)
far_rows = all_rows (far_line ∷ []) (unit ∷ [])

pub far_canonical : IsCanonical (far_line ∷ []) (unit ∷ [])
far_canonical = record {
  pivots = 1 ∷ [];
  echelon = (record { before = λ j b. absurd (before_one j b); here = omega (arith, ints) }, primitive_at far_line 1 refl, λ t k. absurd (contains_none t k), λ q k. absurd (contains_none q k), tt);
  reduced = λ r k q n. each_one (λ t. entry t q ≡ pos 0) unit (elim (contains_cases 1 q [] n) [ inl e ↦ ap (entry unit) (sym e) | inr x ↦ absurd (contains_none q x) ]) r k;
  lowest = each_one IsPrimitive unit (primitive_at unit 0 refl);
  needed = split_one (λ others t. ¬ (Generated (all_rows (far_line ∷ []) others) (entry t))) unit
      (separated (negated far_point) (far_line ∷ negated far_line ∷ []) (entry unit) (each_two (λ t. pos 0 ≤ℤ product (negated far_point) t) far_line (negated far_line) (omega (arith, ints))
      (omega (arith, ints))) (omega (arith, ints)));
  pointed = each_one (λ t. ¬ (Generated far_rows (λ j. neg_ℤ (entry t j)))) unit
      (separated far_point far_rows (λ j. neg_ℤ (entry unit j)) (each_three (λ t. pos 0 ≤ℤ product far_point t) unit far_line (negated far_line) (omega (arith, ints)) (omega (arith, ints))
      (omega (arith, ints))) (omega (arith, ints)));
}

pub far_dual : AreDual 2 (system_of (generator far_point ∷ [])) far_rows
far_dual = record {
  system_widths = each_one (λ t. length t ≡ 2) far_point refl;
  row_widths = each_three (λ t. length t ≡ 2) unit far_line (negated far_line) refl refl refl;
  solutions = λ u l s.
      let a = as_nat (entry u 0 +ℤ (pos (2 ^ 100) *ℤ entry u 1)) (let z = s far_point (contains_head far_point []) in omega (arith, ints, z)) in
      generated_described (far_line ∷ []) (unit ∷ []) (entry u) (record {
        multiple = 1;
        positive = omega arith;
        free = entry u 1 ∷ [];
        factors = a.0 ∷ [];
        is_sum = λ j. ap (λ z. pos 1 *ℤ z) (two_columns u l (pos a.0 +ℤ neg_ℤ (pos (2 ^ 100) *ℤ entry u 1)) (entry u 1) (moved (pos (2 ^ 100)) (entry u 0) (entry u 1) (pos a.0) a.1) refl j) ∙
            spread (pos (2 ^ 100)) (pos a.0) (entry u 1) j;
      });
  consequences = λ c l s.
      let a = as_nat (entry c 0) (let z = s unit (contains_head unit (far_line ∷ negated far_line ∷ [])) in omega (arith, ints, z)) in
      let x = s far_line (contains_tail unit far_line (far_line ∷ negated far_line ∷ []) (contains_head far_line (negated far_line ∷ []))) in
      let y = s (negated far_line) (contains_tail unit (negated far_line) (far_line ∷ negated far_line ∷ [])
      (contains_tail far_line (negated far_line) (negated far_line ∷ []) (contains_head (negated far_line) []))) in
      let e = a.1 in
      record {
        multiple = 1;
        positive = omega arith;
        factors = a.0 ∷ [];
        is_sum = λ j. ap (λ z. pos 1 *ℤ z)
            (two_columns c l (pos a.0) (pos (2 ^ 100) *ℤ pos a.0) a.1 (omega (arith, ints, x, y, e)) j) ∙ columns (pos (2 ^ 100)) (pos a.0) j;
      };
  meets = λ r k c n. each_one (λ y. pos 0 ≤ℤ product y r) far_point (each_three (λ t. pos 0 ≤ℤ product far_point t) unit far_line (negated far_line) (omega (arith, ints)) (omega (arith, ints))
      (omega (arith, ints)) r k) c n;
}
  where
    moved : (m x y a : ℤ) → x +ℤ (m *ℤ y) ≡ a → x ≡ a +ℤ neg_ℤ (m *ℤ y)
    moved m x y a e = ring (v x) ((v x ⊕ v m ⊗ v y) ⊕ ⊖ (v m ⊗ v y)) (omega arith) ∙ ap (λ z. z +ℤ neg_ℤ (m *ℤ y)) e

    spread : (m a y : ℤ) (j : ℕ) → pos 1 *ℤ entry ((a +ℤ neg_ℤ (m *ℤ y)) ∷ y ∷ []) j ≡ ((y *ℤ entry (neg_ℤ m ∷ pos 1 ∷ []) j) +ℤ pos 0) +ℤ ((a *ℤ entry (pos 1 ∷ pos 0 ∷ []) j) +ℤ pos 0)
    spread m a y zero = ring (v (pos 1) ⊗ (v a ⊕ ⊖ (v m ⊗ v y))) ((v y ⊗ ⊖ (v m) ⊕ v (pos 0)) ⊕ (v a ⊗ v (pos 1) ⊕ v (pos 0))) (omega arith)
    spread m a y (suc zero) = ring (v (pos 1) ⊗ v y) ((v y ⊗ v (pos 1) ⊕ v (pos 0)) ⊕ (v a ⊗ v (pos 0) ⊕ v (pos 0))) (omega arith)
    spread m a y (suc (suc j)) = ring (v (pos 1) ⊗ v (pos 0)) ((v y ⊗ v (pos 0) ⊕ v (pos 0)) ⊕ (v a ⊗ v (pos 0) ⊕ v (pos 0))) (omega arith)

    columns : (m a : ℤ) (j : ℕ) → pos 1 *ℤ entry (a ∷ (m *ℤ a) ∷ []) j ≡ (a *ℤ entry (pos 1 ∷ m ∷ []) j) +ℤ pos 0
    columns m a zero = ring (v (pos 1) ⊗ v a) (v a ⊗ v (pos 1) ⊕ v (pos 0)) (omega arith)
    columns m a (suc zero) = ring (v (pos 1) ⊗ (v m ⊗ v a)) (v a ⊗ v m ⊕ v (pos 0)) (omega arith)
    columns m a (suc (suc j)) = ring (v (pos 1) ⊗ v (pos 0)) (v a ⊗ v (pos 0) ⊕ v (pos 0)) (omega arith)

pub far_points_fit : (e : E.Excess) → ¬ (ProductPasses unit far_rows e ⊎ PairPasses unit far_rows e)
far_points_fit e (inl p) = ok_not_err (checked_product unit p.row) e (list_all_at (λ u. is_ok (checked_product unit u)) far_rows refl p.row p.has) p.passes
far_points_fit e (inr p) = each_three (λ u. Across u p.down → ⊥) unit far_line (negated far_line) from_unit from_line from_negated p.up p.across.has_up (p.across, p.passes)
  where
    Across : List ℤ → List ℤ → Type 0
    Across up down = PairAcross unit far_rows up down × (checked_blend (neg_ℤ (product unit down)) (product unit up) up down ≡ Err e)

    from_line : Across far_line p.down → ⊥
    from_line x = let h = x.0.above in omega (arith, ints, h)

    from_unit : Across unit p.down → ⊥
    from_unit = each_three (λ d. Across unit d → ⊥) unit far_line (negated far_line) (λ x. let h = x.0.below in omega (arith, ints, h))
        (λ x. ok_not_err (checked_blend (neg_ℤ (product unit far_line)) (product unit unit) unit far_line) e refl x.1) (λ x. let h = x.0.below in omega (arith, ints, h)) p.down p.across.has_down

    from_negated : Across (negated far_line) p.down → ⊥
    from_negated = each_three (λ d. Across (negated far_line) d → ⊥) unit far_line (negated far_line) (λ x. let h = x.0.below in omega (arith, ints, h)) (λ x. x.0.apart refl)
        (λ x. let h = x.0.below in omega (arith, ints, h)) p.down p.across.has_down

-- ---- the lines of S* aren't cleared by themselves: if the form is these lines, what is taken from S* is a ray
pub no_line_by_itself : (lines rays : List (List ℤ)) (r : List ℤ) → InOther lines rays lines r → Contains rays r
no_line_by_itself lines rays r (inl k) = k
no_line_by_itself lines rays r (inr x) = absurd (x.1 refl)

-- ---- the line of all points isn't within the point 0: the point 1 is on the line
abbrev all_points : List LinearRow
all_points = generator unit ∷ line up ∷ []

pub line_outside : ¬ (IsWithin 1 (Gen all_points) (Con (equality up ∷ [])))
line_outside within =
    let x : List ℤ = pos 1 ∷ pos 1 ∷ [] in
    let here : Gen all_points x = record { multiple = 1; positive = omega arith; free = pos 1 ∷ []; factors = 1 ∷ []; is_sum = columns } in
    let z = con_head (equality up) [] x (within x (record { width = refl; divisor = omega (arith, ints) }) here) in
    omega (arith, ints, z)
  where
    columns : (j : ℕ) → pos 1 *ℤ entry (pos 1 ∷ pos 1 ∷ []) j ≡ ((pos 1 *ℤ entry up j) +ℤ pos 0) +ℤ ((pos 1 *ℤ entry unit j) +ℤ pos 0)
    columns zero = refl
    columns (suc zero) = refl
    columns (suc (suc j)) = refl
