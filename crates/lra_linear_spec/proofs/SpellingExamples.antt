-- A worked example of one spelling: two lists of constraints that are spelled differently and have the same points, the quadrant of
-- all points with x1 and x2 at least 0. The canonical lists of the one are those of the other.
use Rattle.std.proofs.Common.{List, [], ap, arith, inl, inr, length, neg_ℤ, pos, refl, subst, suc, sym, unsigned_abs, zero, ℕ, ℤ, ◌*ℤ◌, ◌+ℤ◌, ◌<ℤ◌, ◌∙◌, ◌∷◌, ◌≡◌, ◌≢◌, ◌≤ℤ◌, ◌⊎◌}
use Rattle.std.proofs.lemmas.Int.{ints}
use Rattle.std.specs.{List.Contains, declared.cmp.Ordering.TheVariants.Less}
use Rattle.lra_linear_spec.specs.Polyhedra.{HasPoint, IsPolyhedronOf, Polyhedron, positivity}
use Rattle.lra_linear_spec.specs.{Canonical.IsCanonical, Cones.AreDual, Cones.Generated, Cones.all_rows, Descriptions.Con, Descriptions.LinearRow, Descriptions.generator, Descriptions.inequality}
use Rattle.lra_linear_spec.specs.{LowestTerms.IsPrimitive, Points.SameSet, RowOrder.inequality_cmp, RowOrder.row_cmp, Vectors.entry, Vectors.product}
use Rattle.lra_linear_spec.proofs.Membership.{contains_head, contains_none, contains_tail, each_one, each_three, each_two, split_three}
use Rattle.lra_linear_spec.proofs.{Combinations.not_from_above, Combinations.not_from_zero, Descriptions.con_cons, Descriptions.con_head, Descriptions.con_none, Descriptions.con_tail}
use Rattle.lra_linear_spec.proofs.{LowestTerms.primitive_at, Polyhedra.polyhedron_unique, Products.entry_past, Ring.ring, Ring.v, Ring.◌⊕◌, Ring.◌⊗◌, Signs.as_nat}

-- ---- the quadrant
abbrev e0 : List ℤ
e0 = pos 1 ∷ pos 0 ∷ pos 0 ∷ []

abbrev e1 : List ℤ
e1 = pos 0 ∷ pos 1 ∷ pos 0 ∷ []

abbrev e2 : List ℤ
e2 = pos 0 ∷ pos 0 ∷ pos 1 ∷ []

abbrev pub quadrant : Polyhedron
quadrant = record {
  dims = 2;
  rows = inequality e1 ∷ inequality e2 ∷ [];
  generators = generator e0 ∷ generator e2 ∷ generator e1 ∷ [];
}

-- a row of width 3 with entries at least 0 is a sum of the three unit rows
sum_of_units : (u : List ℤ) → length u ≡ 3 → (a b c : ℕ) → entry u 0 ≡ pos a → entry u 1 ≡ pos b → entry u 2 ≡ pos c → (j : ℕ) →
    entry u j ≡ (pos a *ℤ entry e0 j) +ℤ ((pos b *ℤ entry e1 j) +ℤ (pos c *ℤ entry e2 j))
sum_of_units u l a b c f g h zero = f ∙ ring (v (pos a)) (v (pos a) ⊗ v (pos 1) ⊕ (v (pos b) ⊗ v (pos 0) ⊕ v (pos c) ⊗ v (pos 0))) (omega arith)
sum_of_units u l a b c f g h (suc zero) = g ∙ ring (v (pos b)) (v (pos a) ⊗ v (pos 0) ⊕ (v (pos b) ⊗ v (pos 1) ⊕ v (pos c) ⊗ v (pos 0))) (omega arith)
sum_of_units u l a b c f g h (suc (suc zero)) = h ∙ ring (v (pos c)) (v (pos a) ⊗ v (pos 0) ⊕ (v (pos b) ⊗ v (pos 0) ⊕ v (pos c) ⊗ v (pos 1))) (omega arith)
sum_of_units u l a b c f g h (suc (suc (suc j))) =
    entry_past u (suc (suc (suc j))) (omega (arith, l)) ∙ ring (v (pos 0)) (v (pos a) ⊗ v (pos 0) ⊕ (v (pos b) ⊗ v (pos 0) ⊕ v (pos c) ⊗ v (pos 0))) (omega arith)

quadrant_dual : AreDual 3 (e1 ∷ e2 ∷ e0 ∷ []) (e0 ∷ e2 ∷ e1 ∷ [])
quadrant_dual = record {
  system_widths = each_three (λ t. length t ≡ 3) e1 e2 e0 refl refl refl;
  row_widths = each_three (λ t. length t ≡ 3) e0 e2 e1 refl refl refl;
  solutions = λ u l s.
      let a = as_nat (entry u 0) (let z = s e0 (contains_tail e1 e0 (e2 ∷ e0 ∷ []) (contains_tail e2 e0 (e0 ∷ []) (contains_head e0 []))) in omega (arith, ints, z)) in
      let b = as_nat (entry u 1) (let z = s e1 (contains_head e1 (e2 ∷ e0 ∷ [])) in omega (arith, ints, z)) in
      let c = as_nat (entry u 2) (let z = s e2 (contains_tail e1 e2 (e2 ∷ e0 ∷ []) (contains_head e2 (e0 ∷ []))) in omega (arith, ints, z)) in
      record {
        multiple = 1;
        positive = omega arith;
        factors = a.0 ∷ c.0 ∷ b.0 ∷ [];
        is_sum = λ j.
            ring (v (pos 1) ⊗ v (entry u j)) (v (entry u j)) (omega arith) ∙ sum_of_units u l a.0 b.0 c.0 a.1 b.1 c.1 j ∙
            ring (v (pos a.0) ⊗ v (entry e0 j) ⊕ (v (pos b.0) ⊗ v (entry e1 j) ⊕ v (pos c.0) ⊗ v (entry e2 j)))
            (v (pos a.0) ⊗ v (entry e0 j) ⊕ (v (pos c.0) ⊗ v (entry e2 j) ⊕ (v (pos b.0) ⊗ v (entry e1 j) ⊕ v (pos 0)))) (omega arith);
      };
  consequences = λ u l s.
      let a = as_nat (entry u 0) (let z = s e0 (contains_head e0 (e2 ∷ e1 ∷ [])) in omega (arith, ints, z)) in
      let b = as_nat (entry u 1) (let z = s e1 (contains_tail e0 e1 (e2 ∷ e1 ∷ []) (contains_tail e2 e1 (e1 ∷ []) (contains_head e1 []))) in omega (arith, ints, z)) in
      let c = as_nat (entry u 2) (let z = s e2 (contains_tail e0 e2 (e2 ∷ e1 ∷ []) (contains_head e2 (e1 ∷ []))) in omega (arith, ints, z)) in
      record {
        multiple = 1;
        positive = omega arith;
        factors = b.0 ∷ c.0 ∷ a.0 ∷ [];
        is_sum = λ j.
            ring (v (pos 1) ⊗ v (entry u j)) (v (entry u j)) (omega arith) ∙ sum_of_units u l a.0 b.0 c.0 a.1 b.1 c.1 j ∙
            ring (v (pos a.0) ⊗ v (entry e0 j) ⊕ (v (pos b.0) ⊗ v (entry e1 j) ⊕ v (pos c.0) ⊗ v (entry e2 j)))
            (v (pos b.0) ⊗ v (entry e1 j) ⊕ (v (pos c.0) ⊗ v (entry e2 j) ⊕ (v (pos a.0) ⊗ v (entry e0 j) ⊕ v (pos 0)))) (omega arith);
      };
  meets = λ r k c m. each_three (λ t. pos 0 ≤ℤ product c t) e0 e2 e1 (each_three (λ t. pos 0 ≤ℤ product t e0) e1 e2 e0 (omega (arith, ints)) (omega (arith, ints)) (omega (arith, ints)) c m)
      (each_three (λ t. pos 0 ≤ℤ product t e2) e1 e2 e0 (omega (arith, ints)) (omega (arith, ints)) (omega (arith, ints)) c m)
      (each_three (λ t. pos 0 ≤ℤ product t e1) e1 e2 e0 (omega (arith, ints)) (omega (arith, ints)) (omega (arith, ints)) c m) r k;
}

-- of the three unit rows, each is 1 in a column in which the two others are 0, so none is generated by these, nor is its negative by all
abbrev Apart : ℕ → List ℤ → List ℤ → List ℤ → Type 0
Apart j a b c = (entry a j ≡ pos 1) × (entry b j ≡ pos 0) × (entry c j ≡ pos 0)

units_canonical : (a b c : List ℤ) (i j k : ℕ) → Apart i a b c → Apart j b a c → Apart k c a b → IsCanonical [] (a ∷ b ∷ c ∷ [])
units_canonical a b c i j k p q r = record {
  pivots = [];
  echelon = tt;
  reduced = λ t m x n. absurd (contains_none x n);
  lowest = each_three IsPrimitive a b c (primitive_at a i (ap unsigned_abs p.0)) (primitive_at b j (ap unsigned_abs q.0)) (primitive_at c k (ap unsigned_abs r.0));
  needed = split_three (λ others t. ¬ (Generated (all_rows [] others) (entry t))) a b c
      (not_from_zero (b ∷ c ∷ []) (entry a) i (each_two (λ t. entry t i ≡ pos 0) b c p.1 p.2) (subst (λ z. pos 0 <ℤ z) (sym p.0) (omega (arith, ints))))
      (not_from_zero (a ∷ c ∷ []) (entry b) j (each_two (λ t. entry t j ≡ pos 0) a c q.1 q.2) (subst (λ z. pos 0 <ℤ z) (sym q.0) (omega (arith, ints))))
      (not_from_zero (a ∷ b ∷ []) (entry c) k (each_two (λ t. entry t k ≡ pos 0) a b r.1 r.2) (subst (λ z. pos 0 <ℤ z) (sym r.0) (omega (arith, ints))));
  pointed = each_three (λ t. ¬ (Generated (a ∷ b ∷ c ∷ []) (λ x. neg_ℤ (entry t x)))) a b c
      (not_from_above (a ∷ b ∷ c ∷ []) (λ x. neg_ℤ (entry a x)) i (each_three (λ t. pos 0 ≤ℤ entry t i) a b c (at_least (entry a i) (inl p.0)) (at_least (entry b i) (inr p.1))
      (at_least (entry c i) (inr p.2))) (minus (entry a i) p.0))
      (not_from_above (a ∷ b ∷ c ∷ []) (λ x. neg_ℤ (entry b x)) j (each_three (λ t. pos 0 ≤ℤ entry t j) a b c (at_least (entry a j) (inr q.1)) (at_least (entry b j) (inl q.0))
      (at_least (entry c j) (inr q.2))) (minus (entry b j) q.0))
      (not_from_above (a ∷ b ∷ c ∷ []) (λ x. neg_ℤ (entry c x)) k (each_three (λ t. pos 0 ≤ℤ entry t k) a b c (at_least (entry a k) (inr r.1)) (at_least (entry b k) (inr r.2))
      (at_least (entry c k) (inl r.0))) (minus (entry c k) r.0));
}
  where
    at_least : (z : ℤ) → (z ≡ pos 1) ⊎ (z ≡ pos 0) → pos 0 ≤ℤ z
    at_least z (inl e) = omega (arith, ints, e)
    at_least z (inr e) = omega (arith, ints, e)

    minus : (z : ℤ) → z ≡ pos 1 → neg_ℤ z <ℤ pos 0
    minus z e = omega (arith, ints, e)

quadrant_has_point : HasPoint quadrant
quadrant_has_point = record {
  equalities = [];
  inequalities = e1 ∷ e2 ∷ [];
  rows_are = refl;
  points = e0 ∷ [];
  rays = e2 ∷ e1 ∷ [];
  lines = [];
  generators_are = refl;
  facets = e1 ∷ e2 ∷ e0 ∷ [];
  shown = λ r k. each_two (λ t. Contains (e1 ∷ e2 ∷ e0 ∷ []) t × (t ≢ positivity 2)) e1 e2
      (contains_head e1 (e2 ∷ e0 ∷ []), λ e. let z : pos 0 ≡ pos 1 = ap (λ (t : List ℤ). entry t 0) e in omega (arith, ints, z))
      (contains_tail e1 e2 (e2 ∷ e0 ∷ []) (contains_head e2 (e0 ∷ [])), λ e. let z : pos 0 ≡ pos 1 = ap (λ (t : List ℤ). entry t 0) e in omega (arith, ints, z)) r k;
  all_shown = λ r k. each_three (λ t. (t ≡ positivity 2) ⊎ Contains (e1 ∷ e2 ∷ []) t) e1 e2 e0
      (inr (contains_head e1 (e2 ∷ []))) (inr (contains_tail e1 e2 (e2 ∷ []) (contains_head e2 []))) (inl refl) r k;
  dual = quadrant_dual;
  constraints_canonical = units_canonical e1 e2 e0 1 2 0 (refl, refl, refl) (refl, refl, refl) (refl, refl, refl);
  generators_canonical = units_canonical e0 e2 e1 0 2 1 (refl, refl, refl) (refl, refl, refl) (refl, refl, refl);
  inequalities_ascend = (λ y k. each_one (λ t. inequality_cmp e1 t ≡ Less) e2 refl y k, (λ y k. absurd (contains_none y k), tt));
  points_ascend = (λ y k. absurd (contains_none y k), tt);
  rays_ascend = (λ y k. each_one (λ t. row_cmp e2 t ≡ Less) e1 refl y k, (λ y k. absurd (contains_none y k), tt));
  divisors = λ r k. each_one (λ t. pos 0 <ℤ entry t 0) e0 (omega (arith, ints)) r k;
  directions = λ r k. elim k [ inl i ↦ each_two (λ t. entry t 0 ≡ pos 0) e2 e1 refl refl r i | inr i ↦ absurd (contains_none r i) ];
  some_point = λ e. let z : 1 ≡ 0 = ap length e in omega (arith, z);
}

-- ---- two lists of constraints of the quadrant
-- x2 >= 0 and x1 >= 0, in an order that isn't the canonical one; and x1 >= 0 spelled 2 x1 >= 0, with a redundant x1 + x2 >= 0
abbrev plain : List LinearRow
plain = inequality e2 ∷ inequality e1 ∷ []

abbrev doubled : List LinearRow
doubled = inequality (pos 0 ∷ pos 1 ∷ pos 1 ∷ []) ∷ inequality (pos 0 ∷ pos 2 ∷ pos 0 ∷ []) ∷ inequality e2 ∷ []

pub plain_is_quadrant : IsPolyhedronOf 2 (Con plain) quadrant
plain_is_quadrant = record {
  dimensions = refl;
  canonical = inr quadrant_has_point;
  points = (
    λ x p c. con_cons (inequality e1) (inequality e2 ∷ []) x (con_head (inequality e1) [] x (con_tail (inequality e2) (inequality e1 ∷ []) x c))
        (con_cons (inequality e2) [] x (con_head (inequality e2) (inequality e1 ∷ []) x c) (con_none x)),
    λ x p c. con_cons (inequality e2) (inequality e1 ∷ []) x (con_head (inequality e2) [] x (con_tail (inequality e1) (inequality e2 ∷ []) x c))
        (con_cons (inequality e1) [] x (con_head (inequality e1) (inequality e2 ∷ []) x c) (con_none x)),
  );
}

doubled_is_plain : SameSet 2 (Con doubled) (Con plain)
doubled_is_plain = (
  λ x p c.
      let both = con_head (inequality (pos 0 ∷ pos 1 ∷ pos 1 ∷ [])) (inequality (pos 0 ∷ pos 2 ∷ pos 0 ∷ []) ∷ inequality e2 ∷ []) x c in
      let rest = con_tail (inequality (pos 0 ∷ pos 1 ∷ pos 1 ∷ [])) (inequality (pos 0 ∷ pos 2 ∷ pos 0 ∷ []) ∷ inequality e2 ∷ []) x c in
      let twice = con_head (inequality (pos 0 ∷ pos 2 ∷ pos 0 ∷ [])) (inequality e2 ∷ []) x rest in
      let second = con_head (inequality e2) [] x (con_tail (inequality (pos 0 ∷ pos 2 ∷ pos 0 ∷ [])) (inequality e2 ∷ []) x rest) in
      con_cons (inequality e2) (inequality e1 ∷ []) x second (con_cons (inequality e1) [] x (omega (arith, ints, twice)) (con_none x)),
  λ x p c.
      let second = con_head (inequality e2) (inequality e1 ∷ []) x c in
      let first = con_head (inequality e1) [] x (con_tail (inequality e2) (inequality e1 ∷ []) x c) in
      con_cons (inequality (pos 0 ∷ pos 1 ∷ pos 1 ∷ [])) (inequality (pos 0 ∷ pos 2 ∷ pos 0 ∷ []) ∷ inequality e2 ∷ []) x (omega (arith, ints, first, second))
      (con_cons (inequality (pos 0 ∷ pos 2 ∷ pos 0 ∷ [])) (inequality e2 ∷ []) x (omega (arith, ints, first)) (con_cons (inequality e2) [] x second (con_none x))),
)

-- the canonical lists of the two are equal, and are the quadrant's
pub one_quadrant : (p q : Polyhedron) → IsPolyhedronOf 2 (Con plain) p → IsPolyhedronOf 2 (Con doubled) q → (p ≡ quadrant) × (q ≡ quadrant)
one_quadrant p q h k = (
  polyhedron_unique 2 (Con plain) (Con plain) p quadrant (λ x i c. c, λ x i c. c) h plain_is_quadrant,
  polyhedron_unique 2 (Con doubled) (Con plain) q quadrant doubled_is_plain k plain_is_quadrant,
)
