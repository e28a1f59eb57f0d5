-- Lemmas on parts and on what covers what.
use Rattle.std.proofs.Common.{◌≡◌, ◌∙◌, ◌≤◌, ℕ, zero, suc, ℤ, pos, neg_ℤ, ◌+ℤ◌, ◌*ℤ◌, ◌<ℤ◌, ◌≤ℤ◌, Bool, true, false}
use Rattle.std.proofs.Common.{cond, ◌⊎◌, inl, inr, List, [], ◌∷◌, length, ap, sym, refl, subst, arith}
use Rattle.std.proofs.{lemmas.Bool.and_parts, lemmas.Int.ints}
use Rattle.std.specs.List.{Contains, list_all, list_any}
use Rattle.std.specs.{Cmp.signed_Decides, Ordering.int_eq, Prelude.◌||◌, Prelude.int_le, Prelude.not}
use Rattle.lra_linear_spec.specs.Descriptions.{Con, LinearRow, Holds, HoldsWith, inequality, system_of}
use Rattle.lra_linear_spec.specs.Points.{IsEmptySet, IsPoint, IsWithin, PointSet}
use Rattle.lra_linear_spec.specs.Polyhedra.{HasPoint, IsPolyhedron, Polyhedron, falsity}
use Rattle.lra_linear_spec.specs.SetOperations.{Hull}
use Rattle.lra_linear_spec.specs.Vectors.{dot, entry, negated, product, zeros}
use Rattle.lra_linear_spec.proofs.Signs.{between_opposites, times_positive}
use Rattle.lra_linear_spec.proofs.{Membership.contains_none, Products.negated_dot, Products.product_none, Ring.ring}
use Rattle.lra_linear_spec.proofs.{Ring.v, Ring.⊖, Ring.◌⊕◌, Ring.◌⊗◌, SetOperations.has_vertex}
use Rattle.lra_duality.proofs.PolyhedronLemmas.{none_where_empty}
use Rattle.lra_poly_widening.proofs.SomeMember.{any_said}
use Rattle.lra_domain.specs.Actions.{Within}
use Rattle.lra_poly_domain.specs.Content.{PolyhedronLeq, PolyhedronGamma, is_absurd, is_negative, listed}
use Rattle.lra_poly_domain.specs.{Content.polyhedron_parts, Sets.IsJoin}

-- ---- if a row holds at no point
flat_dot : (cs : List ℤ) (u : ℕ → ℤ) → list_all (λ x. int_eq x (pos 0)) cs ≡ true → dot cs u ≡ pos 0
flat_dot [] u h = refl
flat_dot (c ∷ cs) u h =
    let b = and_parts (int_eq c (pos 0)) (list_all (λ x. int_eq x (pos 0)) cs) h in
    ap (λ y. (y *ℤ u 0) +ℤ dot cs (λ j. u (suc j))) ((signed_Decides c (pos 0)).0 b.0) ∙
    ap (λ y. (pos 0 *ℤ u 0) +ℤ y) (flat_dot cs (λ j. u (suc j)) b.1) ∙
    ring (v (pos 0) ⊗ v (u 0) ⊕ v (pos 0)) (v (pos 0)) (omega arith)

not_said : (b : Bool) → not b ≡ true → b ≡ false
not_said false e = refl
not_said true e = cc

below_zero : (c : ℤ) → not (int_le (pos 0) c) ≡ true → pos 0 <ℤ neg_ℤ c
below_zero c h = let e : false ≡ int_le (pos 0) c = sym (not_said (int_le (pos 0) c) h) in omega (arith, ints, e)

negative_product : (c x : List ℤ) → is_negative c ≡ true → pos 0 <ℤ entry x 0 → ¬ (pos 0 ≤ℤ product c x)
negative_product [] x h d k = let wrong : ⊥ = cc in absurd wrong
negative_product (c ∷ cs) x h d k =
    let b = and_parts (not (int_le (pos 0) c)) (list_all (λ y. int_eq y (pos 0)) cs) h in
    let up = times_positive (neg_ℤ c) (entry x 0) (below_zero c b.0) d in
    let flat = flat_dot cs (λ j. entry x (suc j)) b.1 in
    let is : (c *ℤ entry x 0) +ℤ dot cs (λ j. entry x (suc j)) ≡ neg_ℤ (neg_ℤ c *ℤ entry x 0) =
    ap (λ y. (c *ℤ entry x 0) +ℤ y) flat ∙ ring (v c ⊗ v (entry x 0) ⊕ v (pos 0)) (⊖ (⊖ (v c) ⊗ v (entry x 0)))
    (omega arith) in
    low ((c *ℤ entry x 0) +ℤ dot cs (λ j. entry x (suc j))) (neg_ℤ c *ℤ entry x 0) is up k
  where
    low : (z y : ℤ) → z ≡ neg_ℤ y → pos 0 <ℤ y → pos 0 ≤ℤ z → ⊥
    low z y e h k = omega (arith, ints, e, h, k)

pub absurd_empty : (n : ℕ) (rows : List LinearRow) → list_any is_absurd rows ≡ true → IsEmptySet n (Con rows)
absurd_empty n rows e x i c =
    let r = any_said is_absurd rows e in
    let b = and_parts (not r.0.equal) (is_negative r.0.row) r.2 in
    negative_product r.0.row x b.1 i.divisor (as_inequality r.0.equal (product r.0.row x) b.0 (c r.0 r.1))
  where
    as_inequality : (b : Bool) (z : ℤ) → not b ≡ true → HoldsWith b z → pos 0 ≤ℤ z
    as_inequality false z e h = h
    as_inequality true z e h = cc

-- ---- parts
zeros_flat : (n : ℕ) → list_all (λ x. int_eq x (pos 0)) (zeros n) ≡ true
zeros_flat zero = refl
zeros_flat (suc n) = zeros_flat n

falsity_absurd : (n : ℕ) → list_any is_absurd (inequality (falsity n) ∷ []) ≡ true
falsity_absurd n = ap (λ (b : Bool). b || false) (zeros_flat n)

no_parts : (p : Polyhedron) → list_any is_absurd p.rows ≡ true → polyhedron_parts p ≡ []
no_parts p e = ap (λ (b : Bool). cond b [] (listed p ∷ [])) e

pub point_not_empty : (p : Polyhedron) → HasPoint p → ¬ (IsEmptySet p.dims (Con p.rows))
point_not_empty p h e =
    let none = none_where_empty p (inr h) e in
    contains_none (has_vertex p h).vertex
    (subst (λ (l : List LinearRow). Contains (system_of l) (has_vertex p h).vertex)
    none (has_vertex p h).has)

pub empty_parts : (p : Polyhedron) → IsPolyhedron p → IsEmptySet p.dims (Con p.rows) → polyhedron_parts p ≡ []
empty_parts p (inl none) e = no_parts p (ap (list_any is_absurd) none.0 ∙ falsity_absurd p.dims)
empty_parts p (inr h) e = absurd (point_not_empty p h e)

pub parts_empty : (p : Polyhedron) (n : ℕ) → polyhedron_parts p ≡ [] → IsEmptySet n (Con p.rows)
parts_empty p n e = by_value (list_any is_absurd p.rows) refl e
  where
    by_value : (b : Bool) → list_any is_absurd p.rows ≡ b → cond b [] (listed p ∷ []) ≡ [] → IsEmptySet n (Con p.rows)
    by_value true is h = absurd_empty n p.rows is
    by_value false is h = let wrong : ⊥ = cc in absurd wrong

pub one_part : (p : Polyhedron) → length (polyhedron_parts p) ≤ 1
one_part p = by_value (list_any is_absurd p.rows)
  where
    by_value : (b : Bool) → length (cond b [] (listed p ∷ [])) ≤ 1
    by_value true = omega arith
    by_value false = omega arith

-- ---- stores as points
pub store_point : (n : ℕ) (s : List ℤ) → length s ≡ n → IsPoint n (pos 1 ∷ s)
store_point n s e = record { width = ap suc e; divisor = omega (arith, ints) }

pub covered_has : (a b : Polyhedron) → PolyhedronLeq a b → Within (PolyhedronGamma a) (PolyhedronGamma b)
covered_has a b c s h = (h.0 ∙ c.dims, c.within (pos 1 ∷ s) (store_point a.dims s h.0) h.1)

pub covered_from : (a b : Polyhedron) → IsPolyhedron a → a.dims ≡ b.dims → IsWithin a.dims (Con a.rows) (Con b.rows) →
    PolyhedronLeq a b
covered_from a b h d w = record {
  dims = d;
  within = w;
  partless = λ e. empty_parts a h (λ x i c. parts_empty b a.dims e x i (w x i c));
}

pub covered_refl : (a : Polyhedron) → PolyhedronLeq a a
covered_refl a = record { dims = refl; within = λ x i c. c; partless = λ e. e }

pub covered_trans : (a b c : Polyhedron) → PolyhedronLeq a b → PolyhedronLeq b c → PolyhedronLeq a c
covered_trans a b c u w = record {
  dims = u.dims ∙ w.dims;
  within = λ x i k. w.within x (subst (λ (n : ℕ). IsPoint n x) u.dims i) (u.within x i k);
  partless = λ e. u.partless (w.partless e);
}

pub same_covered : (a b : Polyhedron) → a ≡ b → PolyhedronLeq a b
same_covered a b e = subst (λ (c : Polyhedron). PolyhedronLeq a c) e (covered_refl a)

-- ---- hulls and rows of any width
-- the row with so many columns
abbrev fitted : ℕ → List ℤ → List ℤ
fitted zero r = []
fitted (suc n) [] = pos 0 ∷ fitted n []
fitted (suc n) (c ∷ cs) = c ∷ fitted n cs

fitted_length : (n : ℕ) (r : List ℤ) → length (fitted n r) ≡ n
fitted_length zero r = refl
fitted_length (suc n) [] = ap suc (fitted_length n [])
fitted_length (suc n) (c ∷ cs) = ap suc (fitted_length n cs)

fitted_product : (n : ℕ) (r x : List ℤ) → length x ≡ n → product (fitted n r) x ≡ product r x
fitted_product zero r [] e = sym (product_none r)
fitted_product zero r (y ∷ ys) e = let wrong : ⊥ = cc in absurd wrong
fitted_product (suc n) r [] e = let wrong : ⊥ = cc in absurd wrong
fitted_product (suc n) [] (y ∷ ys) e =
    ap (λ z. (pos 0 *ℤ y) +ℤ z) (fitted_product n [] ys (omega (arith, e))) ∙
    ring (v (pos 0) ⊗ v y ⊕ v (pos 0)) (v (pos 0)) (omega arith)
fitted_product (suc n) (c ∷ cs) (y ∷ ys) e = ap (λ z. (c *ℤ y) +ℤ z) (fitted_product n cs ys (omega (arith, e)))

-- a constraint that holds at each point of a set holds on its hull
pub hull_row : (n : ℕ) (P : PointSet) (r : LinearRow) → ((y : List ℤ) → IsPoint n y → P y → Holds r y) → (x : List ℤ) →
    IsPoint n x → Hull n P x → Holds r x
hull_row n P r valid x i hull = by_kind r.equal valid
  where
    moved : (c : List ℤ) → ((y : List ℤ) → IsPoint n y → P y → pos 0 ≤ℤ product c y) → pos 0 ≤ℤ product c x
    moved c h = subst (λ z. pos 0 ≤ℤ z) (fitted_product (suc n) c x i.width)
        (hull (fitted (suc n) c) (fitted_length (suc n) c)
        (λ y j p. subst (λ z. pos 0 ≤ℤ z) (sym (fitted_product (suc n) c y j.width)) (h y j p)))

    zero_up : (z : ℤ) → z ≡ pos 0 → pos 0 ≤ℤ z
    zero_up z e = omega (arith, ints, e)

    zero_down : (z y : ℤ) → y ≡ neg_ℤ z → z ≡ pos 0 → pos 0 ≤ℤ y
    zero_down z y e h = omega (arith, ints, e, h)

    by_kind : (b : Bool) → ((y : List ℤ) → IsPoint n y → P y → HoldsWith b (product r.row y)) →
        HoldsWith b (product r.row x)
    by_kind false h = moved r.row h
    by_kind true h = between_opposites (product r.row x) (product (negated r.row) x) (negated_dot r.row (entry x))
        (moved r.row (λ y j p. zero_up (product r.row y) (h y j p)))
        (moved (negated r.row) (λ y j p. zero_down (product r.row y) (product (negated r.row) y)
        (negated_dot r.row (entry y)) (h y j p)))

-- what covers both covers their join
pub joined_covered : (a b j c : Polyhedron) → IsJoin a b j → PolyhedronLeq a c → PolyhedronLeq b c → PolyhedronLeq j c
joined_covered a b j c is u w =
    let d : b.dims ≡ a.dims = w.dims ∙ sym u.dims in
    covered_from j c is.canonical (is.dimensions ∙ u.dims) (λ x i k g m.
    let at : IsPoint a.dims x = subst (λ (n : ℕ). IsPoint n x) is.dimensions i in
    hull_row a.dims (λ y. Con a.rows y ⊎ Con b.rows y) g (λ y l. both y l g m) x at (is.points.1 x at k))
  where
    both : (y : List ℤ) → IsPoint a.dims y → (g : LinearRow) → Contains c.rows g → Con a.rows y ⊎ Con b.rows y →
        Holds g y
    both y l g m (inl p) = u.within y l p g m
    both y l g m (inr p) = w.within y (subst (λ (n : ℕ). IsPoint n y) (u.dims ∙ sym w.dims) l) p g m
