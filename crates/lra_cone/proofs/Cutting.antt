-- The step without a line across, from the pairs and their combinations to the new rays.
use Rattle.std.proofs.Common.{◌≡◌, ℕ, zero, suc, ◌<◌, Bool, true, false, cond, not, List, [], ◌∷◌, ◌++◌, length, get_or, map, replicate, refl, ap, sym, ◌∙◌, subst, arith, pos, ℤ, neg_ℤ, ◌<ℤ◌, inl}
use Rattle.std.proofs.lemmas.List.Elements.{Contains-append_cases, Contains-append_left, Contains-append_right, Contains-get_or}
use Rattle.std.proofs.{Common.inr, lemmas.Bool.Decides.Decides-int_eq, lemmas.List.get_or-map, lemmas.List.length-map, lemmas.List.get_or_default}
use Rattle.std.specs.{List.Contains, List.filter, Ordering.int_eq, Prelude.◌&&◌}
use Rattle.lra_cone.specs.Crates.lra_linear_spec.Vectors.{entry, dot, product, blend}
use Rattle.lra_cone.specs.Crates.{lra_bits.Matrix.unmarked, lra_bits.TruthValues.IsSubset, lra_bits.TruthValues.both, lra_linear_spec.Canonical.IsCanonical, lra_linear_spec.Cones.all_rows}
use Rattle.lra_cone.specs.Crates.{lra_linear_spec.Cones.AreDual, lra_linear_spec.Descriptions.LinearRow, lra_linear_spec.Descriptions.system_of, lra_linear_spec.LowestTerms.IsLowest}
use Rattle.lra_cone.proofs.Crates.lra_linear_spec.Membership.{NoRepeat, contains_none, contains_cases, contains_head, contains_tail, filter_has, filter_from}
use Rattle.lra_cone.proofs.Crates.{lra_linear_spec.CanonicalForms.no_repeat, lra_linear_spec.DoubleDescription.pair, lra_linear_spec.Saturation.NotAdjacent}
use Rattle.lra_double_description.specs.Pairs.{HasThird, both_tight, IsAdjacentPair, AreApart, ArePairs, pair_sum, AreCombined, pair_tight_rows}
use Rattle.lra_double_description.specs.{Steps.is_inside, Steps.outside_marks, declared.pairs.Pair.Pair}
use Rattle.lra_cone.specs.Cones.{tight_values, saturation_rows}
use Rattle.lra_double_description.proofs.{Cuts.above_inside, Cuts.below_inside, PairLists.inside_yes, PairLists.inside_said}
use Rattle.lra_cone.proofs.RayCase.{IsAdjacentSum, RayCase, none_between, same_two, sum_flat, sum_tight, tight_sum_of}
use Rattle.lra_cone.proofs.TightRows.{subset_said, subset_from, row_at, rows_length, with_has, with_later, values_end}

-- ---- the rays that are not marked
none_marked : {A : Type 0} (n : ℕ) (xs : List A) → unmarked (replicate n false) xs ≡ xs
none_marked n [] = refl
none_marked zero (x ∷ xs) = refl
none_marked (suc n) (x ∷ xs) = ap (λ ys. x ∷ ys) (none_marked n xs)

abbrev pub inside_rays : Bool → List ℤ → List (List ℤ) → List (List ℤ)
inside_rays equal c rays = filter (λ r. is_inside equal (product c r)) rays

pub unmarked_are : (equal : Bool) (c : List ℤ) (rays more : List (List ℤ)) (n : ℕ) → unmarked (outside_marks equal (map (product c) rays) ++ replicate n false) (rays ++ more) ≡
    inside_rays equal c rays ++ more
unmarked_are equal c [] more n = none_marked n more
unmarked_are equal c (r ∷ rays) more n = by_test (is_inside equal (product c r)) (unmarked_are equal c rays more n)
  where
    by_test : (b : Bool) → unmarked (outside_marks equal (map (product c) rays) ++ replicate n false) (rays ++ more) ≡ inside_rays equal c rays ++ more →
        unmarked (not b ∷ outside_marks equal (map (product c) rays) ++ replicate n false) (r ∷ rays ++ more) ≡ cond b (r ∷ inside_rays equal c rays) (inside_rays equal c rays) ++ more
    by_test true e = ap (λ ys. r ∷ ys) e
    by_test false e = e

-- ---- lists without repeats
pub no_repeat_place : {A : Type 0} (xs : List A) (i k : ℕ) (d : A) → NoRepeat xs → i < length xs → k < length xs → get_or xs i d ≡ get_or xs k d → i ≡ k
no_repeat_place [] i k d n h l e = absurd (omega (arith, h))
no_repeat_place (x ∷ xs) zero zero d n h l e = refl
no_repeat_place (x ∷ xs) zero (suc k) d n h l e = absurd (n.0 (subst (Contains xs) (sym e) (Contains-get_or xs k d (omega (arith, l)))))
no_repeat_place (x ∷ xs) (suc i) zero d n h l e = absurd (n.0 (subst (Contains xs) e (Contains-get_or xs i d (omega (arith, h)))))
no_repeat_place (x ∷ xs) (suc i) (suc k) d n h l e = ap suc (no_repeat_place xs i k d n.1 (omega (arith, h)) (omega (arith, l)) e)

no_repeat_append : {A : Type 0} (xs ys : List A) → NoRepeat xs → NoRepeat ys → ((x : A) → Contains xs x → Contains ys x → ⊥) → NoRepeat (xs ++ ys)
no_repeat_append [] ys n m h = m
no_repeat_append (x ∷ xs) ys n m h = (
  λ k. elim (Contains-append_cases xs ys x k) [ inl i ↦ n.0 i | inr i ↦ h x (contains_head x xs) i ],
  no_repeat_append xs ys n.1 m (λ y k. h y (contains_tail x y xs k)),
)

pub no_repeat_filter : {A : Type 0} (test : A → Bool) (xs : List A) → NoRepeat xs → NoRepeat (filter test xs)
no_repeat_filter test [] n = tt
no_repeat_filter test (x ∷ xs) n = by_test (test x) (λ k. n.0 (filter_from test xs x k).0) (no_repeat_filter test xs n.1)
  where
    by_test : (b : Bool) → ¬ (Contains (filter test xs) x) → NoRepeat (filter test xs) → NoRepeat (cond b (x ∷ filter test xs) (filter test xs))
    by_test true h k = (h, k)
    by_test false h k = k

-- ---- the combinations
-- the pair that gave a row
record FromPair (products : List ℤ) (rays : List (List ℤ)) (pairs : List Pair) (t : List ℤ) : Type 0 where
  from : Pair
  has : Contains pairs from
  lowest : IsLowest (pair_sum products rays from) t

from_pair : (products : List ℤ) (rays : List (List ℤ)) (pairs : List Pair) (ts : List (List ℤ)) → AreCombined products rays pairs ts → (t : List ℤ) → Contains ts t → FromPair products rays pairs t
from_pair products rays [] [] a t k = absurd (contains_none t k)
from_pair products rays [] (x ∷ ts) a t k = absurd a
from_pair products rays (p ∷ pairs) [] a t k = absurd a
from_pair products rays (p ∷ pairs) (x ∷ ts) a t k = elim (contains_cases x t ts k) [
  | inl e ↦ record { from = p; has = contains_head p pairs; lowest = subst (IsLowest (pair_sum products rays p)) e a.0 }
  | inr m ↦ let i = from_pair products rays pairs ts a.1 t m in record { from = i.from; has = contains_tail p i.from pairs i.has; lowest = i.lowest }
]

to_row : (products : List ℤ) (rays : List (List ℤ)) (pairs : List Pair) (ts : List (List ℤ)) → AreCombined products rays pairs ts → (p : Pair) → Contains pairs p → (t : List ℤ) × Contains ts t ×
    IsLowest (pair_sum products rays p) t
to_row products rays [] ts a p k = absurd (contains_none p k)
to_row products rays (q ∷ pairs) [] a p k = absurd a
to_row products rays (q ∷ pairs) (x ∷ ts) a p k = elim (contains_cases q p pairs k) [
  | inl e ↦ (x, contains_head x ts, subst (λ (y : Pair). IsLowest (pair_sum products rays y) x) e a.0)
  | inr m ↦ let i = to_row products rays pairs ts a.1 p m in (i.0, contains_tail x i.0 ts i.1, i.2)
]

module _ (w : ℕ) (c : List ℤ) (taken : List LinearRow) (lines rays : List (List ℤ)) (d : AreDual w (system_of taken) (all_rows lines rays)) (k : IsCanonical lines rays) where
  abbrev products : List ℤ
  products = map (product c) rays

  abbrev rows : List (List Bool)
  rows = saturation_rows taken rays

  abbrev ray : ℕ → List ℤ
  ray i = get_or rays i []

  product_at : (i : ℕ) → i < length rays → get_or products i (pos 0) ≡ product c (ray i)
  product_at i h = get_or-map (product c) rays i [] (pos 0) h

  once : NoRepeat rays
  once = no_repeat lines rays k

  sum_is : (p : Pair) → p.up < length rays → p.down < length rays → pair_sum products rays p ≡ pair c (ray p.up) (ray p.down)
  sum_is p hu hd = ap (λ z. blend (neg_ℤ z) (get_or products p.up (pos 0)) (ray p.up) (ray p.down)) (product_at p.down hd) ∙
      ap (λ z. blend (neg_ℤ (product c (ray p.down))) z (ray p.up) (ray p.down)) (product_at p.up hu)

  both_is : (i j : ℕ) → i < length rays → j < length rays → both_tight rows i j ≡ both (tight_values taken (ray i)) (tight_values taken (ray j))
  both_is i j hi hj = ap (λ (x : List Bool). both x (get_or rows j [])) (row_at taken rays i hi) ∙ ap (λ (x : List Bool). both (tight_values taken (ray i)) x) (row_at taken rays j hj)

  inside : (i : ℕ) → i < length products → i < length rays
  inside i h = omega (arith, h, length-map rays (product c))

  -- an adjacent pair gives an adjacent sum
  adjacent_sum : (p : Pair) (t : List ℤ) → IsAdjacentPair products rows p → IsLowest (pair_sum products rays p) t → IsAdjacentSum c (system_of taken) rays t
  adjacent_sum p t a l =
      let hu : p.up < length rays = inside p.up (above_inside products p.up a.above) in
      let hd : p.down < length rays = inside p.down (below_inside products p.down a.below) in
      record {
        up = ray p.up;
        down = ray p.down;
        has_up = Contains-get_or rays p.up [] hu;
        has_down = Contains-get_or rays p.down [] hd;
        above = subst (λ z. pos 0 <ℤ z) (product_at p.up hu) a.above;
        below = subst (λ z. z <ℤ pos 0) (product_at p.down hd) a.below;
        adjacent = λ n.
            let place = n.has.0 in
            let has : place < length rays = n.has.1 in
            let is : ray place ≡ n.ray = get_or_default rays place [] n.ray has ∙ n.has.2 in
            a.alone place (omega (arith, has, rows_length taken rays)) (λ e. n.not_p (sym is ∙ ap ray e)) (λ e. n.not_n (sym is ∙ ap ray e))
            (subst (λ (x : List Bool). IsSubset x (get_or rows place [])) (sym (a.is_tight ∙ both_is p.up p.down hu hd))
            (subst (IsSubset (both (tight_values taken (ray p.up)) (tight_values taken (ray p.down)))) (sym (row_at taken rays place has))
            (subset_from taken (ray p.up) (ray p.down) (ray place) (λ s m e f. ap (λ (y : List ℤ). dot s (entry y)) is ∙ n.tight s m e f))));
        lowest = subst (λ (y : List ℤ). IsLowest y t) (sum_is p hu hd) l;
      }

  -- a third ray on the matrix is one between the two
  third_between : (i j : ℕ) → i < length rays → j < length rays → HasThird rows i j (both_tight rows i j) → NotAdjacent (system_of taken) rays (ray i) (ray j)
  third_between i j hi hj h =
      let has : h.third < length rays = omega (arith, h.inside, rows_length taken rays) in
      record {
        ray = ray h.third;
        has = Contains-get_or rays h.third [] has;
        not_p = λ e. h.not_up (no_repeat_place rays h.third i [] once has hi e);
        not_n = λ e. h.not_down (no_repeat_place rays h.third j [] once has hj e);
        tight = subset_said taken (ray i) (ray j) (ray h.third)
            (subst (IsSubset (both (tight_values taken (ray i)) (tight_values taken (ray j)))) (row_at taken rays h.third has)
            (subst (λ (x : List Bool). IsSubset x (get_or rows h.third [])) (both_is i j hi hj) h.covers));
      }

  -- the combinations of pairs that are apart don't repeat
  sums_once : (pairs : List Pair) (ts : List (List ℤ)) → ((p : Pair) → Contains pairs p → IsAdjacentPair products rows p) → AreApart pairs → AreCombined products rays pairs ts → NoRepeat ts
  unfolding adjacent_sum
  sums_once [] [] each apart a = tt
  sums_once [] (x ∷ ts) each apart a = absurd a
  sums_once (p ∷ pairs) [] each apart a = absurd a
  sums_once (p ∷ pairs) (t ∷ ts) each apart a = (
    λ m.
        let f = from_pair products rays pairs ts a.1 t m in
        let pa = each p (contains_head p pairs) in
        let qa = each f.from (contains_tail p f.from pairs f.has) in
        let two = same_two w c (system_of taken) lines rays d k t t (adjacent_sum p t pa a.0) (adjacent_sum f.from t qa f.lowest) (λ s i e. e) in
        two.0 (λ e. two.1 (λ g. apart.0 f.from f.has
        (no_repeat_place rays f.from.up p.up [] once (inside f.from.up (above_inside products f.from.up qa.above)) (inside p.up (above_inside products p.up pa.above)) e)
        (no_repeat_place rays f.from.down p.down [] once (inside f.from.down (below_inside products f.from.down qa.below)) (inside p.down (below_inside products p.down pa.below)) g))),
    sums_once pairs ts (λ q i. each q (contains_tail p q pairs i)) apart.1 a.1,
  )

  -- the rays that stay and the combinations are the new rays
  pub cut_case : (equal : Bool) (pairs : List Pair) (ts : List (List ℤ)) → ArePairs products rows (length products) 0 pairs → AreCombined products rays pairs ts →
      RayCase equal c (system_of taken) rays (inside_rays equal c rays ++ ts)
  cut_case equal pairs ts p a =
      let test : List ℤ → Bool = λ r. is_inside equal (product c r) in
      let sum_of : (t : List ℤ) → Contains ts t → IsAdjacentSum c (system_of taken) rays t =
      λ t m. let f = from_pair products rays pairs ts a t m in adjacent_sum f.from t (p.each f.from f.has) f.lowest in
      record {
        keeps = λ r m h. Contains-append_left (inside_rays equal c rays) ts r (filter_has test rays r m (inside_yes equal (product c r) h));
        pairs = λ u e hu he above below.
            let i = hu.0 in
            let j = he.0 in
            let ui : ray i ≡ u = get_or_default rays i [] u hu.1 ∙ hu.2 in
            let ej : ray j ≡ e = get_or_default rays j [] e he.1 ∙ he.2 in
            let up = subst (λ z. pos 0 <ℤ z) (sym (product_at i hu.1 ∙ ap (product c) ui)) above in
            let down = subst (λ z. z <ℤ pos 0) (sym (product_at j he.1 ∙ ap (product c) ej)) below in
            elim (p.whole i j (inl (above_inside products i up)) up down) [
              | inl q ↦
                  let t = to_row products rays pairs ts a q.0 q.1 in
                  let qi : ray q.0.up ≡ u = ap ray q.2 ∙ ui in
                  let qj : ray q.0.down ≡ e = ap ray q.3 ∙ ej in
                  let s : pair_sum products rays q.0 ≡ pair c u e = sum_is q.0 (subst (λ (n : ℕ). n < length rays) (sym q.2) hu.1) (subst (λ (n : ℕ). n < length rays) (sym q.3) he.1) ∙
                  ap (λ (y : List ℤ). pair c y (ray q.0.down)) qi ∙ ap (pair c u) qj in
                  inr (t.0, Contains-append_right (inside_rays equal c rays) ts t.0 t.1, subst (λ (y : List ℤ). IsLowest y t.0) s t.2)
              | inr h ↦ inl (subst (λ (y : List ℤ). NotAdjacent (system_of taken) rays y e) ui (subst (NotAdjacent (system_of taken) rays (ray i)) ej (third_between i j hu.1 he.1 h)))
            ];
        from = λ t m. elim (Contains-append_cases (inside_rays equal c rays) ts t m) [
          | inl i ↦ let f = filter_from test rays t i in inl (f.0, inside_said equal (product c t) f.1)
          | inr i ↦ inr (sum_of t i)
        ];
        once = no_repeat_append (inside_rays equal c rays) ts (no_repeat_filter test rays once) (sums_once pairs ts p.each p.apart a)
            (λ t i j. let s = sum_of t j in none_between w c (system_of taken) lines rays d k t s t (filter_from test rays t i).0 (sum_flat w c (system_of taken) lines rays d k t s)
            (λ q m e f. tight_sum_of w c (system_of taken) lines rays d k t s q e f));
      }

  -- ---- the matrix of the combinations
  both_test : (x y z : ℤ) → (z ≡ pos 0 → (x ≡ pos 0) × (y ≡ pos 0)) → (x ≡ pos 0 → y ≡ pos 0 → z ≡ pos 0) → int_eq z (pos 0) ≡ (int_eq x (pos 0) && int_eq y (pos 0))
  both_test x y z h i = go (int_eq x (pos 0)) (int_eq y (pos 0)) (int_eq z (pos 0)) refl refl refl
    where
      go : (a b e : Bool) → int_eq x (pos 0) ≡ a → int_eq y (pos 0) ≡ b → int_eq z (pos 0) ≡ e → e ≡ (a && b)
      go true true true ex ey ez = refl
      go true false false ex ey ez = refl
      go false b false ex ey ez = refl
      go true true false ex ey ez = sym ez ∙ (Decides-int_eq z (pos 0)).1 (i ((Decides-int_eq x (pos 0)).0 ex) ((Decides-int_eq y (pos 0)).0 ey))
      go true false true ex ey ez = sym ((Decides-int_eq y (pos 0)).1 (h ((Decides-int_eq z (pos 0)).0 ez)).1) ∙ ey
      go false b true ex ey ez = sym ((Decides-int_eq x (pos 0)).1 (h ((Decides-int_eq z (pos 0)).0 ez)).0) ∙ ex

  values_both : (list : List LinearRow) (t u e : List ℤ) → ((s : List ℤ) → Contains (system_of list) s → (product s t ≡ pos 0 → (product s u ≡ pos 0) × (product s e ≡ pos 0)) ×
      (product s u ≡ pos 0 → product s e ≡ pos 0 → product s t ≡ pos 0)) →
      tight_values list t ≡ both (tight_values list u) (tight_values list e)
  values_both [] t u e h = refl
  values_both (g ∷ list) t u e h =
      let here = h g.row (with_has g.equal g.row (system_of list)) in
      ap (λ (b : Bool). b ∷ tight_values list t) (both_test (product g.row u) (product g.row e) (product g.row t) here.0 here.1) ∙
      ap (λ (x : List Bool). (int_eq (product g.row u) (pos 0) && int_eq (product g.row e) (pos 0)) ∷ x) (values_both list t u e (λ s m. h s (with_later g.equal g.row (system_of list) s m)))

  sum_values : (p : Pair) (t : List ℤ) → IsAdjacentPair products rows p → IsLowest (pair_sum products rays p) t → (g : LinearRow) → g.row ≡ c → p.tight ++ true ∷ [] ≡ tight_values (taken ++ g ∷ []) t
  unfolding adjacent_sum
  sum_values p t a l g e =
      let s = adjacent_sum p t a l in
      let hu : p.up < length rays = inside p.up (above_inside products p.up a.above) in
      let hd : p.down < length rays = inside p.down (below_inside products p.down a.below) in
      let old : tight_values taken t ≡ both (tight_values taken (ray p.up)) (tight_values taken (ray p.down)) =
      values_both taken t (ray p.up) (ray p.down) (λ q m. (sum_tight w c (system_of taken) lines rays d k t s q m, tight_sum_of w c (system_of taken) lines rays d k t s q)) in
      let new : int_eq (product g.row t) (pos 0) ≡ true = (Decides-int_eq (product g.row t) (pos 0)).1 (ap (λ (r : List ℤ). product r t) e ∙ sum_flat w c (system_of taken) lines rays d k t s) in
      ap (λ (x : List Bool). x ++ true ∷ []) (a.is_tight ∙ both_is p.up p.down hu hd ∙ sym old) ∙ ap (λ (b : Bool). tight_values taken t ++ b ∷ []) (sym new) ∙ sym (values_end taken g t)

  pub pair_rows : (pairs : List Pair) (ts : List (List ℤ)) (g : LinearRow) → g.row ≡ c → ((p : Pair) → Contains pairs p → IsAdjacentPair products rows p) → AreCombined products rays pairs ts →
      pair_tight_rows pairs ≡ saturation_rows (taken ++ g ∷ []) ts
  pair_rows [] [] g e each a = refl
  pair_rows [] (t ∷ ts) g e each a = absurd a
  pair_rows (p ∷ pairs) [] g e each a = absurd a
  pair_rows (p ∷ pairs) (t ∷ ts) g e each a =
      ap (λ (x : List Bool). x ∷ pair_tight_rows pairs) (sum_values p t (each p (contains_head p pairs)) a.0 g e) ∙
      ap (λ (x : List (List Bool)). tight_values (taken ++ g ∷ []) t ∷ x) (pair_rows pairs ts g e (λ q m. each q (contains_tail p q pairs m)) a.1)
