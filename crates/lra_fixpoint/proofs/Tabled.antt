-- What stands in tables is what a pass found.
use Rattle.std.proofs.Common.{◌≡◌, ◌≢◌, ℕ, zero, suc, ◌+◌, ◌≤◌, ◌<◌, List, [], ◌∷◌, ◌++◌, length, map, take, get_or, Option, Some, None, Bool, inl, inr, refl, sym, ap, ◌∙◌, subst, arith}
use Rattle.std.proofs.lemmas.Bool.{cases_eq, cases_lt, cond-true, cond-false, false_from_ne_true}
use Rattle.std.proofs.{lemmas.List.length-replicate, lemmas.List.length-set, lemmas.List.length-map, lemmas.List.Elements.Contains-append_left, lemmas.List.Elements.Contains-push}
use Rattle.std.proofs.{lemmas.List.Elements.Contains-push_cases, lemmas.Option.none-some, lemmas.Option.same_Some, lemmas.Option.slice_get-map, lemmas.Option.slice_get_past}
use Rattle.std.specs.Prelude.{◌↔◌, IsTrue, slice_get, slice_set, replicate, flat_map, option_map, cond, true, false}
use Rattle.std.specs.{List.Contains, Option.option_to_list}
use Rattle.lra_fixpoint.proofs.Crates.lra_linear_spec.ListPlaces.{there_within}
use Rattle.lra_fixpoint.proofs.Crates.lra_linear_spec.Membership.{contains_none, contains_head, contains_tail, contains_cases}
use Rattle.lra_fixpoint.specs.Crates.lra_analysis_spec.Analysis.{IsUnreachable, IsSolution}
use Rattle.lra_fixpoint.specs.Crates.lra_analysis_spec.Pass.{PassEntry, value, failing, recorded, PassResult}
use Rattle.lra_fixpoint.specs.Crates.{lra_domain.Abstraction.Abstraction, lra_program.Assertions.assertions_from, lra_program.Sites.Site}
use Rattle.lra_fixpoint.specs.{Counts.values_at, Counts.failing_at, Counts.AreCounted, Counts.AreApart, Numbers.asserts_of, Tables.AreTabled, Tables.filled_from}
use Rattle.lra_fixpoint.proofs.Counting.{values_append, failing_append, value_counted, failing_counted, counted_value, counted_failing, one_value, asserts_few}

-- places -------------------------------------------------------------------------------------------------------------

module _ {A : Type 0} where
  pub replicate_push : (n : ℕ) (x : A) → replicate n x ++ x ∷ [] ≡ replicate (suc n) x
  replicate_push zero x = refl
  replicate_push (suc n) x = ap (λ (xs : List A). x ∷ xs) (replicate_push n x)

  no_place : (n q : ℕ) (x : A) → slice_get (replicate n (let o : Option A = None in o)) q ≡ Some (Some x) → ⊥
  no_place zero q x e = none-some (Some x) e
  no_place (suc n) zero x e = none-some x (same_Some None (Some x) e)
  no_place (suc n) (suc q) x e = no_place n q x e

  place_set : (xs : List A) (k : ℕ) (x : A) → k < length xs → slice_get (slice_set xs k x) k ≡ Some x
  place_set [] k x h = absurd (omega (arith, h))
  place_set (y ∷ ys) zero x h = refl
  place_set (y ∷ ys) (suc k) x h = place_set ys k x (omega (arith, h))

  place_other : (xs : List A) (k q : ℕ) (x : A) → k ≢ q → slice_get (slice_set xs k x) q ≡ slice_get xs q
  place_other [] k q x n = refl
  place_other (y ∷ ys) zero zero x n = absurd (n refl)
  place_other (y ∷ ys) zero (suc q) x n = refl
  place_other (y ∷ ys) (suc k) zero x n = refl
  place_other (y ∷ ys) (suc k) (suc q) x n = place_other ys k q x (λ e. n (ap suc e))

-- the next of a list's elements
pub record Next {A : Type 0} (all front : List A) (x : A) : Type 0 where
  pub rest : List A
  pub is : all ≡ front ++ x ∷ rest

pub next_in : {A : Type 0} (all front : List A) (x : A) → front ≡ take (length front) all → length front < length all → x ≡ get_or all (length front) x → Next all front x
next_in [] front x same h is = absurd (omega (arith, h))
next_in (a ∷ all) [] x same h is = record { rest = all; is = ap (λ (y : _). y ∷ all) (sym is) }
next_in {A} (a ∷ all) (f ∷ front) x same h is =
    let head : f ≡ a = cc in
    let tail : front ≡ take (length front) all = cc in
    let i = next_in all front x tail (omega (arith, h)) is in record { rest = i.rest; is = ap (λ (ys : List A). a ∷ ys) i.is ∙ ap (λ (y : A). y ∷ front ++ x ∷ i.rest) (sym head) }

-- entries apart ------------------------------------------------------------------------------------------------------

module _ (V : Type 0) where
  pub few_before : (q : ℕ) (xs ys : List (PassEntry V)) → values_at q (xs ++ ys) ≤ 1 → values_at q xs ≤ 1
  few_before q xs ys h = let a = values_append q xs ys in omega (arith, a, h)

  pub few_checks_before : (q : ℕ) (xs ys : List (PassEntry V)) → failing_at q (xs ++ ys) ≤ 1 → failing_at q xs ≤ 1
  few_checks_before q xs ys h = let a = failing_append q xs ys in omega (arith, a, h)

  -- an entry's number is that of a place
  pub value_inside : (n q : ℕ) (v : V) (xs : List (PassEntry V)) → AreApart n xs → Contains xs (value q v) → q < n
  value_inside n q v xs apart h = elim (cases_lt q n) [ inl i ↦ i | inr p ↦ absurd (let one = value_counted V q v xs h in let none = apart.none q p in omega (arith, one, none)) ]

  pub failing_inside : (n q : ℕ) (v : V) (xs : List (PassEntry V)) → AreApart n xs → Contains xs (failing q v) → q < n
  failing_inside n q v xs apart h = elim (cases_lt q n) [ inl i ↦ i | inr p ↦ absurd (let one = failing_counted V q v xs h in let none = apart.no_checks q p in omega (arith, one, none)) ]

  value_parts : (p q : ℕ) (u v : V) → (let a : PassEntry V = value p u in a) ≡ value q v → (p ≡ q) × (u ≡ v)
  value_parts p q u v e = (cc, cc)

  failing_parts : (p q : ℕ) (u v : V) → (let a : PassEntry V = failing p u in a) ≡ failing q v → (p ≡ q) × (u ≡ v)
  failing_parts p q u v e = (cc, cc)

  kinds_differ : (p q : ℕ) (u v : V) → (let a : PassEntry V = value p u in a) ≡ failing q v → ⊥
  kinds_differ p q u v e = cc

-- one entry more -----------------------------------------------------------------------------------------------------

module _ {V H : Type 0} (m : Abstraction V H) (n : ℕ) where
  pub none_tabled : (values : List (Option V)) (verdicts : List (Option Bool)) → values ≡ replicate n None → verdicts ≡ replicate n None → AreTabled m n [] values verdicts
  none_tabled values verdicts is are = record {
    places = ap length is ∙ length-replicate n None;
    verdict_places = ap length are ∙ length-replicate n None;
    is_value = λ q v. (λ e. absurd (no_place n q v (subst (λ (t : List (Option V)). slice_get t q ≡ Some (Some v)) is e)), λ h. absurd (contains_none (value q v) h));
    is_verdict = λ q b e. absurd (no_place n q b (subst (λ (t : List (Option Bool)). slice_get t q ≡ Some (Some b)) are e));
    has_verdict = λ q u h. absurd (contains_none (failing q u) h);
  }

  -- what a variable got has no place
  pub given_tabled : (xs : List (PassEntry V)) (values : List (Option V)) (verdicts : List (Option Bool)) → AreTabled m n xs values verdicts →
      (p place : ℕ) (v : V)
      → AreTabled m n (xs ++ recorded p place v ∷ []) values verdicts
  given_tabled xs values verdicts tabled p place v = record {
    places = tabled.places;
    verdict_places = tabled.verdict_places;
    is_value = λ q w. (
      λ e. Contains-append_left xs (recorded p place v ∷ []) (value q w) ((tabled.is_value q w).0 e),
      λ h. elim (Contains-push_cases xs (recorded p place v) (value q w) h) [ inl i ↦ (tabled.is_value q w).1 i | inr e ↦ absurd (no_value q w e) ],
    );
    is_verdict = λ q b e. let k = tabled.is_verdict q b e in (k.0, Contains-append_left xs (recorded p place v ∷ []) (failing q k.0) k.1, k.2);
    has_verdict = λ q u h. elim (Contains-push_cases xs (recorded p place v) (failing q u) h) [
      | inl i ↦ tabled.has_verdict q u i
      | inr e ↦ absurd (no_failing q u e)
    ];
  }
    where
      no_value : (q : ℕ) (w : V) → (let a : PassEntry V = recorded p place v in a) ≡ value q w → ⊥
      no_value q w e = cc

      no_failing : (q : ℕ) (w : V) → (let a : PassEntry V = recorded p place v in a) ≡ failing q w → ⊥
      no_failing q w e = cc

  module _ (xs : List (PassEntry V)) (values : List (Option V)) (verdicts : List (Option Bool)) (tabled : AreTabled m n xs values verdicts) (p : ℕ) (inside : p < n) where
    pub value_tabled : (v : V) → values_at p (xs ++ value p v ∷ []) ≤ 1 → AreTabled m n (xs ++ value p v ∷ []) (slice_set values p (Some v)) verdicts
    value_tabled v few = record {
      places = length-set values p (Some v) ∙ tabled.places;
      verdict_places = tabled.verdict_places;
      is_value = λ q w. (there q w, back q w);
      is_verdict = λ q b e. let k = tabled.is_verdict q b e in (k.0, Contains-append_left xs (value p v ∷ []) (failing q k.0) k.1, k.2);
      has_verdict = λ q u h. elim (Contains-push_cases xs (value p v) (failing q u) h) [ inl i ↦ tabled.has_verdict q u i | inr e ↦ absurd (kinds_differ V p q v u e) ];
    }
      where
        here : slice_get (slice_set values p (Some v)) p ≡ Some (Some v)
        here = place_set values p (Some v) (let l = tabled.places in omega (arith, l, inside))

        there : (q : ℕ) (w : V) → slice_get (slice_set values p (Some v)) q ≡ Some (Some w) → Contains (xs ++ value p v ∷ []) (value q w)
        there q w e = elim (cases_eq p q) [
          | inl same ↦ (let at : Some (Some v) ≡ Some (Some w) = sym here ∙ (subst (λ (k : ℕ). slice_get (slice_set values p (Some v)) k ≡ Some (Some w)) (sym same) e) in
              let is : v ≡ w = same_Some v w (same_Some (Some v) (Some w) at) in
              subst (λ (k : ℕ). Contains (xs ++ value p v ∷ []) (value k w)) same (subst (λ (x : V). Contains (xs ++ value p v ∷ []) (value p x)) is (Contains-push xs (value p v))))
          | inr other ↦ Contains-append_left xs (value p v ∷ []) (value q w) ((tabled.is_value q w).0 (sym (place_other values p q (Some v) other) ∙ e))
        ]

        back : (q : ℕ) (w : V) → Contains (xs ++ value p v ∷ []) (value q w) → slice_get (slice_set values p (Some v)) q ≡ Some (Some w)
        back q w h = elim (cases_eq p q) [
          | inl same ↦ (let k : Contains (xs ++ value p v ∷ []) (value p w) = subst (λ (j : ℕ). Contains (xs ++ value p v ∷ []) (value j w)) (sym same) h in
              let is : v ≡ w = one_value V p v w (xs ++ value p v ∷ []) few (Contains-push xs (value p v)) k in
              subst (λ (j : ℕ). slice_get (slice_set values p (Some v)) j ≡ Some (Some w)) same (here ∙ ap (λ (x : V). Some (Some x)) is))
          | inr other ↦ elim (Contains-push_cases xs (value p v) (value q w) h) [
            | inl i ↦ place_other values p q (Some v) other ∙ (tabled.is_value q w).1 i
            | inr e ↦ absurd (other (value_parts V p q v w e).0)
          ]
        ]

    pub failing_tabled : (u : V) (proved : Bool) → failing_at p (xs ++ failing p u ∷ []) ≤ 1 → (IsTrue proved ↔ IsUnreachable m u) →
        AreTabled m n (xs ++ failing p u ∷ []) values (slice_set verdicts p (Some proved))
    failing_tabled u proved few so = record {
      places = tabled.places;
      verdict_places = length-set verdicts p (Some proved) ∙ tabled.verdict_places;
      is_value = λ q w. (
        λ e. Contains-append_left xs (failing p u ∷ []) (value q w) ((tabled.is_value q w).0 e),
        λ h. elim (Contains-push_cases xs (failing p u) (value q w) h) [ inl i ↦ (tabled.is_value q w).1 i | inr e ↦ absurd (kinds_differ V q p w u (sym e)) ],
      );
      is_verdict = there;
      has_verdict = back;
    }
      where
        here : slice_get (slice_set verdicts p (Some proved)) p ≡ Some (Some proved)
        here = place_set verdicts p (Some proved) (let l = tabled.verdict_places in omega (arith, l, inside))

        there : (q : ℕ) (b : Bool) → slice_get (slice_set verdicts p (Some proved)) q ≡ Some (Some b) → (w : V) × Contains (xs ++ failing p u ∷ []) (failing q w) × (IsTrue b ↔ IsUnreachable m w)
        there q b e = elim (cases_eq p q) [
          | inl same ↦ (let at : Some (Some proved) ≡ Some (Some b) = sym here ∙ (subst (λ (k : ℕ). slice_get (slice_set verdicts p (Some proved)) k ≡ Some (Some b)) (sym same) e) in
              let is : proved ≡ b = same_Some proved b (same_Some (Some proved) (Some b) at) in
              (u, subst (λ (k : ℕ). Contains (xs ++ failing p u ∷ []) (failing k u)) same (Contains-push xs (failing p u)), subst (λ (x : Bool). IsTrue x ↔ IsUnreachable m u) is so))
          | inr other ↦ (let k = tabled.is_verdict q b (sym (place_other verdicts p q (Some proved) other) ∙ e) in (k.0, Contains-append_left xs (failing p u ∷ []) (failing q k.0) k.1, k.2))
        ]

        back : (q : ℕ) (w : V) → Contains (xs ++ failing p u ∷ []) (failing q w) → (b : Bool) × (slice_get (slice_set verdicts p (Some proved)) q ≡ Some (Some b))
        back q w h = elim (cases_eq p q) [
          | inl same ↦ (proved, subst (λ (k : ℕ). slice_get (slice_set verdicts p (Some proved)) k ≡ Some (Some proved)) same here)
          | inr other ↦ elim (Contains-push_cases xs (failing p u) (failing q w) h) [
            | inl i ↦ (let k = tabled.has_verdict q w i in (k.0, place_other verdicts p q (Some proved) other ∙ k.1))
            | inr e ↦ absurd (other (failing_parts V p q u w e).0)
          ]
        ]

-- filled places ------------------------------------------------------------------------------------------------------

module _ {A : Type 0} where
  all_filled : (t : List (Option A)) → ((q : ℕ) → q < length t → (x : A) × (slice_get t q ≡ Some (Some x))) → map (λ (x : A). Some x) (flat_map option_to_list t) ≡ t
  all_filled [] f = refl
  all_filled (o ∷ t) f =
      let first = f 0 (omega arith) in
      let is : o ≡ Some first.0 = same_Some o (Some first.0) first.1 in
      subst (λ (p : Option A). map (λ (x : A). Some x) (flat_map option_to_list (p ∷ t)) ≡ p ∷ t) (sym is)
      (ap (λ (ps : List (Option A)). Some first.0 ∷ ps) (all_filled t (λ q h. f (suc q) (omega (arith, h)))))

  held : (o : Option A) (x : A) → option_map (λ (y : A). Some y) o ≡ Some (Some x) → o ≡ Some x
  held None x e = absurd (none-some (Some x) e)
  held (Some y) x e = same_Some (Some y) (Some x) e

  held_place : (vs : List A) (t : List (Option A)) (q : ℕ) (x : A) → map (λ (y : A). Some y) vs ≡ t → (slice_get vs q ≡ Some x) ↔ (slice_get t q ≡ Some (Some x))
  held_place vs t q x is =
      let at : option_map (λ (y : A). Some y) (slice_get vs q) ≡ slice_get t q = sym (slice_get-map (λ (y : A). Some y) vs q) ∙ ap (λ (s : List (Option A)). slice_get s q) is in
      (λ e. sym at ∙ ap (λ (o : Option A). option_map (λ (y : A). Some y) o) e, λ e. held (slice_get vs q) x (at ∙ e))

  pair_parts : (p q : ℕ) (x y : A) → (let a : ℕ × A = (p, x) in a) ≡ (q, y) → (p ≡ q) × (x ≡ y)
  pair_parts p q x y e = (ap (λ (a : ℕ × A). a.0) e, ap (λ (a : ℕ × A). a.1) e)

  filled_is : (n : ℕ) (t : List (Option A)) (p : ℕ) (x : A) → Contains (filled_from n t) (p, x) → (q : ℕ) × (p ≡ n + q) × (slice_get t q ≡ Some (Some x))
  filled_is n [] p x h = absurd (contains_none (p, x) h)
  filled_is n (None ∷ t) p x h = let i = filled_is (suc n) t p x h in (suc i.0, (let is = i.1 in omega (arith, is)), i.2)
  filled_is n (Some y ∷ t) p x h = elim (contains_cases (n, y) (p, x) (filled_from (suc n) t) h) [
    | inl e ↦ (let k = pair_parts n p y x e in (0, (let is = k.0 in omega (arith, is)), ap (λ (z : A). Some (Some z)) k.1))
    | inr j ↦ (let i = filled_is (suc n) t p x j in (suc i.0, (let is = i.1 in omega (arith, is)), i.2))
  ]

  filled_has : (n : ℕ) (t : List (Option A)) (q : ℕ) (x : A) → slice_get t q ≡ Some (Some x) → Contains (filled_from n t) (n + q, x)
  filled_has n [] q x e = absurd (none-some (Some x) e)
  filled_has n (None ∷ t) zero x e = absurd (none-some x (same_Some None (Some x) e))
  filled_has n (None ∷ t) (suc q) x e = let k : suc n + q ≡ n + suc q = omega arith in subst (λ (p : ℕ). Contains (filled_from (suc n) t) (p, x)) k (filled_has (suc n) t q x e)
  filled_has n (Some y ∷ t) zero x e =
      let is : y ≡ x = same_Some y x (same_Some (Some y) (Some x) e) in
      let k : n ≡ n + 0 = omega arith in
      subst (λ (p : ℕ). Contains (filled_from n (Some y ∷ t)) (p, x)) k (subst (λ (z : A). Contains (filled_from n (Some y ∷ t)) (n, z)) is (contains_head (n, y) (filled_from (suc n) t)))
  filled_has n (Some y ∷ t) (suc q) x e =
      let k : suc n + q ≡ n + suc q = omega arith in
      subst (λ (p : ℕ). Contains (filled_from n (Some y ∷ t)) (p, x)) k (contains_tail (n, y) (suc n + q, x) (filled_from (suc n) t) (filled_has (suc n) t q x e))

  filled_low : (n : ℕ) (t : List (Option A)) (j : ℕ) (b : ℕ × A) → slice_get (filled_from n t) j ≡ Some b → n ≤ b.0
  filled_low n [] j b e = absurd (none-some b e)
  filled_low n (None ∷ t) j b e = let h = filled_low (suc n) t j b e in omega (arith, h)
  filled_low n (Some y ∷ t) zero b e = let is : n ≡ b.0 = ap (λ (a : ℕ × A). a.0) (same_Some (n, y) b e) in omega (arith, is)
  filled_low n (Some y ∷ t) (suc j) b e = let h = filled_low (suc n) t j b e in omega (arith, h)

  filled_order : (n : ℕ) (t : List (Option A)) (i j : ℕ) (a b : ℕ × A) → i < j → slice_get (filled_from n t) i ≡ Some a → slice_get (filled_from n t) j ≡ Some b → a.0 < b.0
  filled_order n [] i j a b h d e = absurd (none-some a d)
  filled_order n (None ∷ t) i j a b h d e = filled_order (suc n) t i j a b h d e
  filled_order n (Some y ∷ t) i zero a b h d e = absurd (omega (arith, h))
  filled_order n (Some y ∷ t) zero (suc j) a b h d e =
      let is : n ≡ a.0 = ap (λ (c : ℕ × A). c.0) (same_Some (n, y) a d) in let low = filled_low (suc n) t j b e in omega (arith, is, low)
  filled_order n (Some y ∷ t) (suc i) (suc j) a b h d e = filled_order (suc n) t i j a b (omega (arith, h)) d e

-- the assertions among the sites are the filled places
abbrev AreAsserted : List Site → List (Option Bool) → Type 0
AreAsserted T t = (q : ℕ) → (asserts_of (slice_get T q) ≡ 1) ↔ ((b : Bool) × (slice_get t q ≡ Some (Some b)))

is_asserted : (s : Site) → asserts_of (Some s) ≡ 1 → s.asserts ≡ true
is_asserted s e = asserted s.asserts e
  where
    asserted : (b : Bool) → (let n : ℕ = cond b 1 0 in n) ≡ 1 → b ≡ true
    asserted true e = refl
    asserted false e = absurd (omega (arith, e))

filled_numbers : (n : ℕ) (T : List Site) (t : List (Option Bool)) → length t ≡ length T → AreAsserted T t →
    map (λ (v : ℕ × Bool). v.0) (filled_from n t) ≡ map (λ (a : ℕ × Site). a.0) (assertions_from n T)
filled_numbers n [] [] long asserted = refl
filled_numbers n [] (o ∷ t) long asserted = absurd (omega (arith, long))
filled_numbers n (s ∷ T) [] long asserted = absurd (omega (arith, long))
filled_numbers n (s ∷ T) (None ∷ t) long asserted =
    let i = filled_numbers (suc n) T t (omega (arith, long)) (λ q. asserted (suc q)) in
    let not_here : s.asserts ≡ false = false_from_ne_true s.asserts (λ e. let k = (asserted 0).0 (ap (λ (b : Bool). cond b 1 0) e) in none-some k.0 (same_Some None (Some k.0) k.1)) in
    i ∙ sym (ap (λ (xs : List (ℕ × Site)). map (λ (a : ℕ × Site). a.0) xs) (cond-false s.asserts ((n, s) ∷ assertions_from (suc n) T) (assertions_from (suc n) T) not_here))
filled_numbers n (s ∷ T) (Some b ∷ t) long asserted =
    let i = filled_numbers (suc n) T t (omega (arith, long)) (λ q. asserted (suc q)) in
    let here : s.asserts ≡ true = is_asserted s ((asserted 0).1 (b, refl)) in
    ap (λ (ns : List ℕ). n ∷ ns) i ∙ sym (ap (λ (xs : List (ℕ × Site)). map (λ (a : ℕ × Site). a.0) xs) (cond-true s.asserts ((n, s) ∷ assertions_from (suc n) T) (assertions_from (suc n) T) here))

-- what tables solve --------------------------------------------------------------------------------------------------

module _ {V : Type 0} (T : List Site) (xs : List (PassEntry V)) (counted : AreCounted T xs) where
  pub apart : (n : ℕ) → n ≡ length T → AreApart n xs
  apart n is = record {
    few = λ q. few q (slice_get T q) refl;
    few_checks = λ q. let c = counted.checks q in let f = asserts_few (slice_get T q) in omega (arith, c, f);
    none = λ q h. counted.no_values q (slice_get_past T q (omega (arith, is, h)));
    no_checks = λ q h. counted.checks q ∙ ap asserts_of (slice_get_past T q (omega (arith, is, h)));
  }
    where
      few : (q : ℕ) (o : Option Site) → slice_get T q ≡ o → values_at q xs ≤ 1
      few q None e = let c = counted.no_values q e in omega (arith, c)
      few q (Some s) e = let c = counted.values q s e in omega (arith, c)

module _ {V H : Type 0} (m : Abstraction V H) (T : List Site) (r : PassResult V) (n : ℕ) (t : List (Option V)) (u : List (Option Bool)) (long : n ≡ length T) (counted : AreCounted T r.entries)
    (tabled : AreTabled m n r.entries t u) where
  values_there : (values : List V) → values ≡ flat_map option_to_list t → map (λ (v : V). Some v) values ≡ t
  values_there values is = ap (λ (vs : List V). map (λ (v : V). Some v) vs) is ∙ all_filled t there
    where
      there : (q : ℕ) → q < length t → (v : V) × (slice_get t q ≡ Some (Some v))
      there q h =
          let s = there_within T q (let l = tabled.places in omega (arith, l, long, h)) in
          let k = counted_value V q r.entries (let c = counted.values q s.0 s.1 in omega (arith, c)) in (k.0, (tabled.is_value q k.0).1 k.1)

  pub tables_solve : (values : List V) (verdicts : List (ℕ × Bool)) (flagged : Option ℕ) → values ≡ flat_map option_to_list t → verdicts ≡ filled_from 0 u → flagged ≡ r.flag →
      IsSolution m r values verdicts flagged
  tables_solve values verdicts flagged is are flag = record {
    is_value = λ q v. let p = held_place values t q v (values_there values is) in (λ e. (tabled.is_value q v).0 (p.0 e), λ h. p.1 ((tabled.is_value q v).1 h));
    is_verdict = λ q b h. let k = filled_is 0 u q b (subst (λ (vs : List (ℕ × Bool)). Contains vs (q, b)) are h) in
        let same : k.0 ≡ q = (let e = k.1 in omega (arith, e)) in tabled.is_verdict q b (subst (λ (p : ℕ). slice_get u p ≡ Some (Some b)) same k.2);
    has_verdict = λ q w h.
        let k = tabled.has_verdict q w h in (
          k.0,
          subst (λ (vs : List (ℕ × Bool)). Contains vs (q, k.0)) (sym are) (let same : 0 + q ≡ q = omega arith in subst (λ (p : ℕ). Contains (filled_from 0 u) (p, k.0)) same
              (filled_has 0 u q k.0 k.1)),
        );
    in_order = λ i j a b h d e. filled_order 0 u i j a b h (subst (λ (vs : List (ℕ × Bool)). slice_get vs i ≡ Some a) are d) (subst (λ (vs : List (ℕ × Bool)). slice_get vs j ≡ Some b) are e);
    is_flagged = flag;
  }

  pub values_count : (values : List V) → values ≡ flat_map option_to_list t → length values ≡ length T
  values_count values is = sym (length-map values (λ (v : V). Some v)) ∙ ap length (values_there values is) ∙ tabled.places ∙ long

  pub verdicts_count : (verdicts : List (ℕ × Bool)) → verdicts ≡ filled_from 0 u → map (λ (v : ℕ × Bool). v.0) verdicts ≡ map (λ (a : ℕ × Site). a.0) (assertions_from 0 T)
  verdicts_count verdicts are = ap (λ (vs : List (ℕ × Bool)). map (λ (v : ℕ × Bool). v.0) vs) are ∙ filled_numbers 0 T u (tabled.verdict_places ∙ long) asserted
    where
      asserted : AreAsserted T u
      asserted q = (
        λ e. let k = counted_failing V q r.entries (let c = counted.checks q in omega (arith, c, e)) in tabled.has_verdict q k.0 k.1,
        λ k. let v = tabled.is_verdict q k.0 k.1 in let one = failing_counted V q v.0 r.entries v.1 in let c = counted.checks q in let few = asserts_few (slice_get T q) in omega (arith, one, c, few),
      )
