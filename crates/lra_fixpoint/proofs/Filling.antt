-- One turn of a loop over entries, or over places.
use Rattle.std.proofs.Common.{◌≡◌, ℕ, zero, suc, ◌+◌, ◌≤◌, ◌<◌, List, [], ◌∷◌, ◌++◌, length, map, take, get_or, Option, Some, None, Bool, refl, sym, ap, ◌∙◌, subst, arith, append_assoc}
use Rattle.std.proofs.lemmas.Iterator.Consumers.{YieldsList-end, YieldsList-so_far, YieldsList-turn}
use Rattle.std.proofs.lemmas.Option.{none-some, same_Some, slice_get-get_or}
use Rattle.std.proofs.{lemmas.Iterator.Adapters.YieldsList-from_vec, lemmas.List.map-append, lemmas.List.Elements.Contains-append_left, lemmas.List.Elements.Contains-push}
use Rattle.std.specs.Vec.Iter.{into_iter_items, into_iter_len, into_iter_steps}
use Rattle.std.specs.{Iterator.Yields, List.Contains, Prelude.◌↔◌, Prelude.IsTrue, Prelude.slice_get, Prelude.slice_set, declared.vec.IntoIter.IntoIter}
use Rattle.lra_fixpoint.specs.Crates.{lra_analysis_spec.Analysis.IsUnreachable, lra_analysis_spec.Pass.value, lra_analysis_spec.Pass.failing, lra_domain.Abstraction.Abstraction}
use Rattle.lra_fixpoint.specs.Crates.lra_analysis_spec.Pass as pass
use Rattle.lra_pass_results.specs.declared.outcome.PassEntry.TheVariants.{Value, Failing, Recorded}
use Rattle.lra_pass_results.specs.{Outcome.entry_view, declared.outcome.PassEntry.PassEntry}
use Rattle.lra_fixpoint.specs.{Counts.values_at, Counts.failing_at, Counts.AreApart, Tables.AreTabled, Tables.filled_from}
use Rattle.lra_fixpoint.proofs.Tabled.{Next, next_in, few_before, few_checks_before, value_inside, failing_inside, value_tabled, failing_tabled, given_tabled}

same_items : {A : Type 0} (xs : List A) → map (λ (x : A). x) xs ≡ xs
same_items [] = refl
same_items {A} (x ∷ xs) = ap (λ (ys : List A). x ∷ ys) (same_items xs)

-- the next item of a loop over a `Vec` by value
pub vec_next : {A Z : Type 0} (all : List A) (s : IntoIter A Z) → into_iter_items s ≡ all → into_iter_len s ≡ length all → (front : List A) (t : IntoIter A Z) →
    Yields (into_iter_steps {X = A} {Z = Z}) s front t
    → (r : Option A) (u : IntoIter A Z) (x : A) → r ≡ Some x → into_iter_steps {X = A} {Z = Z} t r u → Next all front x
vec_next all s items len front t yielded r u x is steps =
    let road = YieldsList-from_vec {s = s} all items len in
    let turn = YieldsList-turn road front t yielded r u x is steps in
    next_in all front x (sym (same_items front) ∙ YieldsList-so_far road front t yielded) turn.0 turn.1

-- at its end each was yielded
pub vec_all : {A Z : Type 0} (all : List A) (s : IntoIter A Z) → into_iter_items s ≡ all → into_iter_len s ≡ length all
    → (front : List A) (t : IntoIter A Z) → Yields (into_iter_steps {X = A} {Z = Z}) s front t
    → (r : Option A) (u : IntoIter A Z) → r ≡ None → into_iter_steps {X = A} {Z = Z} t r u → front ≡ all
vec_all all s items len front t yielded r u is steps =
    sym (same_items front) ∙ (YieldsList-end (YieldsList-from_vec {s = s} all items len) front t yielded r u is steps).0

module _ {V : Type 0} (n : ℕ) (all front : List (PassEntry V)) (x : PassEntry V) (apart : AreApart n (map (entry_view {V = V}) all)) (next : Next all front x)
  where
    abbrev seen_front : List (pass.PassEntry V)
    seen_front = map (entry_view {V = V}) front

    seen_all : map (entry_view {V = V}) all ≡ (seen_front ++ entry_view x ∷ []) ++ map (entry_view {V = V}) next.rest
    seen_all =
        ap (λ (es : List (PassEntry V)). map (entry_view {V = V}) es) next.is ∙ map-append (entry_view {V = V}) front (x ∷ next.rest)
        ∙ sym (append_assoc seen_front (entry_view x ∷ []) (map (entry_view {V = V}) next.rest))

    in_all : Contains (map (entry_view {V = V}) all) (entry_view x)
    in_all =
        subst (λ (es : List (pass.PassEntry V)). Contains es (entry_view x)) (sym seen_all)
        (Contains-append_left (seen_front ++ entry_view x ∷ []) (map (entry_view {V = V}) next.rest) (entry_view x) (Contains-push seen_front (entry_view x)))

    seen_more : (e : PassEntry V) → x ≡ e → seen_front ++ entry_view e ∷ [] ≡ map (entry_view {V = V}) (front ++ x ∷ [])
    seen_more e is = sym (map-append (entry_view {V = V}) front (x ∷ []) ∙ ap (λ (y : PassEntry V). seen_front ++ entry_view y ∷ []) is)

    pub value_place : (p : ℕ) (v : V) → x ≡ Value p v → p < n
    value_place p v is = value_inside V n p v (map (entry_view {V = V}) all) apart (subst (λ (e : PassEntry V). Contains (map (entry_view {V = V}) all) (entry_view e)) is in_all)

    pub failing_place : (p : ℕ) (v : V) → x ≡ Failing p v → p < n
    failing_place p v is = failing_inside V n p v (map (entry_view {V = V}) all) apart (subst (λ (e : PassEntry V). Contains (map (entry_view {V = V}) all) (entry_view e)) is in_all)

    module _ {H : Type 0} (m : Abstraction V H) (values : List (Option V)) (verdicts : List (Option Bool)) (tabled : AreTabled m n seen_front values verdicts) (p : ℕ) (v : V) where
      pub value_filled : x ≡ Value p v → AreTabled m n (map (entry_view {V = V}) (front ++ x ∷ [])) (slice_set values p (Some v)) verdicts
      value_filled is =
          let one : values_at p (seen_front ++ entry_view x ∷ []) ≤ 1 = few_before V p (seen_front ++ entry_view x ∷ []) (map (entry_view {V = V}) next.rest)
          (subst (λ (es : List (pass.PassEntry V)). values_at p es ≤ 1) seen_all (apart.few p)) in
          let few : values_at p (seen_front ++ value p v ∷ []) ≤ 1 = subst (λ (e : PassEntry V). values_at p (seen_front ++ entry_view e ∷ []) ≤ 1) is one in
          subst (λ (es : List (pass.PassEntry V)). AreTabled m n es (slice_set values p (Some v)) verdicts) (seen_more (Value p v) is)
          (value_tabled m n seen_front values verdicts tabled p (value_place p v is) v few)

      pub failing_filled : x ≡ Failing p v → (proved : Bool) → (IsTrue proved ↔ IsUnreachable m v) →
          AreTabled m n (map (entry_view {V = V}) (front ++ x ∷ [])) values (slice_set verdicts p (Some proved))
      failing_filled is proved so =
          let one : failing_at p (seen_front ++ entry_view x ∷ []) ≤ 1 = few_checks_before V p (seen_front ++ entry_view x ∷ []) (map (entry_view {V = V}) next.rest)
          (subst (λ (es : List (pass.PassEntry V)). failing_at p es ≤ 1) seen_all (apart.few_checks p)) in
          let few : failing_at p (seen_front ++ failing p v ∷ []) ≤ 1 = subst (λ (e : PassEntry V). failing_at p (seen_front ++ entry_view e ∷ []) ≤ 1) is one in
          subst (λ (es : List (pass.PassEntry V)). AreTabled m n es values (slice_set verdicts p (Some proved))) (seen_more (Failing p v) is)
          (failing_tabled m n seen_front values verdicts tabled p (failing_place p v is) v proved few so)

      pub given_filled : (place : ℕ) → x ≡ Recorded p place v → AreTabled m n (map (entry_view {V = V}) (front ++ x ∷ [])) values verdicts
      given_filled place is = subst (λ (es : List (pass.PassEntry V)). AreTabled m n es values verdicts) (seen_more (Recorded p place v) is)
          (given_tabled m n seen_front values verdicts tabled p place v)

-- one place more
pub filled_some : {A : Type 0} (n : ℕ) (t : List (Option A)) (k : ℕ) (x : A) → slice_get t k ≡ Some (Some x) → filled_from n (take (suc k) t) ≡ filled_from n (take k t) ++ (n + k, x) ∷ []
filled_some n [] k x e = absurd (none-some (Some x) e)
filled_some {A} n (o ∷ t) zero x e =
    let is : o ≡ Some x = same_Some o (Some x) e in
    let at : n ≡ n + 0 = omega arith in
    ap (λ (p : Option A). filled_from n (p ∷ [])) is ∙ ap (λ (p : ℕ). (let a : ℕ × A = (p, x) in a) ∷ []) at
filled_some {A} n (None ∷ t) (suc k) x e =
    let at : suc n + k ≡ n + suc k = omega arith in filled_some (suc n) t k x e ∙ ap (λ (p : ℕ). filled_from (suc n) (take k t) ++ (let a : ℕ × A = (p, x) in a) ∷ []) at
filled_some {A} n (Some y ∷ t) (suc k) x e =
    let at : suc n + k ≡ n + suc k = omega arith in
    ap (λ (xs : List (ℕ × A)). (n, y) ∷ xs) (filled_some (suc n) t k x e ∙ ap (λ (p : ℕ). filled_from (suc n) (take k t) ++ (let a : ℕ × A = (p, x) in a) ∷ []) at)

pub filled_none : {A : Type 0} (n : ℕ) (t : List (Option A)) (k : ℕ) → slice_get t k ≡ Some None → filled_from n (take (suc k) t) ≡ filled_from n (take k t)
filled_none {A} n [] k e = absurd (none-some (let o : Option A = None in o) e)
filled_none {A} n (o ∷ t) zero e = ap (λ (p : Option A). filled_from n (p ∷ [])) (same_Some o None e)
filled_none n (None ∷ t) (suc k) e = filled_none (suc n) t k e
filled_none {A} n (Some y ∷ t) (suc k) e = ap (λ (xs : List (ℕ × A)). (n, y) ∷ xs) (filled_none (suc n) t k e)

module _ {A : Type 0} (t : List (Option A)) (k : ℕ) (xs : List (ℕ × A)) (inside : k < length t) (so_far : xs ≡ filled_from 0 (take k t)) where
  pub place_some : (x : A) → get_or t k None ≡ Some x → xs ++ (k, x) ∷ [] ≡ filled_from 0 (take (k + 1) t)
  place_some x is =
      let number : 0 + k ≡ k = omega arith in
      let one : suc k ≡ k + 1 = omega arith in
      ap (λ (ys : List (ℕ × A)). ys ++ (k, x) ∷ []) so_far ∙ ap (λ (p : ℕ). filled_from 0 (take k t) ++ (p, x) ∷ []) (sym number)
      ∙ sym (filled_some 0 t k x (slice_get-get_or t k None inside ∙ ap (λ (o : Option A). Some o) is)) ∙ ap (λ (n : ℕ). filled_from 0 (take n t)) one

  pub place_none : get_or t k None ≡ None → xs ≡ filled_from 0 (take (k + 1) t)
  place_none is =
      let one : suc k ≡ k + 1 = omega arith in
      so_far ∙ sym (filled_none 0 t k (slice_get-get_or t k None inside ∙ ap (λ (o : Option A). Some o) is)) ∙ ap (λ (n : ℕ). filled_from 0 (take n t)) one
