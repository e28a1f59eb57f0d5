-- An access that is judged to be inside by a value with a run's store isn't one by which that run strays.
use Rattle.std.proofs.Common.{◌≡◌, ℕ, zero, suc, ◌+◌, ◌<◌, ◌++◌, ℤ, pos, negsuc, List, [], ◌∷◌, Option, Some, None, Bool, true, false, length, refl, sym, ap, subst, ◌∙◌, arith, inl, inr}
use Rattle.std.proofs.{Common.length-append, lemmas.Bool.ltb-false, lemmas.Int.ints, lemmas.Option.same_Some, lemmas.Option.slice_get_within, lemmas.Option.slice_get-get_or}
use Rattle.std.specs.Prelude.{◌-ℤ◌, ◌≤ℤ◌, ◌⊎◌, nat_lt, if◌then◌else◌, slice_get, get_or}
use Rattle.lra_analysis_spec.specs.Crates.lra_linear_forms.Form.{Form, form_value, opposite_form}
use Rattle.lra_analysis_spec.specs.Crates.lra_program.Accesses.{expr_accesses, cond_accesses, arguments_accesses, aim_accesses, ExprOutOfBounds, ArgumentsOutOfBounds, CondOutOfBounds, OpOutOfBounds}
use Rattle.lra_analysis_spec.specs.Crates.lra_program.Accesses.{IsOutside}
use Rattle.lra_analysis_spec.specs.Crates.lra_program.Program.{Element, Cond, compare, nonzero, opposite, both_of, either_of}
use Rattle.lra_analysis_spec.specs.Crates.lra_program.Step.{State, environment_at, Op, append, fill, store_value, store_element, havoc, push, push_for, truncate_to, test}
use Rattle.lra_analysis_spec.specs.Crates.{lra_base.Operators.below, lra_base.declared.number_types.NumberType.NumberType, lra_base.declared.refusals.Place.Place}
use Rattle.lra_analysis_spec.specs.Crates.{lra_linear_forms.declared.test.Test.Test, lra_program.Arrays.place_among, lra_program.Value.◌>>=◌, lra_program.Value.Environment}
use Rattle.lra_domain.specs.{Abstraction.Abstraction, Laws.Laws, Moves.make, declared.Exactness.Exactness}
use Rattle.lra_analysis_spec.proofs.Crates.lra_program.AccessLaws.{HasOutside, get_left, get_right, expr_outside, cond_outside, arguments_outside, aimed_outside}
use Rattle.lra_analysis_spec.proofs.Crates.lra_program.TypeLaws.{bind_some}
use Rattle.lra_operations.specs.CheckedOperations.{HoldsWithFresh}
use Rattle.lra_analysis_spec.specs.Accesses.{outside, outside_of, IndexJudged, AccessJudged, EachJudged, CondInside, OpInside, InsideIsSound}
use Rattle.lra_analysis_spec.specs.Linear.{form_of, fitting, at_least_zero, less_by, comparison_test, TestHolds}
use Rattle.lra_analysis_spec.specs.{Analysis.IsUnreachable, Judging.Declares, MovesOf.test_action, Operations.lossy_operations}
use Rattle.lra_analysis_spec.proofs.FormLemmas.{forms_are_right, from_form, passes_same, opposite_value, less_by_value}
use Rattle.lra_analysis_spec.proofs.{Covers.Has, FitsSound.left_behind, Keeps.moves_keep, Keeps.changes_keep}

-- numbers ----------------------------------------------------------------------------------------------------------------

not_under : (b : Bool) (n k : ℕ) → nat_lt k n ≡ b → (if b then Some k else None) ≡ None → pos 0 ≤ℤ (pos k -ℤ pos n)
not_under true n k e none = absurd cc
not_under false n k e none = let low = ltb-false k n e in omega (arith, ints, low)

-- an index that isn't one of the array's is below 0, or at least the length
beyond : (n : ℕ) (z : ℤ) → place_among n z ≡ None → (pos 0 ≤ℤ ((pos 0 -ℤ z) -ℤ pos 1)) ⊎ (pos 0 ≤ℤ (z -ℤ pos n))
beyond n (pos k) e = inr (not_under (nat_lt k n) n k refl e)
beyond n (negsuc k) e = inl (omega (arith, ints))

-- the test of a form that is at least 0 holds
test_holds : (o : Option Form) (t : Test) (store : List ℤ) (z : ℤ) → at_least_zero o ≡ Some t → ((f : Form) → o ≡ Some f → form_value f store ≡ z) →
    pos 0 ≤ℤ z → TestHolds t store
test_holds o t store z is value low = let (f, of, same) = from_form o t is in (passes_same f t store z same (value f of)).0 low

-- one of both tests holds if the index is outside
one_holds : (e : Form) (n : ℕ) (tests : Test × Test) (store : List ℤ) → outside e n ≡ Some tests → place_among n (form_value e store) ≡ None →
    TestHolds tests.0 store ⊎ TestHolds tests.1 store
one_holds e n tests store is none =
    let (under, one, rest) = bind_some (comparison_test below e) (λ u. at_least_zero (less_by n e) >>= λ o. Some (u, o)) tests is in
    let (over, two, last) = bind_some (at_least_zero (less_by n e)) (λ o. Some (under, o)) tests rest in
    let both : (under, over) ≡ tests = same_Some (under, over) tests last in
    subst (λ (ts : Test × Test). TestHolds ts.0 store ⊎ TestHolds ts.1 store) both (elim (beyond n (form_value e store) none) [
      | inl low ↦ inl (test_holds (fitting (opposite_form e)) under store _ one (λ f of. opposite_value e f store of) low)
      | inr high ↦ inr (test_holds (less_by n e) over store _ two (λ f of. less_by_value n e f store of) high)
    ])

-- lists ------------------------------------------------------------------------------------------------------------------

both_long : {A B : Type 0} (xs ys : List A) (us vs : List B) → length xs ≡ length us → length ys ≡ length vs → length (xs ++ ys) ≡ length (us ++ vs)
both_long xs ys us vs e f = length-append xs ys ∙ ap (λ (k : ℕ). k + length ys) e ∙ ap (λ (k : ℕ). length us + k) f ∙ sym (length-append us vs)

told_left : {A : Type 0} (xs ys zs : List A) (x : A) (n : ℕ) → zs ≡ xs ++ ys → n < length xs → slice_get zs n ≡ Some x → slice_get xs n ≡ Some x
told_left {A} xs ys zs x n is inner told =
    let here = slice_get-get_or xs n x inner in
    here ∙ sym (get_left xs ys n (get_or xs n x) here) ∙ ap (λ (l : List A). slice_get l n) (sym is) ∙ told

told_right : {A : Type 0} (xs ys zs : List A) (x : A) (k n : ℕ) → zs ≡ xs ++ ys → n ≡ length xs + k → slice_get zs n ≡ Some x → slice_get ys k ≡ Some x
told_right {A} xs ys zs x k n is behind told =
    sym (get_right xs ys k) ∙ ap (slice_get (xs ++ ys)) (sym behind) ∙ ap (λ (l : List A). slice_get l n) (sym is) ∙ told

-- what is reported about accesses; the n-th is reported to be inside
abbrev Told : Type 0
Told = List (Place × Bool)

abbrev SaysInside : Told → ℕ → Type 0
SaysInside js n = (place : Place) × (slice_get js n ≡ Some (place, true))

-- as many answers as accesses
module _ {V H : Type 0} (m : Abstraction V H) (base : ℕ) where
  each_long : (v : V) (xs : List Element) (js : Told) (e : Exactness) → EachJudged m (lossy_operations m) v base xs js e → length js ≡ length xs
  each_long v [] js e (none, exact) = ap length none
  each_long v (x ∷ xs) js e (b, cs, c, d, first, later, is, flags) = ap length is ∙ ap suc (each_long v xs cs d later)

  cond_long : (c : Cond) (v : V) (js : Told) (e : Exactness) → CondInside m (lossy_operations m) base c v js e → length js ≡ length (cond_accesses c)
  cond_long (compare op a b) v js e judged = each_long v (expr_accesses a ++ expr_accesses b) js e judged
  cond_long (nonzero a) v js e judged = each_long v (expr_accesses a) js e judged
  cond_long (opposite c) v js e judged = cond_long c v js e judged
  cond_long (both_of c d) v js e (xs, ys, w, f, g, h, one, leaves, two, is, flags) =
      ap length is ∙ both_long xs ys (cond_accesses c) (cond_accesses d) (cond_long c v xs f one) (cond_long d w ys h two)
  cond_long (either_of c d) v js e (xs, ys, w, f, g, h, one, leaves, two, is, flags) =
      ap length is ∙ both_long xs ys (cond_accesses c) (cond_accesses d) (cond_long c v xs f one) (cond_long d w ys h two)

module _ {V H : Type 0} (m : Abstraction V H) (laws : Laws m) (s : Environment) where
  module _ (v : V) (held : Has m v s.store) where
    no_parts : (w : V) → Has m w s.store → IsUnreachable m w → ⊥
    no_parts w has none = laws.partless w has.0 none s.store has.1

    -- a test that holds leaves the store
    passed : (t : Test) (c : Exactness) (w : V) → (lossy_operations m).changed (test_action t) v c w → TestHolds t s.store → Has m w s.store
    passed t c w made holds = moves_keep V H m laws (make (test_action t)) v c w made s.store s.store held (holds, refl)

    index_inside : (e : Option Form) (n : ℕ) (o : Option (Test × Test)) (b : Bool) (x : Exactness) → outside_of e n ≡ o →
        IndexJudged m (lossy_operations m) v o b x → b ≡ true → ((f : Form) → e ≡ Some f → place_among n (form_value f s.store) ≡ None) → ⊥
    index_inside e n None b x is (answer, exact) so out = elim (answer.0 so) [ inl none ↦ no_parts v held none | inr never ↦ never ]
    index_inside e n (Some tests) b x is (under, over, c, d, one, two, answer, flags) so out =
        let (f, of, to) = bind_some e (λ g. outside g n) tests is in
        elim (answer.0 so) [
          | inl none ↦ no_parts v held none
          | inr (low, high) ↦ elim (one_holds f n tests s.store to (out f of)) [
            | inl holds ↦ no_parts under (passed tests.0 c under one holds) low
            | inr holds ↦ no_parts over (passed tests.1 d over two holds) high
          ]
        ]

    access_inside : (x : Element) (b : Bool) (e : Exactness) → AccessJudged m (lossy_operations m) v s.base x b e → b ≡ true → IsOutside s x → ⊥
    access_inside x b e judged so (draws, r, ran, out) =
        index_inside (form_of (m.dims v) s.base x.index) x.array.length _ b e refl judged so
        (λ f is. ap (place_among x.array.length) (forms_are_right s x.index f draws r.1 r.0
        (subst (λ (n : ℕ). form_of n s.base x.index ≡ Some f) (sym (laws.sized v s.store held.0 held.1)) is) ran) ∙ out)

    each_inside : (xs : List Element) (js : Told) (e : Exactness) (n : ℕ) → EachJudged m (lossy_operations m) v s.base xs js e → SaysInside js n →
        HasOutside xs s n → ⊥
    each_inside [] js e n judged told (x, at, out) = absurd cc
    each_inside (y ∷ xs) js e zero (b, cs, c, d, first, later, is, flags) (place, told) (x, at, out) =
        let same : y ≡ x = same_Some y x at in
        let pair : (y.place, b) ≡ (place, true) = same_Some (y.place, b) (place, true) (ap (λ (l : Told). slice_get l 0) (sym is) ∙ told) in
        access_inside y b c first (ap (λ (j : Place × Bool). j.1) pair) (subst (IsOutside s) (sym same) out)
    each_inside (y ∷ xs) js e (suc n) (b, cs, c, d, first, later, is, flags) (place, told) (x, at, out) =
        each_inside xs cs d n later (place, ap (λ (l : Told). slice_get l (suc n)) (sym is) ∙ told) (x, at, out)

  -- conditions -----------------------------------------------------------------------------------------------------------

  left_below : (c : Cond) (v : V) (xs : Told) (f : Exactness) (draws : List ℤ) (n : ℕ) → CondInside m (lossy_operations m) s.base c v xs f →
      CondOutOfBounds c s draws n → n < length xs
  left_below c v xs f draws n one strays =
      let (x, at, out) = cond_outside c s draws n strays in
      subst (λ (k : ℕ). n < k) (sym (cond_long m s.base c v xs f one)) (slice_get_within (cond_accesses c) n x at)

  cond_inside : (c : Cond) (v : V) (js : Told) (e : Exactness) (draws : List ℤ) (n : ℕ) → Has m v s.store → CondInside m (lossy_operations m) s.base c v js e →
      SaysInside js n → CondOutOfBounds c s draws n → ⊥
  cond_inside (compare op a b) v js e draws n held judged told strays =
      each_inside v held (expr_accesses a ++ expr_accesses b) js e n judged told (cond_outside (compare op a b) s draws n strays)
  cond_inside (nonzero a) v js e draws n held judged told strays =
      each_inside v held (expr_accesses a) js e n judged told (expr_outside a s draws n strays)
  cond_inside (opposite c) v js e draws n held judged told strays = cond_inside c v js e draws n held judged told strays
  cond_inside (both_of c d) v js e draws n held (xs, ys, w, f, g, h, one, leaves, two, is, flags) told (inl strays) =
      cond_inside c v xs f draws n held one (told.0, told_left xs ys js (told.0, true) n is (left_below c v xs f draws n one strays) told.1) strays
  cond_inside (both_of c d) v js e draws n held (xs, ys, w, f, g, h, one, leaves, two, is, flags) told (inr (k, behind, left, ran, strays)) =
      cond_inside d w ys h left k (left_behind m laws s c true v w g draws left held leaves ran) two
      (told.0, told_right xs ys js (told.0, true) k n is (behind ∙ ap (λ (i : ℕ). i + k) (sym (cond_long m s.base c v xs f one))) told.1) strays
  cond_inside (either_of c d) v js e draws n held (xs, ys, w, f, g, h, one, leaves, two, is, flags) told (inl strays) =
      cond_inside c v xs f draws n held one (told.0, told_left xs ys js (told.0, true) n is (left_below c v xs f draws n one strays) told.1) strays
  cond_inside (either_of c d) v js e draws n held (xs, ys, w, f, g, h, one, leaves, two, is, flags) told (inr (k, behind, left, ran, strays)) =
      cond_inside d w ys h left k (left_behind m laws s c false v w g draws left held leaves ran) two
      (told.0, told_right xs ys js (told.0, true) k n is (behind ∙ ap (λ (i : ℕ). i + k) (sym (cond_long m s.base c v xs f one))) told.1) strays

-- operations -------------------------------------------------------------------------------------------------------------

module _ {V H : Type 0} (m : Abstraction V H) (laws : Laws m) where
  op_inside : (op : Op) (v : V) (js : Told) (e : Exactness) (s : State) (n : ℕ) → Has m v s.store → OpInside m (lossy_operations m) op v js e →
      SaysInside js n → OpOutOfBounds op s n → ⊥
  op_inside (append t) v js e s n held judged told strays = strays
  op_inside (fill a) v js e s n held judged told strays = strays
  op_inside (store_value base x a) v js e s n held judged told strays =
      each_inside m laws (environment_at base s) v held (expr_accesses a) js e n judged told (expr_outside a (environment_at base s) s.draws n strays)
  op_inside (store_element base x a) v js e s n held judged told strays =
      each_inside m laws (environment_at base s) v held (aim_accesses x ++ expr_accesses a) js e n judged told
      (aimed_outside base x (expr_accesses a) (λ t k. ExprOutOfBounds a (environment_at base t) t.draws k)
      (λ t k. expr_outside a (environment_at base t) t.draws k) s n strays)
  op_inside (havoc x) v js e s n held judged told strays = strays
  op_inside (push base given) v js e s n held judged told strays =
      each_inside m laws (environment_at base s) v held (arguments_accesses given) js e n judged told
      (arguments_outside given (environment_at base s) s.draws n strays)
  op_inside (push_for base x given) v js e s n held judged told strays =
      each_inside m laws (environment_at base s) v held (aim_accesses x ++ arguments_accesses given) js e n judged told
      (aimed_outside base x (arguments_accesses given) (λ t k. ArgumentsOutOfBounds given (environment_at base t) t.draws k)
      (λ t k. arguments_outside given (environment_at base t) t.draws k) s n strays)
  op_inside (truncate_to k) v js e s n held judged told strays = strays
  op_inside (test base c wanted) v js e s n held judged told strays =
      cond_inside m laws (environment_at base s) c v js e s.draws n held judged told strays

  asked_inside : (fresh : Option NumberType) (op : Op) (v w : V) (js : Told) (c d : Exactness) (s : State) (n : ℕ) → Has m v s.store →
      Declares (lossy_operations m) fresh v c w → OpInside m (lossy_operations m) op w js d → SaysInside js n →
      HoldsWithFresh (λ o t. OpOutOfBounds o t n) fresh op s → ⊥
  asked_inside None op v w js c d s n held (same, exact) judged told strays =
      op_inside op w js d s n (subst (λ (x : V). Has m x s.store) (sym same) held) judged told strays
  asked_inside (Some t) op v w js c d s n held made judged told (k, ran, strays) =
      op_inside op w js d k n (changes_keep V H m laws (append t) v c w made s k held ran) judged told strays

  pub inside_never_stray : InsideIsSound m
  inside_never_stray values a js e v s n place at formed has (u, w, c, d, found, made, judged, flags) told strays =
      let same : v ≡ u = same_Some v u (sym at ∙ found) in
      let held : Has m u s.store = subst (λ (x : V). Has m x s.store) same (formed, has) in
      asked_inside a.fresh a.op u w js c d s n held made judged (place, told) strays
