-- What is written into a table of verdicts, and what the whole table reports.
use Rattle.std.proofs.Common.{◌≡◌, ◌≢◌, ◌∙◌, ℕ, zero, suc, ◌+◌, ◌<◌, ◌≤◌, List, [], ◌∷◌, ◌++◌, length, map, take, get_or, Bool, true, false, Option, Some, None, refl, sym, ap, subst, inl, inr, arith}
use Rattle.std.proofs.lemmas.List.{length-replicate, length-set, map-append, map_more, take_all}
use Rattle.std.proofs.lemmas.List.Elements.{Contains-append_left, Contains-append_right, Contains-append_cases, Contains-get_or, filter-append}
use Rattle.std.proofs.{lemmas.Bool.cases_eq, lemmas.Option.none-some, lemmas.Option.same_Some}
use Rattle.std.specs.Prelude.{◌⊎◌, slice_get, slice_set, replicate, Contains, if◌then◌else◌}
use Rattle.lra_overflow_checks.proofs.Crates.lra_linear_spec.Membership.{contains_none, contains_head, contains_tail, contains_cases, filter_has, map_has}
use Rattle.lra_overflow_checks.specs.Crates.lra_analysis_spec.Judging.{AnswerAtPoint, Finding, Finds, answer_of, first_flagged, IsFoundOn}
use Rattle.lra_overflow_checks.specs.Crates.lra_operations.CheckedOperations.{OpAtPoint, ops_where}
use Rattle.lra_overflow_checks.specs.Crates.{lra_analysis_spec.Operations.Operations, lra_analysis_spec.Pass.noted, lra_domain.declared.Exactness.Exactness, lra_operations.Tree.Node}
use Rattle.lra_program.specs.Step.{Op}
use Rattle.lra_operations_list.specs.{TreeOperations.done_in, TreeOperations.op_at_point_view, declared.tree_operations.OpRefAtPoint.OpRefAtPoint}
use Rattle.lra_operations_list.proofs.Filtered.{asking_filtered}
use Rattle.lra_overflow_checks.specs.{Judged.AreBelow, Judged.Fills, Judged.Holds, Judged.IsAnswered, Judged.asked_by, Judged.finding_of, Judged.findings_from, declared.questions.Verdict.Verdict}

-- places -----------------------------------------------------------------------------------------------------------------

module _ {A : Type 0} where
  replicate_push : (n : ℕ) (x : A) → replicate n x ++ x ∷ [] ≡ replicate (suc n) x
  replicate_push zero x = refl
  replicate_push (suc n) x = ap (λ (xs : List A). x ∷ xs) (replicate_push n x)

  -- one place more that holds the same
  pub one_more_place : (n : ℕ) (x : A) (t u : List A) → t ≡ replicate n x → u ≡ t ++ x ∷ [] → u ≡ replicate (n + 1) x
  one_more_place n x t u all more =
      let one : suc n ≡ n + 1 = omega arith in
      more ∙ ap (λ (xs : List A). xs ++ x ∷ []) all ∙ replicate_push n x ∙ ap (λ (k : ℕ). replicate k x) one

  none_held : (n q : ℕ) (x : A) → slice_get (replicate n (let o : Option A = None in o)) q ≡ Some (Some x) → ⊥
  none_held zero q x e = none-some (Some x) e
  none_held (suc n) zero x e = none-some x (same_Some None (Some x) e)
  none_held (suc n) (suc q) x e = none_held n q x e

  here_set : (xs : List A) (k : ℕ) (x : A) → k < length xs → slice_get (slice_set xs k x) k ≡ Some x
  here_set [] k x h = absurd (omega (arith, h))
  here_set (y ∷ ys) zero x h = refl
  here_set (y ∷ ys) (suc k) x h = here_set ys k x (omega (arith, h))

  elsewhere_set : (xs : List A) (k q : ℕ) (x : A) → k ≢ q → slice_get (slice_set xs k x) q ≡ slice_get xs q
  elsewhere_set [] k q x n = refl
  elsewhere_set (y ∷ ys) zero zero x n = absurd (n refl)
  elsewhere_set (y ∷ ys) zero (suc q) x n = refl
  elsewhere_set (y ∷ ys) (suc k) zero x n = refl
  elsewhere_set (y ∷ ys) (suc k) (suc q) x n = elsewhere_set ys k q x (λ e. n (ap suc e))

-- what is written --------------------------------------------------------------------------------------------------------

module _ {V H A : Type 0} (ops : Operations V H) (Told : Op → V → A → Exactness → Type 0) (values : List V) where
  pub none_fills : (t : List (Option (Verdict A))) → Fills ops Told values [] t t
  none_fills t = record {
    long = refl;
    is_asked = λ q j h. inl h;
    has_asked = λ a h. absurd (contains_none a h);
    keeps = λ q j h. (j, h);
  }

  pub one_fills : (a : OpAtPoint) (j : Verdict A) (t : List (Option (Verdict A))) → a.point < length t → AnswerAtPoint ops Told values a j.answer j.exactness
      → Fills ops Told values (a ∷ []) t (slice_set t a.point (Some j))
  one_fills a j t inside judged = record {
    long = length-set t a.point (Some j);
    is_asked = there;
    has_asked = λ b h. elim (contains_cases a b [] h) [
      | inl e ↦ (j, subst (λ (x : OpAtPoint). Holds (slice_set t a.point (Some j)) x.point j) e here)
      | inr none ↦ absurd (contains_none b none)
    ];
    keeps = λ q k h. elim (cases_eq a.point q) [
      | inl same ↦ (j, subst (λ (p : ℕ). Holds (slice_set t a.point (Some j)) p j) same here)
      | inr other ↦ (k, elsewhere_set t a.point q (Some j) other ∙ h)
    ];
  }
    where
      here : Holds (slice_set t a.point (Some j)) a.point j
      here = here_set t a.point (Some j) inside

      there : (q : ℕ) (k : Verdict A) → Holds (slice_set t a.point (Some j)) q k → Holds t q k ⊎ IsFoundOn ops Told (a ∷ []) values (finding_of q k)
      there q k h = elim (cases_eq a.point q) [
        | inl same ↦ (let at : Holds (slice_set t a.point (Some j)) a.point k = subst (λ (p : ℕ). Holds (slice_set t a.point (Some j)) p k) (sym same) h in
            let is : j ≡ k = same_Some j k (same_Some (Some j) (Some k) (sym here ∙ at)) in
            inr (a, contains_head a [], same, subst (λ (x : Verdict A). AnswerAtPoint ops Told values a x.answer x.exactness) is judged))
        | inr other ↦ inl (sym (elsewhere_set t a.point q (Some j) other) ∙ h)
      ]

  pub then_fills : (xs ys : List OpAtPoint) (t u w : List (Option (Verdict A))) → Fills ops Told values xs t u → Fills ops Told values ys u w → Fills ops Told values (xs ++ ys) t w
  then_fills xs ys t u w first second = record {
    long = second.long ∙ first.long;
    is_asked = λ q j h. elim (second.is_asked q j h) [
      | inl before ↦ elim (first.is_asked q j before) [
        | inl old ↦ inl old
        | inr on ↦ inr (on.0, Contains-append_left xs ys on.0 on.1, on.2, on.3)
      ]
      | inr on ↦ inr (on.0, Contains-append_right xs ys on.0 on.1, on.2, on.3)
    ];
    has_asked = λ a h. elim (Contains-append_cases xs ys a h) [
      | inl i ↦ (let k = first.has_asked a i in second.keeps a.point k.0 k.1)
      | inr i ↦ second.has_asked a i
    ];
    keeps = λ q j h. (let k = first.keeps q j h in second.keeps q k.0 k.1);
  }

  -- after those of which it is asked among what is done before
  module _ (asks : Op → Bool) (xs : List OpAtPoint) (a : OpAtPoint) where
    abbrev asked_here : List OpAtPoint
    asked_here = asked_by asks (a ∷ [])

    apart : asked_by asks (xs ++ a ∷ []) ≡ asked_by asks xs ++ asked_here
    apart = filter-append (λ (b : OpAtPoint). asks b.op) xs (a ∷ [])

    here_asked : (b : Bool) → asks a.op ≡ b → asked_here ≡ (if b then a ∷ [] else [])
    here_asked b is = ap (λ (c : Bool). if c then a ∷ [] else []) is

    fills_behind : (here : List OpAtPoint) (old t u : List (Option (Verdict A))) → asked_here ≡ here → Fills ops Told values (asked_by asks xs) old t
        → Fills ops Told values here t u → Fills ops Told values (asked_by asks (xs ++ a ∷ [])) old u
    fills_behind here old t u is before one = subst (λ (ys : List OpAtPoint). Fills ops Told values ys old u)
        (sym (apart ∙ ap (λ (ys : List OpAtPoint). asked_by asks xs ++ ys) is)) (then_fills (asked_by asks xs) here old t u before one)

    pub unasked_fills : (old t : List (Option (Verdict A))) → asks a.op ≡ false → Fills ops Told values (asked_by asks xs) old t
        → Fills ops Told values (asked_by asks (xs ++ a ∷ [])) old t
    unasked_fills old t is before = fills_behind [] old t t (here_asked false is) before (none_fills t)

    pub asked_fills : (old t u : List (Option (Verdict A))) (v : V) (j : Verdict A) → asks a.op ≡ true → Fills ops Told values (asked_by asks xs) old t
        → slice_get values a.point ≡ Some v → IsAnswered ops Told a v j.answer j.exactness → a.point < length t → u ≡ slice_set t a.point (Some j)
        → Fills ops Told values (asked_by asks (xs ++ a ∷ [])) old u
    asked_fills old t u v j is before there (w, c, d, declared, told, worst) inside written =
        fills_behind (a ∷ []) old t u (here_asked true is) before
        (subst (Fills ops Told values (a ∷ []) t) (sym written) (one_fills a j t inside (v, w, c, d, there, declared, told, worst)))

-- each of which it is asked has a value
pub asked_inside : (asks : Op → Bool) (n : ℕ) (xs : List OpAtPoint) (a : OpAtPoint) → Contains xs a → asks a.op ≡ true → AreBelow n (asked_by asks xs) →
    a.point < n
asked_inside asks n xs a there is below = below a (filter_has (λ (b : OpAtPoint). asks b.op) xs a there is)

-- what a table says ---------------------------------------------------------------------------------------------------

module _ {A : Type 0} where
  -- one place more
  some_told : (n : ℕ) (t : List (Option (Verdict A))) (j : Verdict A)
      → findings_from n (t ++ Some j ∷ []) ≡ findings_from n t ++ finding_of (n + length t) j ∷ []
  some_told n [] j =
      let at : n ≡ n + 0 = omega arith in
      ap (λ (p : ℕ). finding_of p j ∷ []) at
  some_told n (None ∷ t) j =
      let at : suc n + length t ≡ n + suc (length t) = omega arith in
      some_told (suc n) t j ∙ ap (λ (p : ℕ). findings_from (suc n) t ++ finding_of p j ∷ []) at
  some_told n (Some i ∷ t) j =
      let at : suc n + length t ≡ n + suc (length t) = omega arith in
      ap (λ (js : List (Finding A)). finding_of n i ∷ js)
      (some_told (suc n) t j ∙ ap (λ (p : ℕ). findings_from (suc n) t ++ finding_of p j ∷ []) at)

  none_told : (n : ℕ) (t : List (Option (Verdict A))) → findings_from n (t ++ None ∷ []) ≡ findings_from n t
  none_told n [] = refl
  none_told n (None ∷ t) = none_told (suc n) t
  none_told n (Some i ∷ t) = ap (λ (js : List (Finding A)). finding_of n i ∷ js) (none_told (suc n) t)

  flagged_more : (f : Option ℕ) (js : List (Finding A)) (j : Finding A) → first_flagged f (js ++ j ∷ []) ≡ noted j.point j.exactness (first_flagged f js)
  flagged_more f [] j = refl
  flagged_more f (i ∷ js) j = flagged_more (noted i.point i.exactness f) js j

  module _ (t : List (Option (Verdict A))) (o : Option (Verdict A)) (k : ℕ) where
    one_told : (j : Verdict A) → o ≡ Some j → k ≡ length t → findings_from 0 (t ++ o ∷ []) ≡ findings_from 0 t ++ finding_of k j ∷ []
    one_told j is count =
        let at : 0 + length t ≡ k = omega (arith, count) in
        ap (λ (p : Option (Verdict A)). findings_from 0 (t ++ p ∷ [])) is ∙ some_told 0 t j
        ∙ ap (λ (p : ℕ). findings_from 0 t ++ finding_of p j ∷ []) at

    nothing_told : o ≡ None → findings_from 0 (t ++ o ∷ []) ≡ findings_from 0 t
    nothing_told is = ap (λ (p : Option (Verdict A)). findings_from 0 (t ++ p ∷ [])) is ∙ none_told 0 t

    pub answers_some : (xs ys : List (ℕ × A)) (j : Verdict A) → o ≡ Some j → k ≡ length t → xs ≡ map answer_of (findings_from 0 t)
        → ys ≡ xs ++ (k, j.answer) ∷ [] → ys ≡ map answer_of (findings_from 0 (t ++ o ∷ []))
    answers_some xs ys j is count so_far more =
        more ∙ ap (λ (zs : List (ℕ × A)). zs ++ (k, j.answer) ∷ []) so_far ∙ sym (map-append answer_of (findings_from 0 t) (finding_of k j ∷ []))
        ∙ ap (map answer_of) (sym (one_told j is count))

    pub answers_none : (xs : List (ℕ × A)) → o ≡ None → xs ≡ map answer_of (findings_from 0 t) → xs ≡ map answer_of (findings_from 0 (t ++ o ∷ []))
    answers_none xs is so_far = so_far ∙ ap (map answer_of) (sym (nothing_told is))

    pub flag_some : (f b : Option ℕ) (j : Verdict A) → o ≡ Some j → k ≡ length t → b ≡ first_flagged f (findings_from 0 t)
        → noted k j.exactness b ≡ first_flagged f (findings_from 0 (t ++ o ∷ []))
    flag_some f b j is count so_far =
        ap (noted k j.exactness) so_far ∙ sym (flagged_more f (findings_from 0 t) (finding_of k j)) ∙ ap (first_flagged f) (sym (one_told j is count))

    pub flag_none : (f b : Option ℕ) → o ≡ None → b ≡ first_flagged f (findings_from 0 t) → b ≡ first_flagged f (findings_from 0 (t ++ o ∷ []))
    flag_none f b is so_far = so_far ∙ ap (first_flagged f) (sym (nothing_told is))

-- the whole table --------------------------------------------------------------------------------------------------------

-- what is reported is held
told_held : {A : Type 0} (n : ℕ) (t : List (Option (Verdict A))) (j : Finding A) → Contains (findings_from n t) j
    → (k : ℕ) × (v : Verdict A) × Holds t k v × (finding_of (n + k) v ≡ j)
told_held n [] j h = absurd (contains_none j h)
told_held n (None ∷ t) j h =
    let (k, v, holds, is) = told_held (suc n) t j h in
    let at : n + suc k ≡ suc n + k = omega arith in
    (suc k, v, holds, ap (λ (p : ℕ). finding_of p v) at ∙ is)
told_held n (Some i ∷ t) j h = elim (contains_cases (finding_of n i) j (findings_from (suc n) t) h) [
  | inl is ↦ (let at : n + 0 ≡ n = omega arith in (0, i, refl, ap (λ (p : ℕ). finding_of p i) at ∙ is))
  | inr later ↦ (let (k, v, holds, is) = told_held (suc n) t j later in
      let at : n + suc k ≡ suc n + k = omega arith in
      (suc k, v, holds, ap (λ (p : ℕ). finding_of p v) at ∙ is))
]

-- what is held is reported
held_told : {A : Type 0} (n : ℕ) (t : List (Option (Verdict A))) (k : ℕ) (v : Verdict A) → Holds t k v → Contains (findings_from n t) (finding_of (n + k) v)
held_told n [] k v h = absurd (none-some (Some v) h)
held_told n (None ∷ t) zero v h = absurd (none-some v (same_Some None (Some v) h))
held_told n (None ∷ t) (suc k) v h =
    let at : suc n + k ≡ n + suc k = omega arith in
    subst (λ (p : ℕ). Contains (findings_from (suc n) t) (finding_of p v)) at (held_told (suc n) t k v h)
held_told n (Some i ∷ t) zero v h =
    let at : n ≡ n + 0 = omega arith in
    let is : finding_of n i ≡ finding_of (n + 0) v = ap (finding_of n) (same_Some i v (same_Some (Some i) (Some v) h))
    ∙ ap (λ (p : ℕ). finding_of p v) at in
    subst (Contains (finding_of n i ∷ findings_from (suc n) t)) is (contains_head (finding_of n i) (findings_from (suc n) t))
held_told n (Some i ∷ t) (suc k) v h =
    let at : suc n + k ≡ n + suc k = omega arith in
    contains_tail (finding_of n i) (finding_of (n + suc k) v) (findings_from (suc n) t)
    (subst (λ (p : ℕ). Contains (findings_from (suc n) t) (finding_of p v)) at (held_told (suc n) t k v h))

-- in the order of the points
at_least : {A : Type 0} (n : ℕ) (t : List (Option (Verdict A))) (i : ℕ) (j : Finding A) → slice_get (findings_from n t) i ≡ Some j → n ≤ j.point
at_least n [] i j e = absurd (none-some j e)
at_least n (None ∷ t) i j e = let later = at_least (suc n) t i j e in omega (arith, later)
at_least {A} n (Some v ∷ t) zero j e = let is : n ≡ j.point = ap (λ (k : Finding A). k.point) (same_Some (finding_of n v) j e) in omega (arith, is)
at_least n (Some v ∷ t) (suc i) j e = let later = at_least (suc n) t i j e in omega (arith, later)

ordered : {A : Type 0} (n : ℕ) (t : List (Option (Verdict A))) (i k : ℕ) (j l : Finding A) → i < k → slice_get (findings_from n t) i ≡ Some j
    → slice_get (findings_from n t) k ≡ Some l → j.point < l.point
ordered n [] i k j l less e d = absurd (none-some j e)
ordered n (None ∷ t) i k j l less e d = ordered (suc n) t i k j l less e d
ordered n (Some v ∷ t) i zero j l less e d = absurd (omega (arith, less))
ordered {A} n (Some v ∷ t) zero (suc k) j l less e d =
    let is : n ≡ j.point = ap (λ (x : Finding A). x.point) (same_Some (finding_of n v) j e) in
    let later = at_least (suc n) t k l d in omega (arith, is, later)
ordered n (Some v ∷ t) (suc i) (suc k) j l less e d = ordered (suc n) t i k j l (omega (arith, less)) e d

-- those of which it is asked among all that is done in a tree
pub same_asked : (asks : Op → Bool) (g : Node) (xs : List OpAtPoint) → xs ≡ done_in None g → asked_by asks xs ≡ ops_where asks None g
same_asked asks g xs is = ap (asked_by asks) is ∙ sym (asking_filtered asks None g)

pub below_asked : (asks : Op → Bool) (n : ℕ) (g : Node) (xs : List OpAtPoint) → xs ≡ done_in None g → AreBelow n (ops_where asks None g)
    → AreBelow n (asked_by asks xs)
below_asked asks n g xs is below = subst (AreBelow n) (sym (same_asked asks g xs is)) below

pub empty_long : {A : Type 0} (n : ℕ) (t : List (Option (Verdict A))) → t ≡ replicate n None → length t ≡ n
empty_long {A} n t is = ap length is ∙ length-replicate {A = Option (Verdict A)} n None

module _ {V H A : Type 0} (ops : Operations V H) (Told : Op → V → A → Exactness → Type 0) (values : List V) (asks : Op → Bool) (g : Node)
    (xs : List OpAtPoint) (n : ℕ) (none t : List (Option (Verdict A))) (all : xs ≡ done_in None g) (empty : none ≡ replicate n None)
    (fills : Fills ops Told values (asked_by asks xs) none t) where
  on_one : (k : ℕ) (v : Verdict A) → Holds t k v → IsFoundOn ops Told (asked_by asks xs) values (finding_of k v)
  on_one k v h = elim (fills.is_asked k v h) [
    | inl old ↦ absurd (none_held n k v (subst (λ (u : List (Option (Verdict A))). Holds u k v) empty old))
    | inr on ↦ on
  ]

  pub table_finds : (flagged behind : Option ℕ) (answers : List (ℕ × A)) → answers ≡ map answer_of (findings_from 0 t)
      → behind ≡ first_flagged flagged (findings_from 0 t) → Finds ops Told (ops_where asks None g) values flagged answers behind
  table_finds flagged behind answers told flags =
      let finds : Finds ops Told (asked_by asks xs) values flagged answers behind = record {
        found = findings_from 0 t;
        is_asked = λ j h. (let (k, v, holds, is) = told_held 0 t j h in
            let at : k ≡ 0 + k = omega arith in
            subst (IsFoundOn ops Told (asked_by asks xs) values) (ap (λ (p : ℕ). finding_of p v) at ∙ is) (on_one k v holds));
        has_asked = λ a h. (let (v, holds) = fills.has_asked a h in
            let at : 0 + a.point ≡ a.point = omega arith in
            (finding_of (0 + a.point) v, held_told 0 t a.point v holds, at));
        in_order = λ i k j l less e d. ordered 0 t i k j l less e d;
        told = told;
        flags = flags;
      } in
      subst (λ (ys : List OpAtPoint). Finds ops Told ys values flagged answers behind) (same_asked asks g xs all) finds

-- by places of the code's list ---------------------------------------------------------------------------------------------

module _ (asks : Op → Bool) (ds : List OpRefAtPoint) (i : ℕ) (x : OpRefAtPoint) (inside : i < length ds) (is : x ≡ get_or ds i x) where
  abbrev pub so_far : ℕ → List OpAtPoint
  so_far k = map op_at_point_view (take k ds)

  one_more : so_far (i + 1) ≡ so_far i ++ op_at_point_view x ∷ []
  one_more = map_more op_at_point_view ds i x inside ∙ ap (λ (y : OpRefAtPoint). so_far i ++ op_at_point_view y ∷ []) (sym is)

  there : Contains (map op_at_point_view ds) (op_at_point_view x)
  there = map_has op_at_point_view ds x (subst (Contains ds) (sym is) (Contains-get_or ds i x inside))

  pub point_inside : (n : ℕ) (b : Bool) → b ≡ asks (op_at_point_view x).op → b ≡ true → AreBelow n (asked_by asks (map op_at_point_view ds)) → x.point < n
  point_inside n b same asked below = asked_inside asks n (map op_at_point_view ds) (op_at_point_view x) there (sym same ∙ asked) below

  module _ {V H A : Type 0} (ops : Operations V H) (Told : Op → V → A → Exactness → Type 0) (values : List V) (old t : List (Option (Verdict A)))
      (before : Fills ops Told values (asked_by asks (so_far i)) old t) where
    pub unasked_more : (b : Bool) → b ≡ asks (op_at_point_view x).op → b ≡ false → Fills ops Told values (asked_by asks (so_far (i + 1))) old t
    unasked_more b same unasked = subst (λ (xs : List OpAtPoint). Fills ops Told values (asked_by asks xs) old t) (sym one_more)
        (unasked_fills ops Told values asks (so_far i) (op_at_point_view x) old t (sym same ∙ unasked) before)

    pub asked_more : (u : List (Option (Verdict A))) (v : V) (j : Verdict A) (b : Bool) → b ≡ asks (op_at_point_view x).op → b ≡ true
        → slice_get values x.point ≡ Some v → IsAnswered ops Told (op_at_point_view x) v j.answer j.exactness → x.point < length t
        → u ≡ slice_set t x.point (Some j) → Fills ops Told values (asked_by asks (so_far (i + 1))) old u
    asked_more u v j b same asked here answered below written =
        subst (λ (xs : List OpAtPoint). Fills ops Told values (asked_by asks xs) old u) (sym one_more)
        (asked_fills ops Told values asks (so_far i) (op_at_point_view x) old t u v j (sym same ∙ asked) before here answered below written)

pub whole_filled : {V H A : Type 0} (ops : Operations V H) (Told : Op → V → A → Exactness → Type 0) (values : List V) (asks : Op → Bool)
    (ds : List OpRefAtPoint) (i : ℕ) (old t : List (Option (Verdict A))) → length ds ≤ i
    → Fills ops Told values (asked_by asks (map op_at_point_view (take i ds))) old t → Fills ops Told values (asked_by asks (map op_at_point_view ds)) old t
whole_filled ops Told values asks ds i old t all filled =
    subst (λ (xs : List OpRefAtPoint). Fills ops Told values (asked_by asks (map op_at_point_view xs)) old t) (take_all i ds all) filled
