-- Disjuncts of moves by their numbers, and what is still to be written of them.
use Rattle.std.proofs.Common.{◌≡◌, ◌≤◌, ◌<◌, ℕ, zero, suc, ◌+◌, ◌*◌, ◌-◌, ◌/◌, ◌%◌, Bool, true, false, List, [], ◌∷◌, ◌++◌, length, map, take, refl, sym, ap, ◌∙◌, subst, Option, Some, None, arith}
use Rattle.std.proofs.Common.{append_assoc, append-nil, length-append, inl, inr}
use Rattle.std.proofs.Math.Nat.{mod-eq_of_lt, mod-eq-sub-mod, mod-lt, div-lt_iff_lt-mul, div-eq_of_lt, div-eq-sub-div, mul-zero, mul-suc, mul_comm, one-le-mul, le-mul_of_pos_right}
use Rattle.std.proofs.{lemmas.Bool.cases_lt, lemmas.List.length-map, lemmas.List.Sums.sum_by-append, lemmas.Option.same_Some}
use Rattle.std.specs.Prelude.{OnOk, slice_get, nat_lt, if◌then◌else◌}
use Rattle.std.specs.Prelude as outcome
use Rattle.lra_path_disjuncts.specs.Crates.{lra_domain.Actions.Action, lra_domain.Moves.Moves, lra_domain.Moves.stay, lra_domain.Moves.make, lra_domain.Moves.first_then, lra_domain.Moves.join_of}
use Rattle.lra_path_segments.specs.Segments.{each_then}
use Rattle.lra_path_disjuncts.specs.TableDisjuncts.{disjunct_pending, all_pending, one_of, moves_size, pending_size, pending_disjuncts_size}
use Rattle.lra_path_disjuncts.specs.Tables.{capped, count_of, moves_at, disjunct_at}
use Rattle.lra_path_disjuncts.specs.{Disjuncts.disjuncts, declared.tables.MovesEntry.MovesEntry, declared.tables.PendingDisjunct.PendingDisjunct}
use Rattle.lra_path_disjuncts.proofs.TableSteps.{get_left, capped_few, capped_some, length_each}

-- moves have disjuncts ------------------------------------------------------------------------------------------------

pub sides_some : (p : Moves) → 1 ≤ count_of p
sides_some stay = omega arith
sides_some (make step) = omega arith
sides_some (first_then a b) = subst (λ n. 1 ≤ n) (sym (length_each (disjuncts a) (disjuncts b))) (one-le-mul (sides_some a) (sides_some b))
sides_some (join_of a b) =
    let one = sides_some a in
    let all = length-append (disjuncts a) (disjuncts b) in
    omega (arith, one, all)

pub divides : (p : Moves) (n : ℕ) → n ≡ capped (count_of p) → 0 < n
divides p n is = subst (λ x. 1 ≤ x) (sym is) (capped_some (count_of p) (sides_some p))

size_some : (p : Moves) → 1 ≤ moves_size p
size_some stay = omega arith
size_some (make step) = omega arith
size_some (first_then a b) = omega arith
size_some (join_of a b) = omega arith

-- steps ------------------------------------------------------------------------------------------------------------------

module _ (es : List MovesEntry) where
  pub pending_append : (xs ys : List PendingDisjunct) → all_pending es (xs ++ ys) ≡ all_pending es ys ++ all_pending es xs
  pending_append [] ys = sym (append-nil (all_pending es ys))
  pending_append (x ∷ xs) ys =
      ap (λ w. w ++ disjunct_pending es x) (pending_append xs ys) ∙ append_assoc (all_pending es ys) (all_pending es xs) (disjunct_pending es
      x)

  pub left_append : (xs ys : List PendingDisjunct) → pending_disjuncts_size es (xs ++ ys) ≡ pending_disjuncts_size es xs + pending_disjuncts_size es ys
  left_append xs ys = sum_by-append (pending_size es) xs ys

  module _ (d : PendingDisjunct) (done : List Action) (left : List PendingDisjunct) where
    pub stays : moves_at es d.place ≡ stay → done ++ all_pending es left ≡ done ++ (disjunct_pending es d ++ all_pending es left)
    stays is = ap (λ p. done ++ (disjunct_at p d.number ++ all_pending es left)) (sym is)

    pub falls_by : pending_disjuncts_size es left < pending_disjuncts_size es left + pending_size es d
    falls_by = let some = size_some (moves_at es d.place) in omega (arith, some)

    pub makes : {T E : Type 0} (r : outcome.Result T E) (a : Action) (new : List Action) → moves_at es d.place ≡ make a → OnOk r (new ≡ done ++ a ∷ [])
        → OnOk r (new ++ all_pending es left ≡ done ++ (disjunct_pending es d ++ all_pending es left))
    makes (outcome.Ok v) a new is e =
        ap (λ w. w ++ all_pending es left) e ∙ append_assoc done (a ∷ []) (all_pending es left)
        ∙ ap (λ p. done ++ (disjunct_at p d.number ++ all_pending es left)) (sym is)
    makes (outcome.Err x) a new is e = tt

    pub falls_on : {T E : Type 0} (r : outcome.Result T E) → OnOk r (pending_disjuncts_size es left < pending_disjuncts_size es left + pending_size es d)
    falls_on (outcome.Ok v) = falls_by
    falls_on (outcome.Err x) = tt

    module _ (a b : ℕ) where
      pub splits : {T E : Type 0} (r : outcome.Result T E) (n : ℕ) (new : List PendingDisjunct) →
          moves_at es d.place ≡ first_then (moves_at es a) (moves_at es b)
          → n ≡ capped (count_of (moves_at es a))
          → OnOk r (new ≡ left ++ record { place = b; number = d.number / n } ∷ record { place = a; number = d.number % n } ∷ [])
          → OnOk r (done ++ all_pending es new ≡ done ++ (disjunct_pending es d ++ all_pending es left))
      splits (outcome.Ok v) n new is count e =
          ap (λ ds. done ++ all_pending es ds) e
          ∙ ap (λ w. done ++ w) (pending_append left (record { place = b; number = d.number / n } ∷ record { place = a; number = d.number % n } ∷ []))
          ∙ ap (λ m. done ++ ((disjunct_at (moves_at es a) (d.number % m) ++ disjunct_at (moves_at es b) (d.number / m)) ++ all_pending es left)) count
          ∙ ap (λ p. done ++ (disjunct_at p d.number ++ all_pending es left)) (sym is)
      splits (outcome.Err x) n new is count e = tt

      pub splits_fall : {T E : Type 0} (r : outcome.Result T E) (m n : ℕ) (new : List PendingDisjunct) → moves_at es d.place ≡
          first_then (moves_at es a) (moves_at es b)
          → OnOk r (new ≡ left ++ record { place = b; number = m } ∷ record { place = a; number = n } ∷ [])
          → OnOk r (pending_disjuncts_size es new < pending_disjuncts_size es left + pending_size es d)
      splits_fall (outcome.Ok v) m n new is e =
          let whole = ap moves_size is in
          let all = ap (pending_disjuncts_size es) e ∙ left_append left (record { place = b; number = m } ∷ record { place = a; number = n } ∷ []) in
          omega (arith, whole, all)
      splits_fall (outcome.Err x) m n new is e = tt

      one_side : (t : Bool) (m n k : ℕ) → disjunct_pending es (if t then (record { place = a; number = m }) else (record { place = b; number = k }))
          ≡ if t then disjunct_at (moves_at es a) m else disjunct_at (moves_at es b) k
      one_side true m n k = refl
      one_side false m n k = refl

      one_size : (t : Bool) (m k : ℕ) → pending_size es (if t then (record { place = a; number = m }) else (record { place = b; number = k }))
          ≤ moves_size (moves_at es a) + moves_size (moves_at es b)
      one_size true m k = omega arith
      one_size false m k = omega arith

      pub chooses : {T E : Type 0} (r : outcome.Result T E) (n : ℕ) (new : List PendingDisjunct) → moves_at es d.place ≡ join_of (moves_at es a) (moves_at es b)
          → n ≡ capped (count_of (moves_at es a)) → OnOk r (new ≡ left ++ one_of n a b d.number ∷ [])
          → OnOk r (done ++ all_pending es new ≡ done ++ (disjunct_pending es d ++ all_pending es left))
      chooses (outcome.Ok v) n new is count e =
          ap (λ ds. done ++ all_pending es ds) e ∙ ap (λ w. done ++ w) (pending_append left (one_of n a b d.number ∷ []))
          ∙ ap (λ w. done ++ (w ++ all_pending es left)) (one_side (nat_lt d.number n) d.number n (d.number - n))
          ∙ ap (λ m. done ++ ((if nat_lt d.number m then disjunct_at (moves_at es a) d.number
          else disjunct_at (moves_at es b) (d.number - m)) ++ all_pending es left)) count
          ∙ ap (λ p. done ++ (disjunct_at p d.number ++ all_pending es left)) (sym is)
      chooses (outcome.Err x) n new is count e = tt

      pub chooses_fall : {T E : Type 0} (r : outcome.Result T E) (n : ℕ) (new : List PendingDisjunct) → moves_at es d.place ≡
          join_of (moves_at es a) (moves_at es b)
          → OnOk r (new ≡ left ++ one_of n a b d.number ∷ []) → OnOk r (pending_disjuncts_size es new < pending_disjuncts_size es left + pending_size es d)
      chooses_fall (outcome.Ok v) n new is e =
          let whole = ap moves_size is in
          let all = ap (pending_disjuncts_size es) e ∙ left_append left (one_of n a b d.number ∷ []) in
          let less = one_size (nat_lt d.number n) d.number (d.number - n) in
          omega (arith, whole, all, less)
      chooses_fall (outcome.Err x) n new is e = tt

  -- the loop
  pub pending_first : (done : List Action) (left : List PendingDisjunct) (d : PendingDisjunct) → done ≡ [] → left ≡ d ∷ [] → done ++ all_pending es left ≡
      disjunct_pending es d
  pending_first done left d nothing one = ap (λ w. w ++ all_pending es left) nothing ∙ ap (all_pending es) one

  pub pending_next : (all now : List PendingDisjunct) (d : PendingDisjunct) (left : List PendingDisjunct) (done new w : List Action) → all ≡ left ++ d ∷ [] →
      done ++
      all_pending es all ≡ w
      → new ++ all_pending es now ≡ done ++ (disjunct_pending es d ++ all_pending es left) → new ++ all_pending es now ≡ w
  pending_next all now d left done new w is e h =
      h ∙ ap (λ x. done ++ x) (sym (pending_append left (d ∷ []))) ∙ ap (λ ds. done ++ all_pending es ds) (sym is) ∙ e

  pub pending_less : (all now : List PendingDisjunct) (d : PendingDisjunct) (left : List PendingDisjunct) → all ≡ left ++ d ∷ [] →
      pending_disjuncts_size es now < pending_disjuncts_size es left + pending_size es d
      → pending_disjuncts_size es now < pending_disjuncts_size es all
  pending_less all now d left is less =
      let whole = ap (pending_disjuncts_size es) is ∙ left_append left (d ∷ []) in
      omega (arith, whole, less)

  pub pending_last : (left : List PendingDisjunct) (done w : List Action) → length left ≡ 0 → done ++ all_pending es left ≡ w → done ≡ w
  pending_last [] done w none e = sym (append-nil done) ∙ e
  pending_last (d ∷ ds) done w none e = absurd (omega (arith, none))

-- disjuncts by their numbers ------------------------------------------------------------------------------------------

get_right : {A : Type 0} (xs ys : List A) (i : ℕ) → length xs ≤ i → slice_get (xs ++ ys) i ≡ slice_get ys (i - length xs)
get_right [] ys i less = ap (slice_get ys) (let same : i ≡ i - 0 = omega arith in same)
get_right (x ∷ xs) ys zero less = absurd (omega (arith, less))
get_right (x ∷ xs) ys (suc i) less =
    get_right xs ys i (omega (arith, less)) ∙ ap (slice_get ys) (let same : i - length xs ≡ suc i - suc (length xs) = omega arith in same)

get_mapped : {A B : Type 0} (f : A → B) (xs : List A) (i : ℕ) (x : A) → slice_get xs i ≡ Some x → slice_get (map f xs) i ≡ Some (f x)
get_mapped {A = A} {B = B} f [] i x is = absurd (let no : None ≡ Some x = is in cc)
get_mapped {A = A} {B = B} f (y ∷ xs) zero x is = ap (λ o. first_of o) is
  where
    first_of : Option A → Option B
    first_of None = None
    first_of (Some z) = Some (f z)
get_mapped {A = A} {B = B} f (y ∷ xs) (suc i) x is = get_mapped f xs i x is

-- one of the ones with one of the others
get_each : {A : Type 0} (xs ys : List (List A)) (n : ℕ) (x y : List A) → n < length xs * length ys → slice_get xs (n % length xs) ≡ Some x
    → slice_get ys (n / length xs) ≡ Some y → slice_get (each_then xs ys) n ≡ Some (x ++ y)
get_each {A = A} xs [] n x y less one two = absurd (let none = mul-zero (length xs) in omega (arith, less, none))
get_each {A = A} xs (z ∷ ys) n x y less one two = elim (cases_lt n (length xs)) [
  | inl before ↦
      get_left (map (λ w. w ++ z) xs) (each_then xs ys) n (subst (λ k. n < k) (sym (length-map xs (λ w. w ++ z))) before)
      ∙ get_mapped (λ w. w ++ z) xs n x (ap (slice_get xs) (sym (mod-eq_of_lt before)) ∙ one)
      ∙ ap (λ w. Some (x ++ w)) (same_Some z y (ap (slice_get (z ∷ ys)) (sym (div-eq_of_lt before)) ∙ two))
  | inr past ↦
      get_right (map (λ w. w ++ z) xs) (each_then xs ys) n (subst (λ k. k ≤ n) (sym (length-map xs (λ w. w ++ z))) past)
      ∙ ap (λ k. slice_get (each_then xs ys) (n - k)) (length-map xs (λ w. w ++ z))
      ∙ get_each xs ys (n - length xs) x y (lesser past) (ap (slice_get xs) (sym (mod-eq-sub-mod past)) ∙ one)
      (ap (slice_get (z ∷ ys)) (sym (div-eq-sub-div (some past) past ∙ plus_one ((n - length xs) / length xs))) ∙ two)
]
  where
    plus_one : (k : ℕ) → k + 1 ≡ suc k
    plus_one k = omega arith

    lesser : length xs ≤ n → n - length xs < length xs * length ys
    lesser past = let whole = mul-suc (length xs) (length ys) in omega (arith, whole, less, past)

    some : length xs ≤ n → 0 < length xs
    some past = elim (cases_lt 0 (length xs)) [
      | inl so ↦ so
      | inr none ↦
          let empty : length xs ≡ 0 = omega (arith, none) in
          let there = subst (λ k. n < k * length (z ∷ ys)) empty less in
          let no = mul_comm 0 (length (z ∷ ys)) ∙ mul-zero (length (z ∷ ys)) in
          absurd (omega (arith, there, no))
    ]

-- each disjunct, if there are no more than may be
pub side_found : (p : Moves) (n : ℕ) → count_of p ≤ 1024 → n < count_of p → slice_get (disjuncts p) n ≡ Some (disjunct_at p n)
side_found stay zero few less = refl
side_found stay (suc n) few less = absurd (omega (arith, less))
side_found (make step) zero few less = refl
side_found (make step) (suc n) few less = absurd (omega (arith, less))
side_found (first_then a b) n few less =
    let whole = length_each (disjuncts a) (disjuncts b) in
    let ones = subst (λ k. k ≤ 1024) whole few in
    let least_a = le-mul_of_pos_right (count_of a) (sides_some b) in
    let least_b = subst (λ k. count_of b ≤ k) (mul_comm (count_of b) (count_of a)) (le-mul_of_pos_right (count_of b) (sides_some a)) in
    let few_a : count_of a ≤ 1024 = omega (arith, ones, least_a) in
    let few_b : count_of b ≤ 1024 = omega (arith, ones, least_b) in
    let same = capped_few (count_of a) (let below : count_of a < 1025 = omega (arith, few_a) in below) in
    let inside = subst (λ k. n < k) whole less in
    let inner : n % count_of a < count_of a = mod-lt n (sides_some a) in
    let outer : n / count_of a < count_of b =
    (div-lt_iff_lt-mul (sides_some a)).1 (subst (λ k. n < k) (mul_comm (count_of a) (count_of b)) inside) in
    get_each (disjuncts a) (disjuncts b) n (disjunct_at a (n % count_of a)) (disjunct_at b (n / count_of a)) inside
    (side_found a (n % count_of a) few_a inner) (side_found b (n / count_of a) few_b outer)
    ∙ ap (λ k. Some (disjunct_at a (n % k) ++ disjunct_at b (n / k))) (sym same)
side_found (join_of a b) n few less =
    let whole = length-append (disjuncts a) (disjuncts b) in
    let few_a : count_of a ≤ 1024 = omega (arith, few, whole) in
    let few_b : count_of b ≤ 1024 = omega (arith, few, whole) in
    let same = capped_few (count_of a) (let below : count_of a < 1025 = omega (arith, few_a) in below) in
    elim (cases_lt n (count_of a)) [
      | inl before ↦
          get_left (disjuncts a) (disjuncts b) n before ∙ side_found a n few_a before
          ∙ ap (λ t. Some (if t then disjunct_at a n else disjunct_at b (n - count_of a))) (sym (below_is n (count_of a) before))
          ∙ ap (λ k. Some (if nat_lt n k then disjunct_at a n else disjunct_at b (n - k))) (sym same)
      | inr past ↦
          get_right (disjuncts a) (disjuncts b) n past
          ∙ side_found b (n - count_of a) few_b (let inside : n - count_of a < count_of b = omega (arith, less, whole, past) in inside)
          ∙ ap (λ t. Some (if t then disjunct_at a n else disjunct_at b (n - count_of a))) (sym (past_is n (count_of a) past))
          ∙ ap (λ k. Some (if nat_lt n k then disjunct_at a n else disjunct_at b (n - k))) (sym same)
    ]
  where
    below_is : (m k : ℕ) → m < k → nat_lt m k ≡ true
    below_is m k less = grind (arith, less)

    past_is : (m k : ℕ) → k ≤ m → nat_lt m k ≡ false
    past_is m k less = grind (arith, less)

-- one more is written
pub take_next : {A : Type 0} (xs : List A) (n : ℕ) (x : A) → slice_get xs n ≡ Some x → take (suc n) xs ≡ take n xs ++ x ∷ []
take_next {A = A} [] n x is = absurd (let no : None ≡ Some x = is in cc)
take_next {A = A} (y ∷ xs) zero x is = let same : Some y ≡ Some x = is in ap (λ z. z ∷ []) (same_Some y x same)
take_next {A = A} (y ∷ xs) (suc n) x is = ap (λ ys. y ∷ ys) (take_next xs n x is)

pub side_written : (p : Moves) (n count : ℕ) (old all new : List (List Action)) (side : List Action) → count_of p ≤ 1024 → count ≡ capped (count_of p)
    → n < count → side ≡ disjunct_at p n → all ≡ old ++ take n (disjuncts p) → new ≡ all ++ side ∷ [] → new ≡ old ++ take (n + 1) (disjuncts p)
side_written p n count old all new side few is less one before e =
    let same = capped_few (count_of p) (let below : count_of p < 1025 = omega (arith, few) in below) in
    e ∙ ap (λ w. w ++ side ∷ []) before ∙ append_assoc old (take n (disjuncts p)) (side ∷ [])
    ∙ ap (λ x. old ++ (take n (disjuncts p) ++ x ∷ [])) one
    ∙ ap (λ w. old ++ w) (sym (take_next (disjuncts p) n (disjunct_at p n) (side_found p n few (subst (λ k. n < k) (is ∙ same) less))))
    ∙ ap (λ m. old ++ take m (disjuncts p)) (let next : suc n ≡ n + 1 = omega arith in next)

take_whole : {A : Type 0} (xs : List A) (n : ℕ) → length xs ≤ n → take n xs ≡ xs
take_whole [] zero long = refl
take_whole [] (suc n) long = refl
take_whole (x ∷ xs) zero long = absurd (omega (arith, long))
take_whole (x ∷ xs) (suc n) long = ap (λ ys. x ∷ ys) (take_whole xs n (omega (arith, long)))

pub sides_written : (p : Moves) (n count : ℕ) (old all : List (List Action)) → count_of p ≤ 1024 → count ≡ capped (count_of p) → count ≤ n
    → all ≡ old ++ take n (disjuncts p) → all ≡ old ++ disjuncts p
sides_written p n count old all few is past e =
    let same = capped_few (count_of p) (let below : count_of p < 1025 = omega (arith, few) in below) in
    e ∙ ap (λ w. old ++ w) (take_whole (disjuncts p) n (subst (λ k. k ≤ n) (is ∙ same) past))
