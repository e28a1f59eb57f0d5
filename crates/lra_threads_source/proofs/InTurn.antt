-- What is reported about threads one after the other.
use Rattle.std.proofs.Common.{◌≡◌, ◌∙◌, ◌≤◌, ◌<◌, ◌+◌, ℕ, zero, suc, List, [], ◌∷◌, ◌++◌, length, drop, get_or, inl, inr, refl, sym, ap, subst, append_assoc, append-nil, add-one, arith}
use Rattle.std.proofs.lemmas.List.Elements.{Contains-append_cases, Contains-append_left, Contains-append_right}
use Rattle.std.proofs.{lemmas.Bool.cases_lt, lemmas.List.at_drop_all, lemmas.List.at_drop_more, lemmas.Option.none-some, lemmas.Option.same_Some}
use Rattle.std.specs.{List.Contains, Prelude.Some, Prelude.slice_get}
use Rattle.lra_threads_source.proofs.Crates.{lra_linear_spec.Membership.contains_none, lra_program.AccessLaws.get_right}
use Rattle.lra_threads_source.specs.Listed.{one_by_one}

-- one thread more
pub in_turn_more : {A B : Type 0} (tell : ℕ → A → List B) (k : ℕ) (xs : List A) (x : A)
    → one_by_one tell k (xs ++ x ∷ []) ≡ one_by_one tell k xs ++ tell (k + length xs) x
in_turn_more {A} {B} tell k [] x = append-nil (tell k x) ∙ ap (λ (n : ℕ). tell n x) (omega arith)
in_turn_more {A} {B} tell k (y ∷ ys) x =
    ap (λ (bs : List B). tell k y ++ bs) (in_turn_more tell (suc k) ys x)
    ∙ sym (append_assoc (tell k y) (one_by_one tell (suc k) ys) (tell (suc k + length ys) x))
    ∙ ap (λ (n : ℕ). (tell k y ++ one_by_one tell (suc k) ys) ++ tell n x) (omega arith)

-- with what is left, one more of them
pub turn_more : {A B : Type 0} (tell : ℕ → A → List B) (k : ℕ) (xs : List A) (x : A) (start now next : List B) → k < length xs → x ≡ get_or xs k x
    → now ++ one_by_one tell k (drop k xs) ≡ start → next ≡ now ++ tell k x → next ++ one_by_one tell (k + 1) (drop (k + 1) xs) ≡ start
turn_more {A} {B} tell k xs x start now next low is all more =
    ap (λ (bs : List B). bs ++ one_by_one tell (k + 1) (drop (k + 1) xs)) more
    ∙ append_assoc now (tell k x) (one_by_one tell (k + 1) (drop (k + 1) xs))
    ∙ ap (λ (n : ℕ). now ++ (tell k x ++ one_by_one tell n (drop (k + 1) xs))) (add-one k)
    ∙ ap (λ (bs : List B). now ++ bs) (sym (at_drop_more (one_by_one tell k) xs k x low ∙ ap (λ (y : A). one_by_one tell k (y ∷ drop (k + 1) xs)) (sym is))) ∙ all

-- and with none left
pub turns_done : {A B : Type 0} (tell : ℕ → A → List B) (k : ℕ) (xs : List A) (start now : List B) → length xs ≤ k
    → now ++ one_by_one tell k (drop k xs) ≡ start → now ≡ start
turns_done {A} {B} tell k xs start now past all =
    sym (append-nil now) ∙ ap (λ (bs : List B). now ++ bs) (sym (at_drop_all (one_by_one tell k) xs k past)) ∙ all

-- what is reported about the k-th stands in what is reported about all
pub in_turn_has : {A B : Type 0} (tell : ℕ → A → List B) (j : ℕ) (xs : List A) (k : ℕ) (x : A) (b : B) → slice_get xs k ≡ Some x → Contains (tell (j + k) x) b
    → Contains (one_by_one tell j xs) b
in_turn_has tell j [] k x b there among = absurd (none-some x there)
in_turn_has {A} {B} tell j (y ∷ ys) zero x b there among =
    let same : y ≡ x = same_Some y x there in
    Contains-append_left (tell j y) (one_by_one tell (suc j) ys) b
    (subst (λ (a : A). Contains (tell j a) b) (sym same) (subst (λ (n : ℕ). Contains (tell n x) b) (omega arith) among))
in_turn_has {A} {B} tell j (y ∷ ys) (suc k) x b there among =
    Contains-append_right (tell j y) (one_by_one tell (suc j) ys) b
    (in_turn_has tell (suc j) ys k x b there (subst (λ (n : ℕ). Contains (tell n x) b) (omega arith) among))

-- and each of that is reported about one
pub in_turn_from : {A B : Type 0} (tell : ℕ → A → List B) (j : ℕ) (xs : List A) (b : B) → Contains (one_by_one tell j xs) b
    → (k : ℕ) × (x : A) × (slice_get xs k ≡ Some x) × Contains (tell (j + k) x) b
in_turn_from tell j [] b among = absurd (contains_none b among)
in_turn_from {A} {B} tell j (y ∷ ys) b among =
    elim (Contains-append_cases (tell j y) (one_by_one tell (suc j) ys) b among) [
      | inl here ↦ (0, y, refl, subst (λ (n : ℕ). Contains (tell n y) b) (omega arith) here)
      | inr later ↦
          let (k, x, there, told) = in_turn_from tell (suc j) ys b later in
          (suc k, x, there, subst (λ (n : ℕ). Contains (tell n x) b) (omega arith) told)
    ]

-- the first so many sizes from the j-th on
abbrev pub sizes_from : (ℕ → ℕ) → ℕ → ℕ → ℕ
sizes_from size j zero = 0
sizes_from size j (suc k) = size j + sizes_from size (suc j) k

front_get : {A : Type 0} (xs ys : List A) (n : ℕ) → n < length xs → slice_get (xs ++ ys) n ≡ slice_get xs n
front_get [] ys n low = absurd (omega (arith, low))
front_get (x ∷ xs) ys zero low = refl
front_get (x ∷ xs) ys (suc n) low = front_get xs ys n (omega (arith, low))

-- at which place
pub in_turn_at : {A B : Type 0} (tell : ℕ → A → List B) (size : ℕ → ℕ) (j : ℕ) (xs : List A)
    → ((i : ℕ) (y : A) → slice_get xs i ≡ Some y → length (tell (j + i) y) ≡ size (j + i))
    → (k : ℕ) (x : A) → slice_get xs k ≡ Some x → (n : ℕ) → n < size (j + k)
    → slice_get (one_by_one tell j xs) (sizes_from size j k + n) ≡ slice_get (tell (j + k) x) n
in_turn_at tell size j [] sizes k x there n low = absurd (none-some x there)
in_turn_at {A} {B} tell size j (y ∷ ys) sizes zero x there n low =
    let same : y ≡ x = same_Some y x there in
    let here : j + 0 ≡ j = omega arith in
    let long : length (tell j y) ≡ size j = subst (λ (m : ℕ). length (tell m y) ≡ size m) here (sizes 0 y refl) in
    let few : n < size j = subst (λ (m : ℕ). n < size m) here low in
    ap (λ (m : ℕ). slice_get (tell j y ++ one_by_one tell (suc j) ys) m) (omega arith)
    ∙ front_get (tell j y) (one_by_one tell (suc j) ys) n (omega (arith, few, long))
    ∙ ap (λ (a : A). slice_get (tell j a) n) same ∙ ap (λ (m : ℕ). slice_get (tell m x) n) (sym here)
in_turn_at {A} {B} tell size j (y ∷ ys) sizes (suc k) x there n low =
    let here : j + 0 ≡ j = omega arith in
    let next : j + suc k ≡ suc j + k = omega arith in
    let long : length (tell j y) ≡ size j = subst (λ (m : ℕ). length (tell m y) ≡ size m) here (sizes 0 y refl) in
    ap (λ (m : ℕ). slice_get (tell j y ++ one_by_one tell (suc j) ys) m) (omega (arith, long))
    ∙ get_right (tell j y) (one_by_one tell (suc j) ys) (sizes_from size (suc j) k + n)
    ∙ in_turn_at tell size (suc j) ys
    (λ i z at. subst (λ (m : ℕ). length (tell m z) ≡ size m) (omega arith) (sizes (suc i) z at)) k x there n (subst (λ (m : ℕ). n < size m) next low)
    ∙ ap (λ (m : ℕ). slice_get (tell m x) n) (sym next)

-- after more of them stands no less
pub sizes_more : (size : ℕ → ℕ) (j k l : ℕ) → k < l → sizes_from size j k + size (j + k) ≤ sizes_from size j l
sizes_more size j k zero low = absurd (omega (arith, low))
sizes_more size j zero (suc l) low =
    let here : size (j + 0) ≡ size j = ap size (omega arith) in
    omega (arith, here)
sizes_more size j (suc k) (suc l) low =
    let next : size (j + suc k) ≡ size (suc j + k) = ap size (omega arith) in
    let rest = sizes_more size (suc j) k l (omega (arith, low)) in
    omega (arith, next, rest)

-- so a place says which
pub same_turn : (size : ℕ → ℕ) (k l n m : ℕ) → n < size k → m < size l → sizes_from size 0 k + n ≡ sizes_from size 0 l + m → (k ≡ l) × (n ≡ m)
same_turn size k l n m one two same = elim (cases_lt k l) [
  | inl low ↦
      let more = sizes_more size 0 k l low in
      let own : size (0 + k) ≡ size k = ap size (omega arith) in
      absurd (omega (arith, more, own, one, same))
  | inr high ↦ elim (cases_lt l k) [
    | inl low ↦
        let more = sizes_more size 0 l k low in
        let own : size (0 + l) ≡ size l = ap size (omega arith) in
        absurd (omega (arith, more, own, two, same))
    | inr also ↦ let both : k ≡ l = omega (arith, high, also) in
        let sums : sizes_from size 0 k ≡ sizes_from size 0 l = ap (sizes_from size 0) both in
        (both, omega (arith, sums, same))
  ]
]

-- from the first on
pub first_has : {A B : Type 0} (tell : ℕ → A → List B) (xs : List A) (k : ℕ) (x : A) (b : B) → slice_get xs k ≡ Some x → Contains (tell k x) b
    → Contains (one_by_one tell 0 xs) b
first_has tell xs k x b there among = in_turn_has tell 0 xs k x b there (subst (λ (n : ℕ). Contains (tell n x) b) (omega arith) among)

pub first_from : {A B : Type 0} (tell : ℕ → A → List B) (xs : List A) (b : B) → Contains (one_by_one tell 0 xs) b
    → (k : ℕ) × (x : A) × (slice_get xs k ≡ Some x) × Contains (tell k x) b
first_from tell xs b among =
    let (k, x, there, told) = in_turn_from tell 0 xs b among in
    (k, x, there, subst (λ (n : ℕ). Contains (tell n x) b) (omega arith) told)

pub first_at : {A B : Type 0} (tell : ℕ → A → List B) (size : ℕ → ℕ) (xs : List A)
    → ((i : ℕ) (y : A) → slice_get xs i ≡ Some y → length (tell i y) ≡ size i)
    → (k : ℕ) (x : A) → slice_get xs k ≡ Some x → (n : ℕ) → n < size k
    → slice_get (one_by_one tell 0 xs) (sizes_from size 0 k + n) ≡ slice_get (tell k x) n
first_at tell size xs sizes k x there n low =
    in_turn_at tell size 0 xs (λ i y at. subst (λ (m : ℕ). length (tell m y) ≡ size m) (omega arith) (sizes i y at)) k x there n
    (subst (λ (m : ℕ). n < size m) (omega arith) low)
    ∙ ap (λ (m : ℕ). slice_get (tell m x) n) (omega arith)

pub first_more : {A B : Type 0} (tell : ℕ → A → List B) (xs : List A) (x : A)
    → one_by_one tell 0 (xs ++ x ∷ []) ≡ one_by_one tell 0 xs ++ tell (length xs) x
first_more {A} {B} tell xs x = in_turn_more tell 0 xs x ∙ ap (λ (n : ℕ). one_by_one tell 0 xs ++ tell n x) (omega arith)
