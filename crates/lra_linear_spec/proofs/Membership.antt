-- Members of a list, one element at a time (std has those of two lists that are joined); lists without repeats, and lists in order.
use Rattle.std.proofs.Common.{Bool, List, [], ap, arith, cond, false, get_or, inl, inr, length, length-append, map, refl, subst, suc, sym, true, zero, ℕ, ◌++◌, ◌<◌, ◌∙◌, ◌∷◌, ◌≡◌, ◌≤◌, ◌⊎◌}
use Rattle.std.proofs.lemmas.Bool.{and_parts}
use Rattle.std.proofs.lemmas.List.Elements.{Contains-append_cases, Contains-append_left, Contains-append_right, Contains-get_or}
use Rattle.std.specs.{List.All, List.Contains, List.filter, List.list_all, declared.cmp.Ordering.Ordering, declared.cmp.Ordering.TheVariants.Less}
use Rattle.lra_linear_spec.specs.RowOrder.{Ascends}

-- nothing is in the empty list
pub contains_none : {A : Type 0} (x : A) → Contains [] x → ⊥
contains_none x k = omega (arith, k.1)

-- the first element, and a later one
pub contains_head : {A : Type 0} (x : A) (xs : List A) → Contains (x ∷ xs) x
contains_head x xs = (0, omega arith, refl)

pub contains_tail : {A : Type 0} (y x : A) (xs : List A) → Contains xs x → Contains (y ∷ xs) x
contains_tail y x xs h = (suc h.0, omega (arith, h.1), h.2)

at_cases : {A : Type 0} (y x : A) (xs : List A) (k : ℕ) → k < length (y ∷ xs) → get_or (y ∷ xs) k x ≡ x → (y ≡ x) ⊎ Contains xs x
at_cases y x xs zero h e = inl e
at_cases y x xs (suc k) h e = inr (k, omega (arith, h), e)

-- a member of a list is its first element, or a later one
pub contains_cases : {A : Type 0} (y x : A) (xs : List A) → Contains (y ∷ xs) x → (y ≡ x) ⊎ Contains xs x
contains_cases y x xs h = at_cases y x xs h.0 h.1 h.2

-- what each member is, all are
pub all_from : {A : Type 0} (P : A → Type 0) (xs : List A) → ((x : A) → Contains xs x → P x) → All P xs
all_from P xs f = λ k d h. f (get_or xs k d) (Contains-get_or xs k d h)

-- the members of a mapped list
pub map_has : {A B : Type 0} (f : A → B) (xs : List A) (x : A) → Contains xs x → Contains (map f xs) (f x)
map_has f [] x k = absurd (contains_none x k)
map_has f (y ∷ xs) x k = elim (contains_cases y x xs k) [
  | inl e ↦ subst (λ z. Contains (f y ∷ map f xs) (f z)) e (contains_head (f y) (map f xs))
  | inr d ↦ contains_tail (f y) (f x) (map f xs) (map_has f xs x d)
]

pub map_from : {A B : Type 0} (f : A → B) (xs : List A) (y : B) → Contains (map f xs) y → (x : A) × Contains xs x × (f x ≡ y)
map_from f [] y k = absurd (contains_none y k)
map_from f (x ∷ xs) y k = elim (contains_cases (f x) y (map f xs) k) [
  | inl e ↦ (x, contains_head x xs, e)
  | inr d ↦ let i = map_from f xs y d in (i.0, contains_tail x i.0 xs i.1, i.2)
]

-- ---- splits
pub contains_middle : {A : Type 0} (front : List A) (x : A) (back : List A) (t : A) → Contains (x ∷ front ++ back) t → Contains (front ++ x ∷ back) t
contains_middle front x back t k = elim (contains_cases x t (front ++ back) k) [
  | inl e ↦ Contains-append_right front (x ∷ back) t (subst (Contains (x ∷ back)) e (contains_head x back))
  | inr d ↦ elim (Contains-append_cases front back t d) [
    | inl i ↦ Contains-append_left front (x ∷ back) t i
    | inr i ↦ Contains-append_right front (x ∷ back) t (contains_tail x t back i)
  ]
]

-- the list with x between a prefix and a suffix
pub record Split {A : Type 0} (xs : List A) (x : A) : Type 0 where
  pub front : List A
  pub back : List A
  pub is : xs ≡ front ++ x ∷ back

-- a member splits its list
pub contains_split : {A : Type 0} (xs : List A) (x : A) → Contains xs x → Split xs x
contains_split [] x k = absurd (contains_none x k)
contains_split (y ∷ xs) x k = elim (contains_cases y x xs k) [
  | inl e ↦ record { front = []; back = xs; is = ap (λ z. z ∷ xs) e }
  | inr d ↦ let i = contains_split xs x d in record { front = y ∷ i.front; back = i.back; is = ap (λ zs. y ∷ zs) i.is }
]

-- ---- lists without repeats are no longer than lists with all their members
abbrev pub NoRepeat : {A : Type 0} → List A → Type 0
NoRepeat [] = Unit {0}
NoRepeat (x ∷ xs) = ¬ (Contains xs x) × NoRepeat xs

-- a list without repeats is no longer than one with all its members
pub at_most : {A : Type 0} (xs ys : List A) → NoRepeat xs → ((t : A) → Contains xs t → Contains ys t) → length xs ≤ length ys
at_most [] ys n f = omega arith
at_most (x ∷ xs) ys n f =
    let s = contains_split ys x (f x (contains_head x xs)) in
    let i = at_most xs (s.front ++ s.back) n.1 (λ t k. elim (Contains-append_cases s.front (x ∷ s.back) t (subst (λ zs. Contains zs t) s.is (f t (contains_tail x t xs k)))) [
      | inl a ↦ Contains-append_left s.front s.back t a
      | inr a ↦ elim (contains_cases x t s.back a) [ inl e ↦ absurd (n.0 (subst (Contains xs) (sym e) k)) | inr b ↦ Contains-append_right s.front s.back t b ]
    ]) in
    omega (arith, i, ap length s.is, length-append s.front (x ∷ s.back), length-append s.front s.back)

-- ---- lists in one strict order with the same members are equal
pub same_ascending : {A : Type 0} (cmp : A → A → Ordering) → ((x y : A) → cmp x y ≡ Less → cmp y x ≡ Less → ⊥) → (xs ys : List A) → Ascends cmp xs → Ascends cmp ys →
    ((t : A) → (Contains xs t → Contains ys t) × (Contains ys t → Contains xs t)) → xs ≡ ys
same_ascending cmp asym [] [] a b same = refl
same_ascending cmp asym [] (y ∷ ys) a b same = absurd (contains_none y ((same y).1 (contains_head y ys)))
same_ascending cmp asym (x ∷ xs) [] a b same = absurd (contains_none x ((same x).0 (contains_head x xs)))
same_ascending cmp asym (x ∷ xs) (y ∷ ys) a b same =
    let e : x ≡ y = elim (contains_cases y x ys ((same x).0 (contains_head x xs))) [
      | inl f ↦ sym f
      | inr i ↦ elim (contains_cases x y xs ((same y).1 (contains_head y ys))) [ inl f ↦ f | inr k ↦ absurd (asym x y (a.0 y k) (b.0 x i)) ]
    ] in
    let tails : xs ≡ ys = same_ascending cmp asym xs ys a.1 b.1 (λ t. (
      λ k. elim (contains_cases y t ys ((same t).0 (contains_tail x t xs k))) [ inl f ↦ absurd (let l = subst (λ z. cmp x z ≡ Less) (sym f ∙ sym e) (a.0 t k) in asym x x l l) | inr i ↦ i ],
      λ k. elim (contains_cases x t xs ((same t).1 (contains_tail y t ys k))) [ inl f ↦ absurd (let l = subst (λ z. cmp y z ≡ Less) (sym f ∙ e) (b.0 t k) in asym y y l l) | inr i ↦ i ],
    )) in
    cc

-- ---- tests of all members, and those that pass
-- what all pass, each member passes, and the other way round
pub list_all_at : {A : Type 0} (test : A → Bool) (xs : List A) → list_all test xs ≡ true → (x : A) → Contains xs x → test x ≡ true
list_all_at test [] h x k = absurd (contains_none x k)
list_all_at test (y ∷ xs) h x k =
    let both = and_parts (test y) (list_all test xs) h in
    elim (contains_cases y x xs k) [ inl e ↦ ap test (sym e) ∙ both.0 | inr d ↦ list_all_at test xs both.1 x d ]

pub list_all_from : {A : Type 0} (test : A → Bool) (xs : List A) → ((x : A) → Contains xs x → test x ≡ true) → list_all test xs ≡ true
list_all_from test [] h = refl
list_all_from test (y ∷ xs) h = rw (h y (contains_head y xs)) (list_all_from test xs (λ x k. h x (contains_tail y x xs k)))

-- a member that passes stays, and what stays is a member that passes
pub filter_has : {A : Type 0} (test : A → Bool) (xs : List A) (x : A) → Contains xs x → test x ≡ true → Contains (filter test xs) x
filter_has test [] x k h = absurd (contains_none x k)
filter_has test (y ∷ xs) x k h = elim (contains_cases y x xs k) [
  | inl e ↦ subst (λ z. Contains (filter test (y ∷ xs)) z) e (subst (λ b. Contains (cond b (y ∷ filter test xs) (filter test xs)) y) (sym h ∙ ap test (sym e)) (contains_head y (filter test xs)))
  | inr d ↦ later (test y) (filter_has test xs x d h)
]
  where
    later : (b : Bool) → Contains (filter test xs) x → Contains (cond b (y ∷ filter test xs) (filter test xs)) x
    later true d = contains_tail y x (filter test xs) d
    later false d = d

pub filter_from : {A : Type 0} (test : A → Bool) (xs : List A) (x : A) → Contains (filter test xs) x → Contains xs x × (test x ≡ true)
filter_from test [] x k = absurd (contains_none x k)
filter_from test (y ∷ xs) x k = by_test (test y) refl k (λ d. filter_from test xs x d)
  where
    by_test : (b : Bool) → test y ≡ b → Contains (cond b (y ∷ filter test xs) (filter test xs)) x → (Contains (filter test xs) x → Contains xs x × (test x ≡ true)) → Contains (y ∷ xs) x ×
        (test x ≡ true)
    by_test true e k rest = elim (contains_cases y x (filter test xs) k) [
      | inl s ↦ (subst (Contains (y ∷ xs)) s (contains_head y xs), ap test (sym s) ∙ e)
      | inr d ↦ let i = rest d in (contains_tail y x xs i.0, i.1)
    ]
    by_test false e k rest = let i = rest k in (contains_tail y x xs i.0, i.1)

-- ---- short lists: a fact on each member, and on each member with the others
-- by the number of members
pub each_one : {A : Type 0} (P : A → Type 0) (a : A) → P a → (t : A) → Contains (a ∷ []) t → P t
each_one P a p t k = elim (contains_cases a t [] k) [ inl e ↦ subst P e p | inr n ↦ absurd (contains_none t n) ]

pub each_two : {A : Type 0} (P : A → Type 0) (a b : A) → P a → P b → (t : A) → Contains (a ∷ b ∷ []) t → P t
each_two P a b p q t k = elim (contains_cases a t (b ∷ []) k) [ inl e ↦ subst P e p | inr n ↦ each_one P b q t n ]

pub each_three : {A : Type 0} (P : A → Type 0) (a b c : A) → P a → P b → P c → (t : A) → Contains (a ∷ b ∷ c ∷ []) t → P t
each_three P a b c p q r t k = elim (contains_cases a t (b ∷ c ∷ []) k) [ inl e ↦ subst P e p | inr n ↦ each_two P b c q r t n ]

-- the splits of a list of none, one, two or three elements: the fact on each element, with the others
pub split_none : {A : Type 0} (front : List A) (x : A) (back : List A) → [] ≡ front ++ x ∷ back → ⊥
split_none front x back e = let l = ap length e in let n = length-append front (x ∷ back) in omega (arith, l, n)

pub split_one : {A : Type 0} (P : List A → A → Type 0) (a : A) → P [] a → (front : List A) (x : A) (back : List A) → a ∷ [] ≡ front ++ x ∷ back → P (front ++ back) x
split_one P a p [] x back e =
    let h : a ≡ x = cc in
    let k : [] ≡ back = cc in
    subst (λ y. P y x) k (subst (λ y. P [] y) h p)
split_one P a p (f ∷ front) x back e = let h : [] ≡ front ++ x ∷ back = cc in absurd (split_none front x back h)

pub split_two : {A : Type 0} (P : List A → A → Type 0) (a b : A) → P (b ∷ []) a → P (a ∷ []) b → (front : List A) (x : A) (back : List A) → a ∷ b ∷ [] ≡ front ++ x ∷ back → P (front ++ back) x
split_two P a b p q [] x back e =
    let h : a ≡ x = cc in
    let k : b ∷ [] ≡ back = cc in
    subst (λ y. P y x) k (subst (λ y. P (b ∷ []) y) h p)
split_two P a b p q (f ∷ front) x back e =
    let h : a ≡ f = cc in
    let k : b ∷ [] ≡ front ++ x ∷ back = cc in
    split_one (λ ys y. P (f ∷ ys) y) b (subst (λ y. P (y ∷ []) b) h q) front x back k

pub split_three : {A : Type 0} (P : List A → A → Type 0) (a b c : A) → P (b ∷ c ∷ []) a → P (a ∷ c ∷ []) b → P (a ∷ b ∷ []) c →
    (front : List A) (x : A) (back : List A) → a ∷ b ∷ c ∷ [] ≡ front ++ x ∷ back → P (front ++ back) x
split_three P a b c p q r [] x back e =
    let h : a ≡ x = cc in
    let k : b ∷ c ∷ [] ≡ back = cc in
    subst (λ y. P y x) k (subst (λ y. P (b ∷ c ∷ []) y) h p)
split_three P a b c p q r (f ∷ front) x back e =
    let h : a ≡ f = cc in
    let k : b ∷ c ∷ [] ≡ front ++ x ∷ back = cc in
    split_two (λ ys y. P (f ∷ ys) y) b c (subst (λ y. P (y ∷ c ∷ []) b) h q) (subst (λ y. P (y ∷ b ∷ []) c) h r) front x back k
