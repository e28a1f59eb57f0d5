-- Lists whose elements take in those of another list, place by place.
use Rattle.std.proofs.Common.{◌≡◌, ◌∙◌, ◌+◌, ◌≤◌, ◌<◌, ℕ, zero, suc, List, [], ◌∷◌, ◌++◌, length, get_or, drop, drop-cons, replicate, refl, ap, sym, subst, arith}
use Rattle.std.specs.Prelude.{slice_set}
use Rattle.lra_threads_fixpoint.specs.Intervals.{by_ones, updated}

pub drop_all : {A : Type 0} (xs : List A) (k : ℕ) → length xs ≤ k → drop k xs ≡ []
drop_all [] zero h = refl
drop_all [] (suc k) h = refl
drop_all (x ∷ xs) zero h = absurd (omega (arith, h))
drop_all (x ∷ xs) (suc k) h = drop_all xs k (omega (arith, h))

pub ones_length : {A : Type 0} (f : A → A → A) (xs ys : List A) → length (by_ones f xs ys) ≡ length xs
ones_length f [] ys = refl
ones_length f (x ∷ xs) [] = refl
ones_length f (x ∷ xs) (y ∷ ys) = ap suc (ones_length f xs ys)

-- one place --------------------------------------------------------------------------------------------------------

pub updated_set : {A : Type 0} (xs : List A) (k : ℕ) (f : A → A) (d : A) → k < length xs → slice_set xs k (f (get_or xs k d)) ≡ updated k f xs
updated_set [] k f d few = absurd (omega (arith, few))
updated_set (x ∷ xs) zero f d few = refl
updated_set (x ∷ xs) (suc k) f d few = ap (λ (ys : List _). x ∷ ys) (updated_set xs k f d (omega (arith, few)))

pub updated_past : {A : Type 0} (xs : List A) (k : ℕ) (f : A → A) → length xs ≤ k → xs ≡ updated k f xs
updated_past [] k f past = refl
updated_past (x ∷ xs) zero f past = absurd (omega (arith, past))
updated_past (x ∷ xs) (suc k) f past = ap (λ (ys : List _). x ∷ ys) (updated_past xs k f (omega (arith, past)))

-- a value that was read there is changed
pub read_set : {A : Type 0} (xs : List A) (k : ℕ) (f : A → A) (y z : A) → k < length xs → y ≡ get_or xs k y → z ≡ f y → slice_set xs k z ≡ updated k f xs
read_set {A} xs k f y z few e is =
    ap (λ (v : A). slice_set xs k v) (is ∙ ap f e) ∙ updated_set xs k f y few

-- place by place ---------------------------------------------------------------------------------------------------

-- from the k-th place on, one by one
abbrev pub behind : {A : Type 0} → ℕ → (A → A → A) → List A → List A → List A
behind zero f xs ys = by_ones f xs ys
behind (suc k) f [] ys = []
behind (suc k) f (x ∷ xs) ys = x ∷ behind k f xs ys

behind_one : {A : Type 0} (k : ℕ) (f : A → A → A) (xs : List A) (y : A) (ys : List A)
    → behind k f xs (y ∷ ys) ≡ behind (suc k) f (updated k (λ x. f x y) xs) ys
behind_one zero f [] y ys = refl
behind_one zero f (x ∷ xs) y ys = refl
behind_one (suc k) f [] y ys = refl
behind_one (suc k) f (x ∷ xs) y ys = ap (λ (zs : List _). x ∷ zs) (behind_one k f xs y ys)

behind_none : {A : Type 0} (k : ℕ) (f : A → A → A) (xs : List A) → behind k f xs [] ≡ xs
behind_none zero f [] = refl
behind_none zero f (x ∷ xs) = refl
behind_none (suc k) f [] = refl
behind_none (suc k) f (x ∷ xs) = ap (λ (zs : List _). x ∷ zs) (behind_none k f xs)

pub places_kept : {A : Type 0} (f : A → A → A) (x : ℕ) (items : List A) (d : A) (old now new : List A) → x < length items
    → new ≡ updated x (λ i. f i (get_or items x d)) now → behind x f now (drop x items) ≡ by_ones f old items
    → behind (x + 1) f new (drop (x + 1) items) ≡ by_ones f old items
places_kept {A} f x items d old now new few is rest =
    let taken : drop x items ≡ get_or items x d ∷ drop (suc x) items = drop-cons items x d few in
    let before = subst (λ (ys : List A). behind x f now ys ≡ by_ones f old items) taken rest in
    let after = sym (behind_one x f now (get_or items x d) (drop (suc x) items)) ∙ before in
    let named = subst (λ (xs : List A). behind (suc x) f xs (drop (suc x) items) ≡ by_ones f old items) (sym is) after in
    let next : suc x ≡ x + 1 = omega arith in
    subst (λ (y : ℕ). behind y f new (drop y items) ≡ by_ones f old items) next named

-- with the element that was read
pub places_read : {A : Type 0} (f : A → A → A) (x : ℕ) (items : List A) (y : A) (old now new : List A) → x < length items → y ≡ get_or items x y
    → new ≡ updated x (λ i. f i y) now → behind x f now (drop x items) ≡ by_ones f old items
    → behind (x + 1) f new (drop (x + 1) items) ≡ by_ones f old items
places_read {A} f x items y old now new few e is rest =
    places_kept f x items y old now new few (is ∙ ap (λ (z : A). updated x (λ i. f i z) now) e) rest

pub places_done : {A : Type 0} (f : A → A → A) (x : ℕ) (items old now : List A) → length items ≤ x
    → behind x f now (drop x items) ≡ by_ones f old items → now ≡ by_ones f old items
places_done {A} f x items old now end rest =
    sym (behind_none x f now) ∙ subst (λ (ys : List A). behind x f now ys ≡ by_ones f old items) (drop_all items x end) rest

pub one_more_place : {A : Type 0} (n : ℕ) (x : A) (old new : List A) → old ≡ replicate n x → new ≡ old ++ x ∷ [] → new ≡ replicate (n + 1) x
one_more_place {A} n x old new e d =
    let next : suc n ≡ n + 1 = omega arith in
    d ∙ ap (λ (xs : List A). xs ++ x ∷ []) e ∙ by_count n ∙ ap (λ (m : ℕ). replicate m x) next
  where
    by_count : (m : ℕ) → replicate m x ++ x ∷ [] ≡ replicate (suc m) x
    by_count zero = refl
    by_count (suc m) = ap (λ (xs : List A). x ∷ xs) (by_count m)
