-- Elements of lists: by their places, of the first and of the others, and what holds of each.
use Rattle.std.proofs.Common.{◌≡◌, ℕ, zero, suc, List, [], ◌∷◌, ◌++◌, Some, slice_get, map, take, drop, ◌⊎◌, inl, inr, refl, ap, arith}
use Rattle.std.proofs.{lemmas.List.Elements.Contains-append_cases, lemmas.List.Elements.Contains-append_right, lemmas.Option.same_Some, lemmas.Option.none-some, lemmas.Option.slice_get-map}
use Rattle.std.specs.List.{Contains, AllByRecursion}

pub only_one : {A : Type 0} (x y : A) → Contains (x ∷ []) y → x ≡ y
only_one x y (zero, l, s) = s
only_one x y (suc k, l, s) = absurd (omega (arith, l))

pub has_one : {A : Type 0} (x y : A) → x ≡ y → Contains (x ∷ []) y
has_one x y e = (0, omega arith, e)

pub nothing_in : {A : Type 0} (x : A) → Contains [] x → ⊥
nothing_in x (k, l, s) = omega (arith, l)

pub in_cons : {A : Type 0} (x : A) (xs : List A) (y : A) → Contains (x ∷ xs) y → (x ≡ y) ⊎ Contains xs y
in_cons x xs y h = elim (Contains-append_cases (x ∷ []) xs y h) [ inl a ↦ inl (only_one x y a) | inr b ↦ inr b ]

pub in_further : {A : Type 0} (x : A) (xs : List A) (y : A) → Contains xs y → Contains (x ∷ xs) y
in_further x xs y h = Contains-append_right (x ∷ []) xs y h

-- at a place
pub same_at : {A : Type 0} (xs : List A) (k : ℕ) (x y : A) → slice_get xs k ≡ Some x → slice_get xs k ≡ Some y → x ≡ y
same_at xs k x y e f = same_Some x y (cc)

pub mapped_at : {A B : Type 0} (f : A → B) (xs : List A) (k : ℕ) (x : A) → slice_get xs k ≡ Some x → slice_get (map f xs) k ≡ Some (f x)
mapped_at f xs k x e = rw (slice_get-map f xs k, e) refl

pub split_at : {A : Type 0} (xs : List A) (k : ℕ) (x : A) → slice_get xs k ≡ Some x → xs ≡ take k xs ++ x ∷ drop (suc k) xs
split_at [] k x e = absurd (none-some x e)
split_at (y ∷ xs) zero x e = ap (λ z. z ∷ xs) (same_Some y x e)
split_at (y ∷ xs) (suc k) x e = ap (λ zs. y ∷ zs) (split_at xs k x e)

-- what holds of each element
pub all_at : {A : Type 0} (P : A → Type 0) (xs : List A) (x : A) (ys : List A) → AllByRecursion P (xs ++ x ∷ ys) → P x
all_at P [] x ys a = a.0
all_at P (z ∷ xs) x ys a = all_at P xs x ys a.1
