-- Lists whose elements all differ.
use Rattle.std.proofs.Common.{◌≡◌, ℕ, zero, suc, ◌+◌, ◌≤◌, List, [], ◌∷◌, ◌++◌, length, Some, slice_get, ◌⊎◌, inl, inr, refl, sym, ap, subst, arith, length-append}
use Rattle.std.proofs.lemmas.Option.{same_Some, none-some}
use Rattle.std.specs.{List.range_with_len, List.flat_map, Prelude.⊤}

abbrev pub IsIn : {A : Type 0} → A → List A → Type 0
IsIn x [] = ⊥
IsIn x (y ∷ ys) = (x ≡ y) ⊎ IsIn x ys

abbrev pub AllDiffer : {A : Type 0} → List A → Type 0
AllDiffer [] = ⊤
AllDiffer (x ∷ xs) = (IsIn x xs → ⊥) × AllDiffer xs

pub in_left : {A : Type 0} (x : A) (xs ys : List A) → IsIn x xs → IsIn x (xs ++ ys)
in_left x [] ys i = absurd i
in_left x (y ∷ xs) ys (inl e) = inl e
in_left x (y ∷ xs) ys (inr i) = inr (in_left x xs ys i)

pub in_right : {A : Type 0} (x : A) (xs ys : List A) → IsIn x ys → IsIn x (xs ++ ys)
in_right x [] ys i = i
in_right x (y ∷ xs) ys i = inr (in_right x xs ys i)

pub in_either : {A : Type 0} (x : A) (xs ys : List A) → IsIn x (xs ++ ys) → IsIn x xs ⊎ IsIn x ys
in_either x [] ys i = inr i
in_either x (y ∷ xs) ys (inl e) = inl (inl e)
in_either x (y ∷ xs) ys (inr i) = elim (in_either x xs ys i) [ inl j ↦ inl (inr j) | inr j ↦ inr j ]

pub differ_join : {A : Type 0} (xs ys : List A) → AllDiffer xs → AllDiffer ys → ((x : A) → IsIn x xs → IsIn x ys → ⊥) → AllDiffer (xs ++ ys)
differ_join [] ys d e h = e
differ_join (x ∷ xs) ys d e h = (
  λ i. elim (in_either x xs ys i) [ inl j ↦ d.0 j | inr j ↦ h x (inl refl) j ],
  differ_join xs ys d.1 e (λ y i j. h y (inr i) j),
)

pub differ_left : {A : Type 0} (xs ys : List A) → AllDiffer (xs ++ ys) → AllDiffer xs
differ_left [] ys d = tt
differ_left (x ∷ xs) ys d = (λ i. d.0 (in_left x xs ys i), differ_left xs ys d.1)

pub differ_right : {A : Type 0} (xs ys : List A) → AllDiffer (xs ++ ys) → AllDiffer ys
differ_right [] ys d = d
differ_right (x ∷ xs) ys d = differ_right xs ys d.1

pub differ_apart : {A : Type 0} (xs ys : List A) → AllDiffer (xs ++ ys) → (x : A) → IsIn x xs → IsIn x ys → ⊥
differ_apart [] ys d x i j = i
differ_apart (y ∷ xs) ys d x (inl e) j = d.0 (in_right y xs ys (subst (λ z. IsIn z ys) e j))
differ_apart (y ∷ xs) ys d x (inr i) j = differ_apart xs ys d.1 x i j

pub in_range : (x a n : ℕ) → IsIn x (range_with_len a n) → a ≤ x
in_range x a zero i = absurd i
in_range x a (suc n) (inl e) = omega arith
in_range x a (suc n) (inr i) = let h = in_range x (a + 1) n i in omega arith

pub differ_range : (a n : ℕ) → AllDiffer (range_with_len a n)
differ_range a zero = tt
differ_range a (suc n) = (λ i. let h = in_range a (a + 1) n i in absurd (omega arith), differ_range (a + 1) n)

-- the pieces of a list whose elements all differ
pub differ_piece : {A B : Type 0} (f : A → List B) (xs : List A) (i : ℕ) (x : A) → AllDiffer (flat_map f xs) → slice_get xs i ≡ Some x → AllDiffer (f x)
differ_piece f [] i x d e = absurd (none-some x e)
differ_piece f (y ∷ xs) zero x d e = subst (λ z. AllDiffer (f z)) (same_Some y x e) (differ_left (f y) (flat_map f xs) d)
differ_piece f (y ∷ xs) (suc i) x d e = differ_piece f xs i x (differ_right (f y) (flat_map f xs) d) e

pub in_at : {A : Type 0} (xs : List A) (i : ℕ) (x : A) → slice_get xs i ≡ Some x → IsIn x xs
in_at [] i x e = absurd (none-some x e)
in_at (y ∷ xs) zero x e = inl (sym (same_Some y x e))
in_at (y ∷ xs) (suc i) x e = inr (in_at xs i x e)

pub in_piece : {A B : Type 0} (f : A → List B) (xs : List A) (i : ℕ) (x : A) (y : B) → slice_get xs i ≡ Some x → IsIn y (f x) → IsIn y (flat_map f xs)
in_piece f [] i x y e here = absurd (none-some x e)
in_piece f (z ∷ xs) zero x y e here = in_left y (f z) (flat_map f xs) (subst (λ w. IsIn y (f w)) (sym (same_Some z x e)) here)
in_piece f (z ∷ xs) (suc i) x y e here = in_right y (f z) (flat_map f xs) (in_piece f xs i x y e here)

pub one_place : {A : Type 0} (xs : List A) (i j : ℕ) (x : A) → AllDiffer xs → slice_get xs i ≡ Some x → slice_get xs j ≡ Some x → i ≡ j
one_place [] i j x d e f = absurd (none-some x e)
one_place (y ∷ xs) zero zero x d e f = refl
one_place (y ∷ xs) zero (suc j) x d e f = absurd (d.0 (subst (λ z. IsIn z xs) (sym (same_Some y x e)) (in_at xs j x f)))
one_place (y ∷ xs) (suc i) zero x d e f = absurd (d.0 (subst (λ z. IsIn z xs) (sym (same_Some y x f)) (in_at xs i x e)))
one_place (y ∷ xs) (suc i) (suc j) x d e f = ap suc (one_place xs i j x d.1 e f)

pub longer : (ys p : List ℕ) (b : ℕ) → ys ++ b ∷ p ≡ p → ⊥
longer ys p b e = let h = rw length-append at (ap length e) in absurd (omega arith)

tails : (x y : ℕ) (xs ys : List ℕ) → x ∷ xs ≡ y ∷ ys → xs ≡ ys
tails x y xs ys e = cc

-- after one tail, one element before it
pub one_before : (xs ys p : List ℕ) (a b : ℕ) → xs ++ a ∷ p ≡ ys ++ b ∷ p → a ≡ b
one_before [] [] p a b e = cc
one_before [] (y ∷ ys) p a b e = absurd (longer ys p b (sym (tails a y p (ys ++ b ∷ p) e)))
one_before (x ∷ xs) [] p a b e = absurd (longer xs p a (tails x b (xs ++ a ∷ p) p e))
one_before (x ∷ xs) (y ∷ ys) p a b e = one_before xs ys p a b (tails x y (xs ++ a ∷ p) (ys ++ b ∷ p) e)
