-- What stands at a place of a list, and what is in a list that is made of others.
use Rattle.std.proofs.Common.{◌≡◌, ◌<◌, ℕ, zero, suc, List, [], ◌∷◌, length, Some, inl, inr, refl, arith}
use Rattle.std.proofs.{lemmas.List.Elements.Contains-append_cases, lemmas.Option.none-some, lemmas.Option.slice_get_within, lemmas.Option.get_or_from_slice_get}
use Rattle.std.specs.List.{AllByRecursion, Contains, flat_map, slice_get}
use Rattle.lra_linear_spec.proofs.Membership.{contains_none, contains_head, contains_tail}

-- ---- at a place
pub there_within : {A : Type 0} (xs : List A) (i : ℕ) → i < length xs → (x : A) × (slice_get xs i ≡ Some x)
there_within [] i inside = absurd (omega arith)
there_within (x ∷ xs) zero inside = (x, refl)
there_within (x ∷ xs) (suc i) inside = there_within xs i (omega arith)

-- of a list as long something stands there too
pub also_there : {A B : Type 0} (xs : List A) (ys : List B) (i : ℕ) (x : A) → length ys ≡ length xs → slice_get xs i ≡ Some x → (y : B) × (slice_get ys i ≡ Some y)
also_there [] ys i x same at = absurd (none-some x at)
also_there (z ∷ xs) [] i x same at = absurd (omega arith)
also_there (z ∷ xs) (y ∷ ys) zero x same at = (y, refl)
also_there (z ∷ xs) (y ∷ ys) (suc i) x same at = also_there xs ys i x (omega arith) at

pub contains_at : {A : Type 0} (xs : List A) (i : ℕ) (x : A) → slice_get xs i ≡ Some x → Contains xs x
contains_at xs i x at = (i, slice_get_within xs i x at, get_or_from_slice_get xs i x x at)

-- ---- all members
pub by_recursion : {A : Type 0} (Q : A → Type 0) (xs : List A) → ((x : A) → Contains xs x → Q x) → AllByRecursion Q xs
by_recursion Q [] h = tt
by_recursion Q (x ∷ xs) h = (h x (contains_head x xs), by_recursion Q xs (λ y k. h y (contains_tail x y xs k)))

-- ---- joined lists
pub flat_map_from : {A B : Type 0} (f : A → List B) (ys : List A) (z : B) → Contains (flat_map f ys) z → (y : A) × Contains ys y × Contains (f y) z
flat_map_from f [] z there = absurd (contains_none z there)
flat_map_from f (y ∷ ys) z there = elim (Contains-append_cases (f y) (flat_map f ys) z there) [
  | inl here ↦ (y, contains_head y ys, here)
  | inr later ↦ let (x, k, h) = flat_map_from f ys z later in (x, contains_tail y x ys k, h)
]
