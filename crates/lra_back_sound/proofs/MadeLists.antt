-- What is so of all elements of lists that are made of others.
use Rattle.std.proofs.Common.{◌≡◌, List, [], ◌∷◌, map, flat_map, Bool, true, false, refl}
use Rattle.std.proofs.lemmas.List.Elements.{All-nil, All-cons, All-head, All-tail, All-append, All-map, All-weaker}
use Rattle.std.specs.{List.All, Prelude.if◌then◌else◌}

module _ {A B : Type 0} (Q : A → Type 0) (P : B → Type 0) where
  pub all_made : (f : A → B) → ((x : A) → Q x → P (f x)) → (xs : List A) → All Q xs → All P (map f xs)
  all_made f h xs k = All-map P f xs (All-weaker Q (λ x. P (f x)) h xs k)

  pub all_flat : (f : A → List B) → ((x : A) → Q x → All P (f x)) → (xs : List A) → All Q xs → All P (flat_map f xs)
  all_flat f h [] k = All-nil P
  all_flat f h (x ∷ xs) k = All-append P (f x) (flat_map f xs) (h x (All-head Q x xs k)) (all_flat f h xs (All-tail Q x xs k))

-- of each of the ones with each of the others
pub all_pairs : {A B C : Type 0} (Q : A → Type 0) (R : B → Type 0) (P : C → Type 0) (f : B → A → C) → ((x : A) (y : B) → Q x → R y → P (f y x))
    → (xs : List A) (ys : List B) → All Q xs → All R ys → All P (flat_map (λ y. map (f y) xs) ys)
all_pairs Q R P f h xs ys i j = all_flat R P (λ y. map (f y) xs) (λ y k. all_made Q P (f y) (λ x l. h x y l k) xs i) ys j

pub all_one : {A : Type 0} (P : A → Type 0) (x : A) → P x → All P (x ∷ [])
all_one P x h = All-cons P x [] h (All-nil P)

-- if there are any
pub all_if : {A : Type 0} (P : A → Type 0) (b : Bool) (xs ys : List A) → (b ≡ true → All P xs) → (b ≡ false → All P ys) → All P (if b then xs else ys)
all_if P true xs ys h k = h refl
all_if P false xs ys h k = k refl
