-- Lists that are made of each of the ones: over those that pass a test, over others that were made, one after the
-- other.
use Rattle.std.proofs.Common.{◌≡◌, List, [], ◌∷◌, ◌++◌, map, filter, flat_map, Bool, true, false, cond, refl, sym, ap, ◌∙◌}
use Rattle.std.proofs.{lemmas.Grind.flat_map-append, lemmas.List.map-append}

module _ {A B : Type 0} where
  pub flat_same : (f g : A → List B) → ((x : A) → f x ≡ g x) → (xs : List A) → flat_map f xs ≡ flat_map g xs
  flat_same f g h [] = refl
  flat_same f g h (x ∷ xs) = ap (λ u. u ++ flat_map f xs) (h x) ∙ ap (λ u. g x ++ u) (flat_same f g h xs)

  pub flat_none : (f : A → List B) → ((x : A) → f x ≡ []) → (xs : List A) → flat_map f xs ≡ []
  flat_none f h [] = refl
  flat_none f h (x ∷ xs) = ap (λ u. u ++ flat_map f xs) (h x) ∙ flat_none f h xs

  one_passes : (f : A → List B) (x : A) (xs ys : List A) (zs : List B) (b : Bool) → flat_map f ys ≡ zs → flat_map f (cond b (x ∷ ys) ys) ≡ cond b (f x) [] ++ zs
  one_passes f x xs ys zs true h = ap (λ u. f x ++ u) h
  one_passes f x xs ys zs false h = h

  pub flat_filter : (p : A → Bool) (f : A → List B) (xs : List A) → flat_map f (filter p xs) ≡ flat_map (λ x. cond (p x) (f x) []) xs
  flat_filter p f [] = refl
  flat_filter p f (x ∷ xs) = one_passes f x xs (filter p xs) (flat_map (λ y. cond (p y) (f y) []) xs) (p x) (flat_filter p f xs)

  -- of those that pass: what each gives, or nothing
  pub flat_picked : (p : A → Bool) (f g : A → List B) → ((x : A) → cond (p x) (f x) [] ≡ g x) → (xs : List A) → flat_map f (filter p xs) ≡ flat_map g xs
  flat_picked p f g h xs = flat_filter p f xs ∙ flat_same (λ x. cond (p x) (f x) []) g h xs

  -- and of those that pass both tests
  pub flat_both : (s p : A → Bool) (f g : A → List B) → ((x : A) → cond (s x) (cond (p x) (f x) []) [] ≡ g x) → (xs : List A) → flat_map f
      (filter p (filter s xs)) ≡ flat_map g xs
  flat_both s p f g h xs = flat_filter p f (filter s xs) ∙ flat_picked s (λ x. cond (p x) (f x) []) g h xs

  -- all, or none
  pub flat_unless : (b : Bool) (f : A → List B) (xs : List A) → flat_map (λ x. cond b [] (f x)) xs ≡ cond b [] (flat_map f xs)
  flat_unless true f xs = flat_none (λ x. []) (λ x. refl) xs
  flat_unless false f xs = refl

  pub flat_two : (f : A → List B) (xs ys : List A) (us vs : List B) → flat_map f xs ≡ us → flat_map f ys ≡ vs → flat_map f (xs ++ ys) ≡ us ++ vs
  flat_two f xs ys us vs h k = flat_map-append f xs ys ∙ ap (λ u. u ++ flat_map f ys) h ∙ ap (λ u. us ++ u) k

module _ {A B C : Type 0} where
  pub flat_mapped : (f : B → List C) (m : A → B) (xs : List A) → flat_map f (map m xs) ≡ flat_map (λ x. f (m x)) xs
  flat_mapped f m [] = refl
  flat_mapped f m (x ∷ xs) = ap (λ u. f (m x) ++ u) (flat_mapped f m xs)

  pub mapped_flat : (g : B → C) (f : A → List B) (xs : List A) → map g (flat_map f xs) ≡ flat_map (λ x. map g (f x)) xs
  mapped_flat g f [] = refl
  mapped_flat g f (x ∷ xs) = map-append g (f x) (flat_map f xs) ∙ ap (λ u. map g (f x) ++ u) (mapped_flat g f xs)

  pub flat_flat : (f : B → List C) (g : A → List B) (xs : List A) → flat_map f (flat_map g xs) ≡ flat_map (λ x. flat_map f (g x)) xs
  flat_flat f g [] = refl
  flat_flat f g (x ∷ xs) = flat_map-append f (g x) (flat_map g xs) ∙ ap (λ u. flat_map f (g x) ++ u) (flat_flat f g xs)

-- of those that pass, each made into another, what they give is what others give, each made into another
pub picked_mapped : {A B C D : Type 0} (p : A → Bool) (m : A → B) (f : B → List C) (l : A → List D) (g : D → C) →
    ((x : A) → cond (p x) (f (m x)) [] ≡ map g (l x)) → (xs : List A)
    → flat_map f (map m (filter p xs)) ≡ map g (flat_map l xs)
picked_mapped p m f l g h xs =
    flat_mapped f m (filter p xs) ∙ flat_picked p (λ x. f (m x)) (λ x. map g (l x)) h xs ∙ sym (mapped_flat g l xs)

pub both_mapped : {A B C D : Type 0} (s p : A → Bool) (m : A → B) (f : B → List C) (l : A → List D) (g : D → C) →
    ((x : A) → cond (s x) (cond (p x) (f (m x)) []) [] ≡ map g (l x))
    → (xs : List A) → flat_map f (map m (filter p (filter s xs))) ≡ map g (flat_map l xs)
both_mapped s p m f l g h xs =
    flat_mapped f m (filter p (filter s xs)) ∙ flat_both s p (λ x. f (m x)) (λ x. map g (l x)) h xs ∙ sym (mapped_flat g l xs)

pub all_mapped : {A B C D : Type 0} (m : A → B) (f : B → List C) (l : A → List D) (g : D → C) → ((x : A) → f (m x) ≡ map g (l x)) → (xs : List A) → flat_map f
    (map m xs) ≡ map g (flat_map l xs)
all_mapped m f l g h xs = flat_mapped f m xs ∙ flat_same (λ x. f (m x)) (λ x. map g (l x)) h xs ∙ sym (mapped_flat g l xs)

-- nothing comes of a test
pub none_so : {A : Type 0} (b : Bool) (xs : List A) → xs ≡ [] → cond b xs [] ≡ []
none_so true xs e = e
none_so false xs e = refl

pub both_same : {A : Type 0} (b : Bool) (x : A) → cond b x x ≡ x
both_same true x = refl
both_same false x = refl
