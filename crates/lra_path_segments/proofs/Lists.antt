-- Lists that are made of each of the ones with each of the others.
use Rattle.std.proofs.Common.{◌≡◌, List, [], ◌∷◌, ◌++◌, map, inl, inr, refl, sym, ap, ◌∙◌, subst, append_assoc, append-nil}
use Rattle.std.proofs.{lemmas.Grind.flat_map-append, lemmas.List.map-append, lemmas.List.Elements.Contains-append_left, lemmas.List.Elements.Contains-append_right}
use Rattle.std.specs.List.{Contains, flat_map}
use Rattle.lra_path_segments.proofs.Crates.lra_linear_spec.Membership.{contains_none, contains_cases, map_has}
use Rattle.lra_path_segments.specs.Segments.{each_then}

pub flat_map_has : {A B : Type 0} (f : A → List B) (ys : List A) (y : A) (z : B) → Contains ys y → Contains (f y) z → Contains (flat_map f ys) z
flat_map_has f [] y z k h = absurd (contains_none y k)
flat_map_has f (x ∷ ys) y z k h = elim (contains_cases x y ys k) [
  | inl e ↦ Contains-append_left (f x) (flat_map f ys) z (subst (λ w. Contains (f w) z) (sym e) h)
  | inr d ↦ Contains-append_right (f x) (flat_map f ys) z (flat_map_has f ys y z d h)
]

-- one of the ones with one of the others
pub pairs_have : {A B C : Type 0} (f : B → A → C) (xs : List A) (ys : List B) (x : A) (y : B) → Contains xs x → Contains ys y → Contains
    (flat_map (λ b. map (f b) xs) ys) (f y x)
pairs_have f xs ys x y h k = flat_map_has (λ b. map (f b) xs) ys y (f y x) k (map_has (f y) xs x h)

pub each_then_has : {A : Type 0} (xs ys : List (List A)) (x y : List A) → Contains xs x → Contains ys y → Contains (each_then xs ys) (x ++ y)
each_then_has xs ys x y h k = pairs_have (λ b a. a ++ b) xs ys x y h k

map_nil : {A : Type 0} (xs : List (List A)) → map (λ x. x ++ []) xs ≡ xs
map_nil [] = refl
map_nil (x ∷ xs) = ap (λ y. y ∷ map (λ z. z ++ []) xs) (append-nil x) ∙ ap (λ ys. x ∷ ys) (map_nil xs)

-- after them nothing
pub each_then_nil : {A : Type 0} (xs : List (List A)) → each_then xs ([] ∷ []) ≡ xs
each_then_nil xs = append-nil (map (λ x. x ++ []) xs) ∙ map_nil xs

map_twice : {A : Type 0} (y z : List A) (xs : List (List A)) → map (λ x. x ++ (y ++ z)) xs ≡ map (λ w. w ++ z) (map (λ x. x ++ y) xs)
map_twice y z [] = refl
map_twice y z (x ∷ xs) =
    ap (λ w. w ∷ map (λ v. v ++ (y ++ z)) xs) (sym (append_assoc x y z)) ∙ ap (λ ws. ((x ++ y) ++ z) ∷ ws) (map_twice y z xs)

pub each_then_append : {A : Type 0} (xs ys zs : List (List A)) → each_then xs (ys ++ zs) ≡ each_then xs ys ++ each_then xs zs
each_then_append xs ys zs = flat_map-append (λ y. map (λ x. x ++ y) xs) ys zs

-- one list appended to each
each_then_onto : {A : Type 0} (xs ys : List (List A)) (z : List A) → each_then xs (map (λ y. y ++ z) ys) ≡ map (λ w. w ++ z) (each_then xs ys)
each_then_onto xs [] z = refl
each_then_onto xs (y ∷ ys) z =
    ap (λ l. l ++ each_then xs (map (λ v. v ++ z) ys)) (map_twice y z xs) ∙ ap (λ l. map (λ w. w ++ z) (map (λ x. x ++ y) xs) ++ l) (each_then_onto xs ys z)
    ∙ sym (map-append (λ w. w ++ z) (map (λ x. x ++ y) xs) (each_then xs ys))

pub each_then_assoc : {A : Type 0} (xs ys zs : List (List A)) → each_then xs (each_then ys zs) ≡ each_then (each_then xs ys) zs
each_then_assoc xs ys [] = refl
each_then_assoc xs ys (z ∷ zs) =
    each_then_append xs (map (λ y. y ++ z) ys) (each_then ys zs) ∙ ap (λ l. l ++ each_then xs (each_then ys zs)) (each_then_onto xs ys z)
    ∙ ap (λ l. map (λ w. w ++ z) (each_then xs ys) ++ l) (each_then_assoc xs ys zs)
