-- What is in lists that are made of others.
use Rattle.std.proofs.{Common.◌≡◌, Common.List, Common.[], Common.◌∷◌, Common.map, Common.inl, Common.inr}
use Rattle.std.specs.List.{Contains, flat_map}
use Rattle.lra_inductive_sound.proofs.Crates.lra_linear_spec.ListPlaces.{flat_map_from}
use Rattle.lra_inductive_sound.proofs.Crates.lra_linear_spec.Membership.{contains_none, contains_cases, map_from}

pub one_from : {A : Type 0} (a x : A) → Contains (a ∷ []) x → a ≡ x
one_from a x there = elim (contains_cases a x [] there) [ inl same ↦ same | inr none ↦ absurd (contains_none x none) ]

-- of each of the ones with each of the others
pub pairs_from : {A B C : Type 0} (f : B → A → C) (xs : List A) (ys : List B) (z : C) → Contains (flat_map (λ b. map (f b) xs) ys) z
    → (x : A) × (y : B) × Contains xs x × Contains ys y × (f y x ≡ z)
pairs_from f xs ys z there =
    let (y, k, h) = flat_map_from (λ b. map (f b) xs) ys z there in
    let (x, i, same) = map_from (f y) xs z h in
    (x, y, i, k, same)
