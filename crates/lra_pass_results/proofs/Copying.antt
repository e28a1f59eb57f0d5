-- One turn of a loop that copies.
use Rattle.std.proofs.Common.{◌≡◌, ℕ, ◌+◌, ◌<◌, List, [], ◌∷◌, ◌++◌, length, take, get_or, sym, ap, ◌∙◌}
use Rattle.std.proofs.lemmas.List.{take_more}

-- one copy more
pub copied_more : {X : Type 0} (xs ys : List X) (i : ℕ) (x y : X) → ys ≡ take i xs → i < length xs → x ≡ get_or xs i x → y ≡ x
    → ys ++ y ∷ [] ≡ take (i + 1) xs
copied_more {X} xs ys i x y so_far below at same = ap (λ (zs : List X). zs ++ y ∷ []) so_far
    ∙ ap (λ (z : X). take i xs ++ z ∷ []) (same ∙ at) ∙ sym (take_more xs i x below)
