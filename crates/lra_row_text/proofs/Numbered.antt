-- Numbered names, one after the other.
use Rattle.std.proofs.Common.{◌≡◌, ℕ, zero, suc, ◌+◌, ◌-◌, ◌<◌, ◌≤◌, List, [], ◌∷◌, ◌++◌, length, refl, ap, ◌∙◌, sym, arith, append_assoc, append-nil}
use Rattle.std.specs.{Fmt.decimal, Prelude.codes}
use Rattle.lra_row_text.specs.Whole.{numbered_from}

pub numbered_count : (number n : ℕ) → length (numbered_from number n) ≡ n
numbered_count number zero = refl
numbered_count number (suc n) = ap suc (numbered_count (suc number) n)

pub numbered_step : (n place : ℕ) (names new all : List (List ℕ)) (name : List ℕ) → place < n → new ≡ names ++ name ∷ [] → name ≡ codes "x" ++ decimal (place + 1)
    → names ++ numbered_from (place + 1) (n - place) ≡ all → new ++ numbered_from (place + 1 + 1) (n - (place + 1)) ≡ all
numbered_step n place names new all name h e is before =
    let left : n - place ≡ suc (n - (place + 1)) = omega (arith, h) in
    let next : place + 1 + 1 ≡ suc (place + 1) = omega arith in
    let later = numbered_from (suc (place + 1)) (n - (place + 1)) in
    ap (λ (x : List (List ℕ)). x ++ numbered_from (place + 1 + 1) (n - (place + 1))) (e ∙ ap (λ (y : List ℕ). names ++ y ∷ []) is)
    ∙ ap (λ (k : ℕ). (names ++ (codes "x" ++ decimal (place + 1)) ∷ []) ++ numbered_from k (n - (place + 1))) next
    ∙ append_assoc names ((codes "x" ++ decimal (place + 1)) ∷ []) later
    ∙ ap (λ (k : ℕ). names ++ numbered_from (place + 1) k) (sym left)
    ∙ before

pub numbered_end : (n place : ℕ) (names all : List (List ℕ)) → n ≤ place → names ++ numbered_from (place + 1) (n - place) ≡ all → names ≡ all
numbered_end n place names all h before =
    let none : n - place ≡ 0 = omega (arith, h) in
    sym (append-nil names) ∙ ap (λ (k : ℕ). names ++ numbered_from (place + 1) k) (sym none) ∙ before
