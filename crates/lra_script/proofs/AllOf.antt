-- A list of answers, one for each element, or none: what a loop that pushes them, and leaves at the first that is none, has so far.
use Rattle.std.proofs.Common.{◌≡◌, ◌<◌, ◌≤◌, ◌+◌, ℕ, List, [], ◌∷◌, ◌++◌, length, get_or, drop, map, refl, ap, sym, ◌∙◌, add-one, append_assoc, append-nil, Option, Some, None}
use Rattle.std.proofs.{Math.Seq.drop-cons, lemmas.List.drop_all}
use Rattle.lra_script.specs.LineForms.{all_of, with_first}

-- the answers so far before those of the rest
abbrev pub onto : {C : Type 0} → List C → Option (List C) → Option (List C)
onto xs None = None
onto xs (Some ys) = Some (xs ++ ys)

pub onto_nil : {C : Type 0} (r : Option (List C)) → onto [] r ≡ r
onto_nil None = refl
onto_nil (Some ys) = refl

onto_more : {C : Type 0} (xs : List C) (c : C) (r : Option (List C)) → onto (xs ++ c ∷ []) r ≡ onto xs (with_first (Some c) r)
onto_more xs c None = refl
onto_more xs c (Some ys) = ap Some (append_assoc xs (c ∷ []) ys)

pub rest_at : {X B : Type 0} (v : X → B) (items : List X) (i : ℕ) (d x : X) → i < length items → x ≡ get_or items i d → map v (drop i items) ≡ v x ∷ map v (drop (i + 1) items)
rest_at v items i d x h e = rw (drop-cons items i d h, ← e, add-one) refl

pub all_later : {X B C : Type 0} (v : X → B) (f : B → Option C) (items : List X) (i : ℕ) (d x : X) (c : C) (xs more : List C) (all : Option (List C)) → i < length items → x ≡ get_or items i d →
    f (v x) ≡ Some c
    → more ≡ xs ++ c ∷ [] → onto xs (all_of f (map v (drop i items))) ≡ all → onto more (all_of f (map v (drop (i + 1) items))) ≡ all
all_later v f items i d x c xs more all h e a m before =
    ap (λ ys. onto ys (all_of f (map v (drop (i + 1) items)))) m
    ∙ onto_more xs c (all_of f (map v (drop (i + 1) items)))
    ∙ ap (λ o. onto xs (with_first o (all_of f (map v (drop (i + 1) items))))) (sym a)
    ∙ ap (λ l. onto xs (all_of f l)) (sym (rest_at v items i d x h e))
    ∙ before

pub none_here : {X B C : Type 0} (v : X → B) (f : B → Option C) (items : List X) (i : ℕ) (d x : X) (xs : List C) (all : Option (List C)) → i < length items → x ≡ get_or items i d → f (v x) ≡ None
    → onto xs (all_of f (map v (drop i items))) ≡ all → None ≡ all
none_here v f items i d x xs all h e a before =
    ap (λ o. onto xs (with_first o (all_of f (map v (drop (i + 1) items))))) (sym a)
    ∙ ap (λ l. onto xs (all_of f l)) (sym (rest_at v items i d x h e))
    ∙ before

pub all_done : {X B C : Type 0} (v : X → B) (f : B → Option C) (items : List X) (i : ℕ) (xs : List C) (all : Option (List C)) → length items ≤ i → onto xs (all_of f (map v (drop i items))) ≡ all →
    Some xs ≡ all
all_done v f items i xs all h before =
    ap Some (sym (append-nil xs)) ∙ ap (λ l. onto xs (all_of f (map v l))) (sym (drop_all i items h)) ∙ before
