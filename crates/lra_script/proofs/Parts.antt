-- A list of words that is cut at some of them.
use Rattle.std.proofs.Common.{◌≡◌, ℕ, Bool, true, false, cond, List, [], ◌∷◌, map, refl, ap, sym, ◌∙◌, Result, Ok, Err, IfOk, Vec, Bor, bytes_eq}
use Rattle.std.specs.{List.slice_split, List.onto_first, Prelude.codes, declared.alloc.Global.Global}
use Rattle.lra_script.specs.Views.{texts}

onto_first-texts : (w : Bor (List ℕ)) (parts : List (List (Bor (List ℕ)))) → onto_first w.now (map texts parts) ≡ map texts (onto_first w parts)
onto_first-texts w [] = refl
onto_first-texts w (part ∷ parts) = refl

cut_or_not : (b : Bool) (w : Bor (List ℕ)) (parts : List (List (Bor (List ℕ)))) (told : List (List (List ℕ))) → told ≡ map texts parts
    → cond b ([] ∷ told) (onto_first w.now told) ≡ map texts (cond b ([] ∷ parts) (onto_first w parts))
cut_or_not true w parts told e = ap (λ (t : List (List (List ℕ))). [] ∷ t) e
cut_or_not false w parts told e = ap (onto_first w.now) e ∙ onto_first-texts w parts

slice_split-texts : (p : List ℕ → Bool) (ws : List (Bor (List ℕ))) → slice_split p (texts ws) ≡ map texts (slice_split (λ w. p w.now) ws)
slice_split-texts p [] = refl
slice_split-texts p (w ∷ ws) = cut_or_not (p w.now) w (slice_split (λ w. p w.now) ws) (slice_split p (texts ws)) (slice_split-texts p ws)

texts_of_parts : (ps : List (Bor (List (Bor (List ℕ))))) → map (λ p. texts p.now) ps ≡ map texts (map (λ p. p.now) ps)
texts_of_parts [] = refl
texts_of_parts (p ∷ ps) = ap (λ (t : List (List (List ℕ))). texts p.now ∷ t) (texts_of_parts ps)

pub parts_result : {E : Type 0} (ws : List (Bor (List ℕ))) (r : Result (Vec (Bor (List (Bor (List ℕ)))) Global) E) →
    IfOk r (λ v. map (λ p. p.now) v.items ≡ slice_split (λ w. bytes_eq w.now (codes ";")) ws)
    → IfOk r (λ v. map (λ p. texts p.now) v.items ≡ slice_split (λ w. bytes_eq w (codes ";")) (texts ws))
parts_result ws (Ok v) e = texts_of_parts v.items ∙ ap (λ (parts : List (List (Bor (List ℕ)))). map texts parts) e ∙ sym (slice_split-texts (λ w. bytes_eq w (codes ";")) ws)
parts_result ws (Err f) e = tt
