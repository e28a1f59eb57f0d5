-- Lists whose last element is removed.
use Rattle.std.proofs.Common.{◌≡◌, ◌∙◌, ◌++◌, ◌∷◌, ◌<◌, ◌-◌, ℕ, List, [], Option, Some, None, ap, arith, length, sym, take}
use Rattle.std.proofs.{Math.Seq.take-append_seam, lemmas.List.append-nil, lemmas.List.length-append, lemmas.List.length-take-le}
use Rattle.std.specs.Prelude.{IsSome, option_to_list}

none_popped : {A : Type 0} (xs ys : List A) → xs ≡ ys ++ [] → (0 < length xs → ⊥) → ys ≡ take (length xs - 1) xs
none_popped [] ys e h = sym (append-nil ys) ∙ sym e
none_popped (x ∷ xs) ys e h = absurd (h (omega arith))

one_popped : {A : Type 0} (xs ys : List A) (v : A) → xs ≡ ys ++ v ∷ [] → ys ≡ take (length xs - 1) xs
one_popped {A = A} xs ys v e =
    let n = length-append ys (v ∷ []) in
    let fewer : length (ys ++ v ∷ []) - 1 ≡ length ys = omega (arith, n) in
    sym (ap (λ (l : List A). take (length l - 1) l) e ∙ ap (λ (k : ℕ). take k (ys ++ v ∷ [])) fewer ∙ take-append_seam ys (v ∷ []))

pub popped : {A : Type 0} (xs ys : List A) (r : Option A) → xs ≡ ys ++ option_to_list r → (0 < length xs → IsSome r) → ys ≡ take (length xs - 1) xs
popped {A = A} xs ys None e h = none_popped xs ys e (λ l. let none : IsSome {T = A} None = h l in cc)
popped {A = A} xs ys (Some v) e h = one_popped xs ys v e

-- from two lists of one length
pub as_many_left : {A B : Type 0} (xs : List A) (zs : List B) (ys : List A) (ws : List B) → ys ≡ take (length xs - 1) xs → ws ≡ take (length zs - 1) zs →
    length xs ≡ length zs → length ys ≡ length ws
as_many_left xs zs ys ws ey ew e =
    let a : length (take (length xs - 1) xs) ≡ length xs - 1 = length-take-le (length xs - 1) xs (omega arith) in
    let b : length (take (length zs - 1) zs) ≡ length zs - 1 = length-take-le (length zs - 1) zs (omega arith) in
    ap length ey ∙ a ∙ ap (λ (n : ℕ). n - 1) e ∙ sym b ∙ sym (ap length ew)
