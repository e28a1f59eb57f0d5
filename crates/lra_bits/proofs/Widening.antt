-- One more truth value after the others.
use Rattle.std.proofs.Common.{◌≡◌, ◌≢◌, ℕ, zero, suc, ◌+◌, ◌/◌, ◌%◌, ◌<◌, ◌≤◌, Bool, true, false, List, [], ◌∷◌, ◌++◌, length, get_or, set, refl, ap, sym, ◌∙◌, arith}
use Rattle.std.proofs.lemmas.List.{ext_get_or, length-append}
use Rattle.std.specs.{Int.bit_at, Prelude.◌==◌}
use Rattle.lra_bits.specs.{TruthValues.value_at, Words.bit_of, Words.unpacked, Words.words_needed}
use Rattle.lra_bits.proofs.Packing.{length_unpacked, value_unpacked, all_packed}

-- a default after a list changes nothing that is read
default_end : {X : Type 0} (xs : List X) (d : X) (k : ℕ) → get_or (xs ++ d ∷ []) k d ≡ get_or xs k d
default_end [] d zero = refl
default_end [] d (suc k) = refl
default_end (x ∷ xs) d zero = refl
default_end (x ∷ xs) d (suc k) = default_end xs d k

zero_end : (words more : List ℕ) → more ≡ words ++ 0 ∷ [] → (k : ℕ) → bit_of more k ≡ bit_of words k
zero_end words more e k =
    ap (λ (x : List ℕ). bit_of x k) e ∙ ap (λ x. bit_at x (k % 64) == 1) (default_end words 0 (k / 64))

widened : (width : ℕ) (words more : List ℕ) (values : List Bool) → unpacked width words ≡ values → length words ≡ words_needed width → ((k : ℕ) → width ≤ k → bit_of words k ≡ false) →
    ((k : ℕ) → bit_of more k ≡ bit_of words k) → unpacked (width + 1) more ≡ values ++ false ∷ []
widened width words more values e n u same =
    let long : length (values ++ false ∷ []) ≡ width + 1 = length-append values (false ∷ []) ∙ ap (λ x. x + 1) (sym (ap length e) ∙ length_unpacked width words) in
    ext_get_or false (unpacked (width + 1) more) (values ++ false ∷ []) (length_unpacked (width + 1) more ∙ sym long)
    (λ k h.
    value_unpacked (width + 1) more k (omega (arith, h, length_unpacked (width + 1) more)) ∙ same k ∙ (all_packed width words n u).each k ∙ ap (λ (t : List Bool). value_at t k) e ∙
    sym (default_end values false k))

pub widened_word : (width : ℕ) (words more : List ℕ) (values : List Bool) → unpacked width words ≡ values → length words ≡ words_needed width → ((k : ℕ) → width ≤ k → bit_of words k ≡ false) →
    more ≡ words ++ 0 ∷ [] → unpacked (width + 1) more ≡ values ++ false ∷ []
widened_word width words more values e n u m = widened width words more values e n u (zero_end words more m)

pub widened_within : (width : ℕ) (words : List ℕ) (values : List Bool) → unpacked width words ≡ values → length words ≡ words_needed width → ((k : ℕ) → width ≤ k → bit_of words k ≡ false) →
    unpacked (width + 1) words ≡ values ++ false ∷ []
widened_within width words values e n u = widened width words words values e n u (λ k. refl)

put_value : (values : List Bool) (v : Bool) → set (values ++ false ∷ []) (length values) v ≡ values ++ v ∷ []
put_value [] v = refl
put_value (x ∷ values) v = ap (λ (xs : List Bool). x ∷ xs) (put_value values v)

-- the last of the lengthened values set
pub pushed_true : (values wider new : List Bool) (last : ℕ) (v : Bool) → last ≡ length values → v ≡ true → wider ≡ values ++ false ∷ [] → new ≡ set wider last true → new ≡ values ++ v ∷ []
pushed_true values wider new last v l t w n =
    n ∙ ap (λ (x : List Bool). set x last true) w ∙ ap (λ i. set (values ++ false ∷ []) i true) l ∙ put_value values true ∙ ap (λ b. values ++ b ∷ []) (sym t)

pub pushed_value : (values wider new : List Bool) (last : ℕ) (v : Bool) → last ≡ length values → wider ≡ values ++ false ∷ [] → new ≡ set wider last v → new ≡ values ++ v ∷ []
pushed_value values wider new last v l w n =
    n ∙ ap (λ (x : List Bool). set x last v) w ∙ ap (λ i. set (values ++ false ∷ []) i v) l ∙ put_value values v

pub last_inside : (width : ℕ) (words : List ℕ) (values wider : List Bool) → unpacked width words ≡ values → wider ≡ values ++ false ∷ [] → width < length wider
last_inside width words values wider e w =
    let n : length values ≡ width = sym (ap length e) ∙ length_unpacked width words in
    omega (arith, n, ap length w ∙ length-append values (false ∷ []))

-- if the last word has room no further one is needed
pub room_left : (width : ℕ) (words : List ℕ) (values : List Bool) → unpacked width words ≡ values → length values % 64 ≢ 0 → length words ≡ words_needed width →
    ((k : ℕ) → width ≤ k → bit_of words k ≡ false) → (length words ≡ words_needed (width + 1)) × ((k : ℕ) → width + 1 ≤ k → bit_of words k ≡ false)
room_left width words values e room n u =
    let w : length values ≡ width = sym (ap length e) ∙ length_unpacked width words in
    let here : width % 64 ≢ 0 = λ z. room (ap (λ (x : ℕ). x % 64) w ∙ z) in
    (n ∙ same width here, λ k h. u k (omega (arith, h)))
  where
    same : (x : ℕ) → x % 64 ≢ 0 → words_needed x ≡ words_needed (x + 1)
    same x h = omega (arith, h)

pub fits_wider : (width : ℕ) (words : List ℕ) (values : List Bool) (most : ℕ) → unpacked width words ≡ values → length values + 1 < most → width + 1 < most
fits_wider width words values most e h = let w = sym (ap length e) ∙ length_unpacked width words in omega (arith, h, w)
