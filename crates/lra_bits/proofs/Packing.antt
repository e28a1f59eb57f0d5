-- The truth values of words, one place at a time.
use Rattle.std.proofs.Common.{◌≡◌, ◌≢◌, ℕ, ◌/◌, ◌%◌, ◌^◌, ◌*◌, ◌<◌, ◌≤◌, Bool, true, false, List, length, get_or, set, replicate, ap, sym, ◌∙◌, arith, nat_eq, bit_and, bit_or, get_or-set_same}
use Rattle.std.proofs.Common.{get_or-set_other, inl, inr}
use Rattle.std.proofs.lemmas.Nat.Bits.{shr_and_one, bit_at-zero, bit_at_set_same, bit_at_set_other, bit_at_clear_same, bit_at_clear_other}
use Rattle.std.proofs.{lemmas.Bool.cases_eq, lemmas.Bool.cases_lt, lemmas.Grind.get_or_default_zero, lemmas.List.ext_get_or, lemmas.List.get_or_past, lemmas.List.get_or-replicate}
use Rattle.std.proofs.{lemmas.List.length-replicate, lemmas.List.length-set, lemmas.List.FromFn.length-map-range_with_len, lemmas.List.FromFn.get_or-map-range_with_len, lemmas.Nat.mod_below}
use Rattle.std.specs.{Int.bit_at, Int.w64, Prelude.◌==◌, Prelude.◌-◌}
use Rattle.lra_bits.specs.{TruthValues.value_at, Words.bit_of, Words.unpacked, Words.words_needed, Words.ArePacked}

-- ---- unpacked words
pub length_unpacked : (width : ℕ) (words : List ℕ) → length (unpacked width words) ≡ width
length_unpacked width words = length-map-range_with_len (bit_of words) 0 width

pub value_unpacked : (width : ℕ) (words : List ℕ) (k : ℕ) → k < width → value_at (unpacked width words) k ≡ bit_of words k
value_unpacked width words k h = get_or-map-range_with_len (bit_of words) 0 width k k false h (omega arith)

pub place_inside : (width k n : ℕ) → k < width → n ≡ words_needed width → k / 64 < n
place_inside width k n h e = omega arith

-- a place inside the values has its word
pub bit_place : (width : ℕ) (words : List ℕ) (values : List Bool) (k n : ℕ) → unpacked width words ≡ values → k < length values → length words ≡ words_needed width → n ≡ length words → k / 64 < n
bit_place width words values k n e h m s =
    let w = sym (length_unpacked width words) ∙ ap length e in
    place_inside width k n (omega (arith, h, w)) (s ∙ m)

pub same_width : (w v : ℕ) (us vs : List ℕ) (xs ys : List Bool) → unpacked w us ≡ xs → unpacked v vs ≡ ys → length xs ≡ length ys → w ≡ v
same_width w v us vs xs ys e f h = sym (length_unpacked w us) ∙ ap length e ∙ h ∙ sym (ap length f) ∙ length_unpacked v vs

-- bits past the words are false
past_words : (words : List ℕ) (k : ℕ) → length words ≤ k / 64 → bit_of words k ≡ false
past_words words k h = ap (λ x. bit_at x (k % 64) == 1) (get_or_past words (k / 64) 0 h) ∙ ap (λ x. x == 1) (bit_at-zero (k % 64))

pub all_packed : (width : ℕ) (words : List ℕ) → length words ≡ words_needed width → ((k : ℕ) → width ≤ k → bit_of words k ≡ false) → ArePacked (unpacked width words) words
all_packed width words n u = record {
  count = n ∙ ap words_needed (sym (length_unpacked width words));
  each = λ k. elim (cases_lt k width) [
    | inl h ↦ sym (value_unpacked width words k h)
    | inr h ↦ u k (omega arith) ∙ sym (get_or_past (unpacked width words) k false (omega (arith, length_unpacked width words)))
  ];
}

-- ---- words of zeros
zero_bit : (n k : ℕ) → bit_of (replicate n 0) k ≡ false
zero_bit n k = elim (cases_lt (k / 64) n) [
  | inl h ↦ ap (λ x. bit_at x (k % 64) == 1) (get_or-replicate n (k / 64) 0 0 h) ∙ ap (λ x. x == 1) (bit_at-zero (k % 64))
  | inr h ↦ past_words (replicate n 0) k (let z : ℕ = 0 in omega (arith, length-replicate n z))
]

pub zeros_unpacked : (width n : ℕ) (words : List ℕ) → words ≡ replicate n 0 → unpacked width words ≡ replicate width false
zeros_unpacked width n words e =
    ext_get_or false (unpacked width words) (replicate width false) (length_unpacked width words ∙ sym (length-replicate width false))
    (λ i h.
    let l : i < width = omega (arith, h, length_unpacked width words) in
    value_unpacked width words i l ∙ ap (λ (x : List ℕ). bit_of x i) e ∙ zero_bit n i ∙ sym (get_or-replicate width i false false l))

pub zeros_unused : (n k : ℕ) (words : List ℕ) → words ≡ replicate n 0 → bit_of words k ≡ false
zeros_unused n k words e = ap (λ (x : List ℕ). bit_of x k) e ∙ zero_bit n k

-- ---- one place read
pub get_is : (width : ℕ) (words : List ℕ) (values : List Bool) (k x : ℕ) → unpacked width words ≡ values → k < length values → length words ≡ words_needed width → x ≡ get_or words (k / 64) x →
    nat_eq (bit_and (x / 2 ^ (k % 64)) 1) 1 ≡ value_at values k
get_is width words values k x e h m r =
    let n = sym (length_unpacked width words) ∙ ap length e in
    let l : k < width = omega (arith, h, n) in
    ap (λ y. nat_eq y 1) (shr_and_one x (k % 64) ∙ ap (λ y. bit_at y (k % 64)) (r ∙ get_or_default_zero words (k / 64) x (place_inside width k (length words) l m))) ∙
    sym (value_unpacked width words k l) ∙ ap (λ y. value_at y k) e

-- ---- one place written
-- y is the word with the truth value b at one bit
record IsPut (x y i : ℕ) (b : Bool) : Type 0 where
  here : (bit_at y i == 1) ≡ b
  there : (j : ℕ) → j < 64 → j ≢ i → bit_at y j ≡ bit_at x j

bit_same : (words : List ℕ) (x y k : ℕ) (b : Bool) → k / 64 < length words → IsPut x y (k % 64) b → bit_of (set words (k / 64) y) k ≡ b
bit_same words x y k b h p = ap (λ w. bit_at w (k % 64) == 1) (get_or-set_same words (k / 64) y 0 h) ∙ p.here

bit_other : (words : List ℕ) (x y k j : ℕ) (b : Bool) → x ≡ get_or words (k / 64) 0 → k / 64 < length words → IsPut x y (k % 64) b → j ≢ k → bit_of (set words (k / 64) y) j ≡ bit_of words j
bit_other words x y k j b r h p n = elim (cases_eq (j / 64) (k / 64)) [
  | inl e ↦
      let apart : j % 64 ≢ k % 64 = λ m. n (omega (arith, e, m)) in
      ap (λ m. bit_at (get_or (set words (k / 64) y) m 0) (j % 64) == 1) e ∙ ap (λ w. bit_at w (j % 64) == 1) (get_or-set_same words (k / 64) y 0 h) ∙
      ap (λ d. d == 1) (p.there (j % 64) (mod_below j 64 (omega arith)) apart) ∙ ap (λ w. bit_at w (j % 64) == 1) r ∙ ap (λ m. bit_at (get_or words m 0) (j % 64) == 1) (sym e)
  | inr a ↦ ap (λ w. bit_at w (j % 64) == 1) (get_or-set_other words (k / 64) (j / 64) y 0 a)
]

put_is : (width : ℕ) (words : List ℕ) (values : List Bool) (x y k : ℕ) (b : Bool) → unpacked width words ≡ values → k < length values → length words ≡ words_needed width →
    x ≡ get_or words (k / 64) 0 → IsPut x y (k % 64) b →
    unpacked width (set words (k / 64) y) ≡ set values k b
put_is width words values x y k b e h n r p =
    let w = sym (length_unpacked width words) ∙ ap length e in
    let inside : k / 64 < length words = place_inside width k (length words) (omega (arith, h, w)) n in
    ext_get_or false (unpacked width (set words (k / 64) y)) (set values k b) (length_unpacked width (set words (k / 64) y) ∙ w ∙ sym (length-set values k b))
    (λ i l.
    let m : i < width = omega (arith, l, length_unpacked width (set words (k / 64) y)) in
    value_unpacked width (set words (k / 64) y) i m ∙ elim (cases_eq i k) [
      | inl s ↦ ap (bit_of (set words (k / 64) y)) s ∙ bit_same words x y k b inside p ∙ sym (get_or-set_same values k b false h) ∙ ap (λ t. get_or (set values k b) t false) (sym s)
      | inr a ↦ bit_other words x y k i b r inside p a ∙ sym (value_unpacked width words i m) ∙ ap (λ t. value_at t i) e ∙ sym (get_or-set_other values k i b false a)
    ])

put_unused : (width : ℕ) (words : List ℕ) (x y k : ℕ) (b : Bool) → k < width → length words ≡ words_needed width → ((j : ℕ) → width ≤ j → bit_of words j ≡ false) → x ≡ get_or words (k / 64) 0 →
    IsPut x y (k % 64) b →
    (length (set words (k / 64) y) ≡ words_needed width) × ((j : ℕ) → width ≤ j → bit_of (set words (k / 64) y) j ≡ false)
put_unused width words x y k b h n u r p = (
  length-set words (k / 64) y ∙ n,
  λ j l. let apart : j ≢ k = omega (arith, h, l) in bit_other words x y k j b r (place_inside width k (length words) h n) p apart ∙ u j l,
)

-- with the bit set, and with it cleared
set_put : (x i : ℕ) → i < 64 → IsPut x (bit_or x (1 * 2 ^ i % 2 ^ 64)) i true
set_put x i h = record { here = ap (λ d. d == 1) (bit_at_set_same w64 x i h); there = λ j l n. bit_at_set_other w64 x i h j n }

clear_put : (x i : ℕ) → i < 64 → IsPut x (bit_and x (2 ^ 64 - 1 - 1 * 2 ^ i % 2 ^ 64)) i false
clear_put x i h = record { here = ap (λ d. d == 1) (bit_at_clear_same w64 x i h); there = λ j l n. bit_at_clear_other w64 x i h j l n }

module _ (width : ℕ) (words : List ℕ) (values : List Bool) (x k : ℕ) (e : unpacked width words ≡ values) (h : k < length values) (n : length words ≡ words_needed width)
    (own : x ≡ get_or words (k / 64) x) where
  inside : k < width
  inside = let w = sym (length_unpacked width words) ∙ ap length e in omega (arith, h, w)

  r : x ≡ get_or words (k / 64) 0
  r = own ∙ get_or_default_zero words (k / 64) x (place_inside width k (length words) inside n)

  pub set_is : unpacked width (set words (k / 64) (bit_or x (1 * 2 ^ (k % 64) % 2 ^ 64))) ≡ set values k true
  set_is = put_is width words values x (bit_or x (1 * 2 ^ (k % 64) % 2 ^ 64)) k true e h n r (set_put x (k % 64) (mod_below k 64 (omega arith)))

  pub clear_is : unpacked width (set words (k / 64) (bit_and x (2 ^ 64 - 1 - 1 * 2 ^ (k % 64) % 2 ^ 64))) ≡ set values k false
  clear_is = put_is width words values x (bit_and x (2 ^ 64 - 1 - 1 * 2 ^ (k % 64) % 2 ^ 64)) k false e h n r (clear_put x (k % 64) (mod_below k 64 (omega arith)))

  pub set_unused : ((j : ℕ) → width ≤ j → bit_of words j ≡ false) →
      (length (set words (k / 64) (bit_or x (1 * 2 ^ (k % 64) % 2 ^ 64))) ≡ words_needed width) × ((j : ℕ) → width ≤ j → bit_of (set words (k / 64) (bit_or x (1 * 2 ^ (k % 64) % 2 ^ 64))) j ≡ false)
  set_unused u = put_unused width words x (bit_or x (1 * 2 ^ (k % 64) % 2 ^ 64)) k true inside n u r (set_put x (k % 64) (mod_below k 64 (omega arith)))

  pub clear_unused : ((j : ℕ) → width ≤ j → bit_of words j ≡ false) →
      (length (set words (k / 64) (bit_and x (2 ^ 64 - 1 - 1 * 2 ^ (k % 64) % 2 ^ 64))) ≡ words_needed width) ×
      ((j : ℕ) → width ≤ j → bit_of (set words (k / 64) (bit_and x (2 ^ 64 - 1 - 1 * 2 ^ (k % 64) % 2 ^ 64))) j ≡ false)
  clear_unused u = put_unused width words x (bit_and x (2 ^ 64 - 1 - 1 * 2 ^ (k % 64) % 2 ^ 64)) k false inside n u r (clear_put x (k % 64) (mod_below k 64 (omega arith)))
