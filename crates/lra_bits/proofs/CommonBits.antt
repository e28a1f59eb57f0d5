-- How many values are true in both of two lists, by the bits of their words.
use Rattle.std.proofs.Common.{◌≡◌, ℕ, zero, suc, ◌+◌, ◌-◌, ◌*◌, ◌/◌, ◌%◌, ◌^◌, ◌<◌, ◌≤◌, Bool, true, false, cond, List, [], ◌∷◌, length, get_or, refl, ap, sym, ◌∙◌, subst, arith, ◌≢◌, min, bit_and}
use Rattle.std.proofs.lemmas.Nat.{pow_pos, mod_below, mod-pow-add, and_le_l, ones-le, ones_cat}
use Rattle.std.proofs.{Common.count_ones, Common.inl, Common.inr, lemmas.Bool.cases_eq, lemmas.Bool.cases_lt, lemmas.Bool.eqb-true, lemmas.Bool.eq-eqb, lemmas.Nat.Bits.bit_at-lt}
use Rattle.std.specs.{Int.bit_at, List.All, Prelude.◌==◌, Prelude.◌↔◌, Prelude.IsTrue}
use Rattle.lra_bits.specs.{TruthValues.value_at, TruthValues.both, TruthValues.true_count, Words.bit_of, Words.unpacked, Words.words_needed, Words.common_words, Words.common_bits, Words.ArePacked}
use Rattle.lra_bits.proofs.{CommonPlaces.packed_bit, Packing.all_packed, Pairs.common_length, Pairs.common_word, Pairs.common_is, Pairs.common_unused}
use lib.Bits.{and_step, and_self}
use lib.Count.{ones_step}

-- ---- the loop: what is left of the least number, and the bits that were counted
bits_step : (xs ys : List ℕ) (i : ℕ) → common_bits xs ys (i + 1) ≡ common_bits xs ys i + count_ones (bit_and (get_or xs i 0) (get_or ys i 0))
bits_step xs ys i = ap (common_bits xs ys) (plus_one i)
  where
    plus_one : (n : ℕ) → n + 1 ≡ suc n
    plus_one n = omega arith

-- more words, more bits
bits_grow : (xs ys : List ℕ) (i n : ℕ) → i ≤ n → common_bits xs ys i ≤ common_bits xs ys n
bits_grow xs ys i zero h = let e : i ≡ 0 = omega (arith, h) in omega (arith, ap (common_bits xs ys) e)
bits_grow xs ys i (suc n) h = elim (cases_lt n i) [
  | inl g ↦ let e : i ≡ suc n = omega (arith, g, h) in omega (arith, ap (common_bits xs ys) e)
  | inr g ↦
      let step : common_bits xs ys (suc n) ≡ common_bits xs ys n + count_ones (bit_and (get_or xs n 0) (get_or ys n 0)) = refl in
      omega (arith, step, bits_grow xs ys i n g)
]

pub bits_more : (xs ys : List ℕ) (i left least new : ℕ) → new ≡ left - count_ones (bit_and (get_or xs i 0) (get_or ys i 0)) → left ≡ least - common_bits xs ys i →
    new ≡ least - common_bits xs ys (i + 1)
bits_more xs ys i left least new e inv = omega (arith, e, inv, bits_step xs ys i)

pub bits_reached : (xs ys : List ℕ) (i left least new n : ℕ) → new ≡ left - count_ones (bit_and (get_or xs i 0) (get_or ys i 0)) → new ≡ 0 → left ≡ least - common_bits xs ys i → i < n →
    least ≤ common_bits xs ys n
bits_reached xs ys i left least new n e z inv l = omega (arith, e, z, inv, bits_step xs ys i, bits_grow xs ys (i + 1) n (omega (arith, l)))

pub bits_end : (xs ys : List ℕ) (i left least n : ℕ) → i ≡ n → left ≡ least - common_bits xs ys i → IsTrue (left == 0) ↔ (least ≤ common_bits xs ys n)
bits_end xs ys i left least n e inv =
    let same = ap (common_bits xs ys) e in
    ((λ t. omega (arith, same, inv, eqb-true left 0 t)), (λ h. eq-eqb left 0 (omega (arith, same, inv, h))))

-- ---- how many of the first n numbers pass
abbrev count_to : (ℕ → Bool) → ℕ → ℕ
count_to f zero = 0
count_to f (suc n) = count_to f n + cond (f n) 1 0

count_same : (f g : ℕ → Bool) (n : ℕ) → ((k : ℕ) → k < n → f k ≡ g k) → count_to f n ≡ count_to g n
count_same f g zero h = refl
count_same f g (suc n) h =
    ap (λ m. m + cond (f n) 1 0) (count_same f g n (λ k l. h k (omega (arith, l)))) ∙ ap (λ b. count_to g n + cond b 1 0) (h n (omega arith))

count_none : (f : ℕ → Bool) (n : ℕ) → ((k : ℕ) → f k ≡ false) → count_to f n ≡ 0
count_none f zero h = refl
count_none f (suc n) h = ap (λ b. count_to f n + cond b 1 0) (h n) ∙ ap (λ m. m + 0) (count_none f n h)

moved : (a b c d : ℕ) → a ≡ b + c → a + d ≡ b + (c + d)
moved a b c d e = omega (arith, e)

-- the first apart
count_front : (f : ℕ → Bool) (n : ℕ) → count_to f (suc n) ≡ cond (f 0) 1 0 + count_to (λ k. f (suc k)) n
count_front f zero = swapped (cond (f 0) 1 0)
  where
    swapped : (m : ℕ) → 0 + m ≡ m + 0
    swapped m = omega arith
count_front f (suc n) = moved (count_to f (suc n)) (cond (f 0) 1 0) (count_to (λ k. f (suc k)) n) (cond (f (suc n)) 1 0) (count_front f n)

-- the first m, and those after them
count_split : (f : ℕ → Bool) (m n : ℕ) → count_to f (m + n) ≡ count_to f m + count_to (λ j. f (m + j)) n
count_split f m zero = ap (count_to f) (none m) ∙ sym (none (count_to f m))
  where
    none : (m : ℕ) → m + 0 ≡ m
    none m = omega arith
count_split f m (suc n) = ap (count_to f) (one_more m n) ∙ moved (count_to f (m + n)) (count_to f m) (count_to (λ j. f (m + j)) n) (cond (f (m + n)) 1 0) (count_split f m n)
  where
    one_more : (m n : ℕ) → m + suc n ≡ suc (m + n)
    one_more m n = omega arith

-- the values of a list, and false ones after them
count_values : (values : List Bool) (n : ℕ) → length values ≤ n → true_count values ≡ count_to (value_at values) n
count_values [] n h = sym (count_none (value_at []) n (λ k. refl))
count_values (x ∷ values) zero h = absurd (omega (arith, h))
count_values (x ∷ values) (suc n) h = by_test x (true_count values) ∙ ap (λ m. cond x 1 0 + m) (count_values values n (omega (arith, h))) ∙ sym (count_front (value_at (x ∷ values)) n)
  where
    by_test : (b : Bool) (m : ℕ) → cond b (suc m) m ≡ cond b 1 0 + m
    by_test true m = omega arith
    by_test false m = omega arith

-- ---- the bits of a word
no_ones : (n : ℕ) → n < 1 → count_ones n ≡ 0
no_ones n h = omega (arith, ones-le 0 n (omega (arith, h)))

bit_ones : (b : ℕ) → b < 2 → count_ones b ≡ cond (b == 1) 1 0
bit_ones zero h = no_ones 0 (omega arith)
bit_ones (suc zero) h = let step : count_ones 1 ≡ 1 + count_ones 0 = ones_step 1 in omega (arith, step, no_ones 0 (omega arith))
bit_ones (suc (suc b)) h = absurd (omega (arith, h))

-- the lowest bit that is set goes
clear_by : (d x : ℕ) → x ≤ d → 0 < x → count_ones x ≡ suc (count_ones (bit_and x (x - 1)))
clear_by zero x h p = absurd (omega (arith, h, p))
clear_by (suc d) x h p = elim (cases_eq (x % 2) 1) [
  | inl odd ↦
      let y = bit_and x (x - 1) in
      let half : (x - 1) / 2 ≡ x / 2 = omega (arith, odd) in
      let low : min (x % 2) ((x - 1) % 2) ≡ 0 = omega (arith, odd) in
      let is : y ≡ x / 2 * 2 + 0 = and_step x (x - 1) ∙ ap (λ v. bit_and (x / 2) ((x - 1) / 2) * 2 + v) low ∙ ap (λ u. u * 2 + 0) (ap (bit_and (x / 2)) half ∙ and_self (x / 2)) in
      let last : y % 2 ≡ 0 = omega (arith, is) in
      let rest : y / 2 ≡ x / 2 = omega (arith, is) in
      omega (arith, ones_step x, ones_step y, odd, last, ap count_ones rest)
  | inr n ↦
      let even : x % 2 ≡ 0 = omega (arith, n) in
      let y = bit_and x (x - 1) in
      let z = bit_and (x / 2) (x / 2 - 1) in
      let half : (x - 1) / 2 ≡ x / 2 - 1 = omega (arith, even, p) in
      let low : min (x % 2) ((x - 1) % 2) ≡ 0 = omega (arith, even) in
      let is : y ≡ z * 2 + 0 = and_step x (x - 1) ∙ ap (λ v. bit_and (x / 2) ((x - 1) / 2) * 2 + v) low ∙ ap (λ u. u * 2 + 0) (ap (bit_and (x / 2)) half) in
      let last : y % 2 ≡ 0 = omega (arith, is) in
      let rest : y / 2 ≡ z = omega (arith, is) in
      let fewer = clear_by d (x / 2) (omega (arith, h, p)) (omega (arith, even, p)) in
      omega (arith, ones_step x, ones_step y, even, last, ap count_ones rest, fewer)
]

-- one less for each bit, down to 0
pub take_more : (number word left bits : ℕ) → bits ≢ 0 → left ≢ 0 → left - count_ones bits ≡ number - count_ones word → left - 1 - count_ones (bit_and bits (bits - 1)) ≡ number - count_ones word
take_more number word left bits some more inv = omega (arith, clear_by bits bits (omega arith) (omega (arith, some)), more, inv)

pub take_none : (number word left bits : ℕ) → left ≡ 0 → left - count_ones bits ≡ number - count_ones word → 0 ≡ number - count_ones word
take_none number word left bits z inv = omega (arith, z, inv)

pub take_end : (number word left bits : ℕ) → bits ≡ 0 → left - count_ones bits ≡ number - count_ones word → left ≡ number - count_ones word
take_end number word left bits z inv = omega (arith, ap count_ones z, no_ones 0 (omega arith), inv)

-- the first k bits
low_ones : (w k : ℕ) → count_ones (w % 2 ^ k) ≡ count_to (λ j. bit_at w j == 1) k
low_ones w zero = no_ones (w % 2 ^ 0) (mod_below w (2 ^ 0) (omega arith))
low_ones w (suc k) =
    let bit : w / 2 ^ k % 2 ^ 1 ≡ bit_at w k = refl in
    ap (λ n. count_ones (w % 2 ^ n)) (one_more k) ∙ ap count_ones (mod-pow-add w 1 k) ∙ ones_cat k (w / 2 ^ k % 2 ^ 1) (w % 2 ^ k) (mod_below w (2 ^ k) (pow_pos k)) ∙
    swapped (count_ones (w / 2 ^ k % 2 ^ 1)) (count_ones (w % 2 ^ k)) (cond (bit_at w k == 1) 1 0) (count_to (λ j. bit_at w j == 1) k)
    (ap count_ones bit ∙ bit_ones (bit_at w k) (bit_at-lt w k)) (low_ones w k)
  where
    one_more : (k : ℕ) → suc k ≡ 1 + k
    one_more k = omega arith

    swapped : (a b c d : ℕ) → a ≡ c → b ≡ d → a + b ≡ d + c
    swapped a b c d e f = omega (arith, e, f)

word_ones : (w : ℕ) → w < 2 ^ 64 → count_to (λ j. bit_at w j == 1) 64 ≡ count_ones w
word_ones w h = sym (low_ones w 64) ∙ ap count_ones (small w h)
  where
    small : (w : ℕ) → w < 2 ^ 64 → w % 2 ^ 64 ≡ w
    small w h = omega (arith, h)

-- ---- the values of words
values_ones : (values : List Bool) (us vs : List ℕ) → ArePacked values (common_words us vs) → length us ≡ length vs → All (λ x. x < 2 ^ 64) us → (n : ℕ) → n ≤ length us →
    count_to (value_at values) (n * 64) ≡ common_bits us vs n
values_ones values us vs p e fit zero h = refl
values_ones values us vs p e fit (suc n) h =
    let w = get_or (common_words us vs) n 0 in
    let x = get_or us n 0 in
    let is : w ≡ bit_and x (get_or vs n 0) = common_word us vs n e in
    let small : w < 2 ^ 64 = omega (arith, is, and_le_l x (get_or vs n 0), fit n 0 (omega (arith, h))) in
    ap (count_to (value_at values)) (one_more n) ∙ count_split (value_at values) (n * 64) 64 ∙
    ap (λ m. m + count_to (λ j. value_at values (n * 64 + j)) 64) (values_ones values us vs p e fit n (omega (arith, h))) ∙
    ap (λ m. common_bits us vs n + m) (count_same (λ j. value_at values (n * 64 + j)) (λ j. bit_at w j == 1) 64 (λ j l. sym (packed_bit values (common_words us vs) n j p l)) ∙
    word_ones w small ∙ ap count_ones is)
  where
    one_more : (n : ℕ) → suc n * 64 ≡ n * 64 + 64
    one_more n = omega arith

pub common_count : (width : ℕ) (us vs : List ℕ) (xs ys : List Bool) → unpacked width us ≡ xs → unpacked width vs ≡ ys → length us ≡ words_needed width → length vs ≡ words_needed width →
    ((k : ℕ) → width ≤ k → bit_of us k ≡ false) → All (λ x. x < 2 ^ 64) us → true_count (both xs ys) ≡ common_bits us vs (length us)
common_count width us vs xs ys e f m n u fit =
    let words = common_words us vs in
    let same : length us ≡ length vs = m ∙ sym n in
    let is : unpacked width words ≡ both xs ys = common_is width us vs xs ys e f m n words refl in
    let unused = common_unused width us vs xs ys e f m n u words refl in
    let packed : ArePacked (both xs ys) words = subst (λ (v : List Bool). ArePacked v words) is (all_packed width words unused.0 unused.1) in
    let long : length (both xs ys) ≤ length us * 64 = enough (length (both xs ys)) (length words) (length us) packed.count (common_length us vs same) in
    count_values (both xs ys) (length us * 64) long ∙ values_ones (both xs ys) us vs packed same fit (length us) (omega arith)
  where
    enough : (n words m : ℕ) → words ≡ words_needed n → words ≡ m → n ≤ m * 64
    enough n words m e f = omega (arith, e, f)
