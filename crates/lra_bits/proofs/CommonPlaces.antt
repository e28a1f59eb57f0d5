-- Places where each of some rows is true, word by word.
use Rattle.std.proofs.Common.{◌≡◌, ◌≢◌, ℕ, ◌+◌, ◌-◌, ◌/◌, ◌%◌, ◌*◌, ◌^◌, ◌<◌, ◌≤◌, Bool, true, false, List, [], length, get_or, ap, sym, ◌∙◌, subst, arith, bit_and, inl, inr}
use Rattle.std.proofs.lemmas.Nat.Bits.{bit_at-lt, bit_at-zero, bit_at_and, bit_at_clear_same, bit_at_clear_other, bit_at-trailing_zeros}
use Rattle.std.proofs.{lemmas.Bool.cases_eq, lemmas.Bool.cases_lt, lemmas.Bool.eqb-true, lemmas.Nat.mod_below}
use Rattle.std.specs.{Int.bit_at, Int.w64, Int.trailing_zeros, Prelude.◌==◌, Prelude.◌↔◌, Prelude.min}
use Rattle.lra_bits.specs.{Matrix.Matrix, Matrix.IsCommon, Matrix.NoneCommon, TruthValues.value_at, Words.ArePacked}

-- ---- a word without one bit
pub cleared : (x at place j : ℕ) → place / 64 ≡ at → j < 64 → (bit_at (bit_and x (2 ^ 64 - 1 - 1 * 2 ^ (place % 64) % 2 ^ 64)) j ≡ 1) ↔ ((bit_at x j ≡ 1) × (at * 64 + j ≢ place))
cleared x at place j e h =
    let y = bit_and x (2 ^ 64 - 1 - 1 * 2 ^ (place % 64) % 2 ^ 64) in
    let small : place % 64 < 64 = mod_below place 64 (omega arith) in
    elim (cases_eq j (place % 64)) [
      | inl s ↦
          let none : bit_at y j ≡ 0 = ap (bit_at y) s ∙ bit_at_clear_same w64 x (place % 64) small in
          ((λ t. absurd (omega (arith, none, t))), (λ t. absurd (t.1 (omega (arith, s, e)))))
      | inr a ↦
          let same : bit_at y j ≡ bit_at x j = bit_at_clear_other w64 x (place % 64) small j h a in
          ((λ t. (sym same ∙ t, λ q. a (omega (arith, q, e)))), (λ t. same ∙ t.0))
    ]

pub kept : (x at place j : ℕ) → place / 64 ≢ at → j < 64 → (bit_at x j ≡ 1) ↔ ((bit_at x j ≡ 1) × (at * 64 + j ≢ place))
kept x at place j n h = ((λ t. (t, λ q. n (omega (arith, q, h)))), (λ t. t.0))

-- ---- one row after the other
common_fewer : (m : Matrix) (rows : List ℕ) (marked : List Bool) (n k : ℕ) → IsCommon m rows marked (n + 1) k → IsCommon m rows marked n k
common_fewer m rows marked n k h i l = h i (omega (arith, l))

common_more : (m : Matrix) (rows : List ℕ) (marked : List Bool) (n k : ℕ) → IsCommon m rows marked n k →
    (value_at marked (get_or rows n 0) ≡ true → value_at (get_or m.rows (get_or rows n 0) []) k ≡ true) → IsCommon m rows marked (n + 1) k
common_more m rows marked n k h last i l = elim (cases_lt i n) [
  | inl b ↦ h i b
  | inr g ↦
      let e : n ≡ i = omega (arith, g, l) in
      subst (λ (x : ℕ). value_at marked (get_or rows x 0) ≡ true → value_at (get_or m.rows (get_or rows x 0) []) k ≡ true) e last
]

-- the bits of the word at `at` are the places where the first n rows are true
abbrev pub IsCommonWord : Matrix → List ℕ → List Bool → ℕ → ℕ → ℕ → Type 0
IsCommonWord m rows marked at n word = (j : ℕ) → j < 64 → (bit_at word j ≡ 1) ↔ IsCommon m rows marked n (at * 64 + j)

pub word_skip : (m : Matrix) (rows : List ℕ) (marked : List Bool) (at n word : ℕ) (b : Bool) → b ≡ value_at marked (get_or rows n 0) → b ≡ false → IsCommonWord m rows marked at n word →
    IsCommonWord m rows marked at (n + 1) word
word_skip m rows marked at n word b eb f w j h = (
  (λ t. common_more m rows marked n (at * 64 + j) ((w j h).0 t) (λ y. absurd (never (sym (sym eb ∙ f) ∙ y)))),
  (λ c. (w j h).1 (common_fewer m rows marked n (at * 64 + j) c)),
)
  where
    never : false ≡ true → ⊥
    never q = cc

-- a bit of a word of packed values
pub packed_bit : (values : List Bool) (words : List ℕ) (at j : ℕ) → ArePacked values words → j < 64 → (bit_at (get_or words at 0) j == 1) ≡ value_at values (at * 64 + j)
packed_bit values words at j p h =
    let a : (at * 64 + j) / 64 ≡ at = omega arith in
    let b : (at * 64 + j) % 64 ≡ j = omega arith in
    sym (ap (λ n. bit_at (get_or words n 0) ((at * 64 + j) % 64) == 1) a ∙ ap (λ n. bit_at (get_or words at 0) n == 1) b) ∙ p.each (at * 64 + j)

both_ones : (a b : ℕ) → a < 2 → b < 2 → (min a b ≡ 1) ↔ ((a ≡ 1) × (b ≡ 1))
both_ones a b h k = ((λ t. (omega (arith, t, h, k), omega (arith, t, h, k))), (λ t. omega (arith, t.0, t.1)))

pub word_meet : (m : Matrix) (rows : List ℕ) (marked : List Bool) (at n word : ℕ) (row : List Bool) (words : List ℕ) → row ≡ get_or m.rows (get_or rows n 0) [] → ArePacked row words →
    (b : Bool) → b ≡ value_at marked (get_or rows n 0) → b ≡ true → IsCommonWord m rows marked at n word →
    IsCommonWord m rows marked at (n + 1) (bit_and word (get_or words at 0))
word_meet m rows marked at n word row words er p b eb tb w j h =
    let x = bit_at word j in
    let y = bit_at (get_or words at 0) j in
    let k = at * 64 + j in
    let same : (y == 1) ≡ value_at (get_or m.rows (get_or rows n 0) []) k = packed_bit row words at j p h ∙ ap (λ (r : List Bool). value_at r k) er in
    let ones = both_ones x y (bit_at-lt word j) (bit_at-lt (get_or words at 0) j) in
    let is = bit_at_and word (get_or words at 0) j in (
      (λ t. let two = ones.0 (sym is ∙ t) in common_more m rows marked n k ((w j h).0 two.0) (λ _. sym same ∙ ap (λ z. z == 1) two.1)),
      (λ c. is ∙ ones.1 ((w j h).1 (common_fewer m rows marked n k c), eqb-true y 1 (same ∙ c n (omega arith) (sym eb ∙ tb)))),
    )

-- no place of the word is common to the first rows, so none is to all
pub none_common : (m : Matrix) (rows : List ℕ) (marked : List Bool) (at n word : ℕ) → n < length rows → word ≡ 0
    → IsCommonWord m rows marked at (n + 1) word → IsCommonWord m rows marked at (length rows) 0
none_common m rows marked at n word l z w j h = (
  (λ t. absurd (omega (arith, t, bit_at-zero j))),
  (λ c. absurd (omega (arith, (w j h).1 (λ i b. c i (omega (arith, b, l))), ap (λ x. bit_at x j) z, bit_at-zero j))),
)

-- ---- one word after the other
module _ (m : Matrix) (rows : List ℕ) (marked : List Bool) (first second at word some others : ℕ) (w : IsCommonWord m rows marked at (length rows) word)
    (s : (j : ℕ) → j < 64 → (bit_at some j ≡ 1) ↔ ((bit_at word j ≡ 1) × (at * 64 + j ≢ first)))
    (o : (j : ℕ) → j < 64 → (bit_at others j ≡ 1) ↔ ((bit_at some j ≡ 1) × (at * 64 + j ≢ second))) where
  pub found : others < 2 ^ 64 → others ≢ 0 → trailing_zeros w64 others < m.width - at * 64 →
      (at * 64 + trailing_zeros w64 others < m.width) × (at * 64 + trailing_zeros w64 others ≢ first) × (at * 64 + trailing_zeros w64 others ≢ second) ×
      IsCommon m rows marked (length rows) (at * 64 + trailing_zeros w64 others)
  found f z h =
      let j = trailing_zeros w64 others in
      let lowest = bit_at-trailing_zeros w64 others (omega (arith, z)) f in
      let second_not = (o j lowest.0).0 lowest.1 in
      let first_not = (s j lowest.0).0 second_not.0 in
      (omega (arith, h), first_not.1, second_not.1, (w j lowest.0).0 first_not.0)

  -- no bit of the word that stands before this one
  none_more : (low : ℕ) → ((j : ℕ) → j < 64 → j < low → bit_at others j ≡ 0) → ((k : ℕ) → k < m.width → k < at * 64 + 64 → k < at * 64 + low) →
      NoneCommon m rows marked first second (at * 64) → NoneCommon m rows marked first second ((at + 1) * 64)
  none_more low zero before none k h i a b c = elim (cases_lt k (at * 64)) [
    | inl l ↦ none k l i a b c
    | inr g ↦
        let j = k - at * 64 in
        let e : at * 64 + j ≡ k = omega (arith, g) in
        let small : j < 64 = omega (arith, h, g) in
        let in_word = (w j small).1 (subst (λ (x : ℕ). IsCommon m rows marked (length rows) x) (sym e) c) in
        let in_some = (s j small).1 (in_word, λ q. a (sym e ∙ q)) in
        let in_others = (o j small).1 (in_some, λ q. b (sym e ∙ q)) in
        let is_zero = zero j small (omega (arith, before k i (omega (arith, h)), g)) in
        omega (arith, in_others, is_zero)
  ]

  pub none_here : others ≡ 0 → NoneCommon m rows marked first second (at * 64) → NoneCommon m rows marked first second ((at + 1) * 64)
  none_here z = none_more 64 (λ j h l. ap (λ x. bit_at x j) z ∙ bit_at-zero j) (λ k i l. l)

  pub none_inside : others < 2 ^ 64 → others ≢ 0 → m.width - at * 64 ≤ trailing_zeros w64 others → NoneCommon m rows marked first second (at * 64) →
      NoneCommon m rows marked first second ((at + 1) * 64)
  none_inside f z h =
      let lowest = bit_at-trailing_zeros w64 others (omega (arith, z)) f in
      none_more (trailing_zeros w64 others) (λ j _ l. lowest.2 j l) (λ k i l. omega (arith, i, h))
