-- Rows that are true wherever two others are, by their words.
use Rattle.std.proofs.Common.{◌≡◌, ◌≢◌, ℕ, ◌+◌, ◌^◌, ◌<◌, ◌≤◌, Bool, true, false, List, [], length, get_or, ap, sym, ◌∙◌, subst, arith, inl, inr}
use Rattle.std.proofs.{lemmas.Bool.cases_lt, lemmas.List.ext_get_or, lemmas.List.get_or_past, lemmas.List.get_or_default}
use Rattle.std.specs.{List.All, Prelude.IsTrue}
use Rattle.lra_bits.specs.Words.{bit_of, unpacked, words_needed, ArePacked, AreCommonWithin}
use Rattle.lra_bits.specs.{Matrix.Matrix, Matrix.IsWithin, Matrix.NoneWithin, TruthValues.both, TruthValues.IsSubset}
use Rattle.lra_bits.proofs.{Packing.length_unpacked, Packing.value_unpacked, Pairs.common_subset}

-- ---- packed values
unpacked_again : (width : ℕ) (values : List Bool) (words : List ℕ) → ArePacked values words → length values ≡ width → unpacked width words ≡ values
unpacked_again width values words p e = ext_get_or false (unpacked width words) values (length_unpacked width words ∙ sym e)
    (λ k h. value_unpacked width words k (omega (arith, h, length_unpacked width words)) ∙ p.each k)

unused_again : (width : ℕ) (values : List Bool) (words : List ℕ) → ArePacked values words → length values ≡ width → (k : ℕ) → width ≤ k → bit_of words k ≡ false
unused_again width values words p e k h = p.each k ∙ get_or_past values k false (omega (arith, h, e))

-- ---- a row of the matrix
pub row_known : (m : Matrix) (width : ℕ) (rows : List (List Bool)) (place : ℕ) (row : List Bool) → record { width = width; rows = rows } ≡ m → All (λ r. length r ≡ width) rows →
    place < length m.rows → row ≡ get_or rows place row → (row ≡ get_or m.rows place []) × (length row ≡ m.width)
row_known m width rows place row e all h is =
    let same : rows ≡ m.rows = ap (λ (x : Matrix). x.rows) e in
    let wide : width ≡ m.width = ap (λ (x : Matrix). x.width) e in
    let inside : place < length rows = omega (arith, h, ap length same) in (
      is ∙ get_or_default rows place row [] inside ∙ ap (λ (x : List (List Bool)). get_or x place []) same,
      ap length is ∙ all place row inside ∙ wide,
    )

pub within_packed : (m : Matrix) (first second place : ℕ) (xs ys zs : List Bool) (us vs ts : List ℕ) → (xs ≡ get_or m.rows first []) × (length xs ≡ m.width) →
    (ys ≡ get_or m.rows second []) × (length ys ≡ m.width) → (zs ≡ get_or m.rows place []) × (length zs ≡ m.width) →
    ArePacked xs us → ArePacked ys vs → ArePacked zs ts → All (λ x. x < 2 ^ 64) us →
    (AreCommonWithin us vs ts → IsWithin m first second place) × (IsWithin m first second place → AreCommonWithin us vs ts)
within_packed m first second place xs ys zs us vs ts ex ey ez p q r fit =
    let w = m.width in
    let s = common_subset w us vs ts xs ys zs (unpacked_again w xs us p ex.1) (unpacked_again w ys vs q ey.1) (unpacked_again w zs ts r ez.1) (p.count ∙ ap words_needed ex.1)
    (q.count ∙ ap words_needed ey.1) (r.count ∙ ap words_needed ez.1) (unused_again w xs us p ex.1) fit in
    let there : (both xs ys ≡ both (get_or m.rows first []) (get_or m.rows second [])) = ap (λ (x : List Bool). both x ys) ex.0 ∙ ap (both (get_or m.rows first [])) ey.0 in (
      (λ a. subst (λ (x : List Bool). IsSubset x (get_or m.rows place [])) there (subst (IsSubset (both xs ys)) ez.0 (s.0 a))),
      (λ b. s.1 (subst (IsSubset (both xs ys)) (sym ez.0) (subst (λ (x : List Bool). IsSubset x (get_or m.rows place [])) (sym there) b))),
    )

-- ---- one row after the other
pub not_said : {A : Type 0} (b : Bool) → b ≡ false → (A → IsTrue b) → ¬ A
not_said b f h a = never (sym f ∙ (h a))
  where
    never : false ≡ true → ⊥
    never q = cc

pub within_more : (m : Matrix) (first second k : ℕ) → NoneWithin m first second k → (k ≢ first → k ≢ second → ¬ (IsWithin m first second k)) → NoneWithin m first second (k + 1)
within_more m first second k none not i l a b = elim (cases_lt i k) [
  | inl h ↦ none i h a b
  | inr g ↦
      let e : k ≡ i = omega (arith, g, l) in
      subst (λ (x : ℕ). x ≢ first → x ≢ second → ¬ (IsWithin m first second x)) e not a b
]
