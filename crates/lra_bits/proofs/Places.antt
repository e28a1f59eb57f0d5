-- Places of values that are true, and rows that are true wherever two others are, by the columns of the matrix.
use Rattle.std.proofs.Common.{◌≡◌, ◌≢◌, ℕ, ◌+◌, ◌-◌, ◌*◌, ◌<◌, ◌≤◌, Bool, true, false, List, [], ◌∷◌, ◌++◌, length, get_or, Option, Some, None, refl, ap, sym, subst, ◌∙◌, arith, inl, inr}
use Rattle.std.proofs.{lemmas.Bool.and_parts, lemmas.List.get_or_past, lemmas.List.get_or_append_left, lemmas.List.length-append}
use Rattle.std.proofs.{lemmas.Bool.cases_eq, lemmas.Bool.cases_lt, lemmas.Bool.eq-eqb, lemmas.Bool.eqb-true, lemmas.Nat.Bits.bit_at-zero}
use Rattle.std.specs.{Int.bit_at, List.All, Prelude.◌&&◌, Prelude.◌==◌, Prelude.min}
use Rattle.lra_bits.specs.Matrix.{Matrix, IsCommon, TellsCommon, TellsWithin}
use Rattle.lra_bits.specs.{Transposed.AreColumns, TruthValues.value_at, TruthValues.both, TruthValues.ArePlaces, TruthValues.IsSubset}
use Rattle.lra_bits.proofs.Pairs.{both_value}

false_not : {b : Bool} → b ≡ false → b ≡ true → ⊥
false_not f t = never (sym f ∙ t)
  where
    never : false ≡ true → ⊥
    never q = cc

-- ---- the end of a list
at_left : {X : Type 0} (xs : List X) (x d : X) (i : ℕ) → i < length xs → get_or (xs ++ x ∷ []) i d ≡ get_or xs i d
at_left xs x d i h = get_or_append_left xs (x ∷ []) d i h

at_last : {X : Type 0} (xs : List X) (x d : X) (i : ℕ) → i ≡ length xs → get_or (xs ++ x ∷ []) i d ≡ x
at_last [] x d i e = ap (λ j. get_or (x ∷ []) j d) e
at_last (y ∷ xs) x d i e = ap (λ j. get_or (y ∷ (xs ++ x ∷ [])) j d) e ∙ at_last xs x d (length xs) refl

-- ---- places
-- of the first n places those with a value that is true, but for the bits that are left of the word at `at`
pub record ArePlacesBut (values : List Bool) (n at left : ℕ) (places : List ℕ) : Type 0 where
  pub inside : All (λ c. c < n) places
  pub each : (i : ℕ) → i < length places → value_at values (get_or places i 0) ≡ true
  pub whole : (c : ℕ) → c < n → value_at values c ≡ true → ((j : ℕ) → j < 64 → c ≡ at * 64 + j → bit_at left j ≢ 1) → (i : ℕ) × (i < length places) × (get_or places i 0 ≡ c)

pub all_left : (values : List Bool) (count at word : ℕ) (places : List ℕ) → ((j : ℕ) → j < 64 → value_at values (at * 64 + j) ≡ (bit_at word j == 1)) →
    ArePlaces values (min count (at * 64)) places → ArePlacesBut values (min count (at * 64 + 64)) at word places
all_left values count at word places same a = record {
  inside = λ k d l. omega (arith, a.inside k d l);
  each = a.each;
  whole = λ c l v none. elim (cases_lt c (at * 64)) [
    | inl m ↦ a.whole c (omega (arith, l, m)) v
    | inr g ↦
        let j = c - at * 64 in
        let e : at * 64 + j ≡ c = omega (arith, g) in
        let small : j < 64 = omega (arith, l, g) in
        absurd (none j small (sym e) (eqb-true (bit_at word j) 1 (sym (same j small) ∙ ap (value_at values) e ∙ v)))
  ];
}

-- the lowest bit that is left becomes a place
pub one_fewer : (values : List Bool) (count at left less t : ℕ) (places new : List ℕ) → t < 64 → at * 64 + t < count → value_at values (at * 64 + t) ≡ true →
    ((j : ℕ) → j < 64 → j ≢ t → bit_at less j ≡ bit_at left j) → new ≡ places ++ (at * 64 + t) ∷ [] →
    ArePlacesBut values (min count (at * 64 + 64)) at left places → ArePlacesBut values (min count (at * 64 + 64)) at less new
one_fewer values count at left less t places new small below true_there same e a = subst (ArePlacesBut values (min count (at * 64 + 64)) at less) (sym e) (record {
  inside = λ k d l. elim (cases_lt k (length places)) [
    | inl m ↦ omega (arith, at_left places (at * 64 + t) d k m, a.inside k d m)
    | inr g ↦ omega (arith, at_last places (at * 64 + t) d k (omega (arith, g, l, long)), small, below)
  ];
  each = λ i l. elim (cases_lt i (length places)) [
    | inl m ↦ ap (value_at values) (at_left places (at * 64 + t) 0 i m) ∙ a.each i m
    | inr g ↦ ap (value_at values) (at_last places (at * 64 + t) 0 i (omega (arith, g, l, long))) ∙ true_there
  ];
  whole = λ c l v none. elim (cases_eq c (at * 64 + t)) [
    | inl s ↦ (length places, omega (arith, long), at_last places (at * 64 + t) 0 (length places) refl ∙ sym s)
    | inr n ↦
        let w = a.whole c l v (λ j h q one. none j h q (same j h (λ r. n (omega (arith, q, r))) ∙ one)) in
        (w.0, omega (arith, w.1, long), at_left places (at * 64 + t) 0 w.0 w.1 ∙ w.2)
  ];
})
  where
    long : length (places ++ (at * 64 + t) ∷ []) ≡ length places + 1
    long = length-append places ((at * 64 + t) ∷ [])

pub none_left : (values : List Bool) (n at left : ℕ) (places : List ℕ) → ((c j : ℕ) → c < n → j < 64 → c ≡ at * 64 + j → bit_at left j ≢ 1)
    → ArePlacesBut values n at left places → ArePlaces values n places
none_left values n at left places none a = record {
  inside = a.inside;
  each = a.each;
  whole = λ c l v. a.whole c l v (λ j. none c j l);
}

pub zero_left : (values : List Bool) (n at left : ℕ) (places : List ℕ) → left ≡ 0 → ArePlacesBut values n at left places → ArePlaces values n places
zero_left values n at left places z = none_left values n at left places (λ c j _ _ _ one. absurd (omega (arith, one, ap (λ x. bit_at x j) z ∙ bit_at-zero j)))

-- the bits that are left stand past the end
pub past_left : (values : List Bool) (count at left t : ℕ) (places : List ℕ) → ((j : ℕ) → j < t → bit_at left j ≡ 0) → count ≤ at * 64 + t →
    ArePlacesBut values (min count (at * 64 + 64)) at left places → ArePlaces values (min count (at * 64 + 64)) places
past_left values count at left t places lowest past = none_left values (min count (at * 64 + 64)) at left places
    (λ c j l _ q one. elim (cases_lt j t) [
      | inl m ↦ absurd (omega (arith, one, lowest j m))
      | inr g ↦ absurd (omega (arith, l, q, g, past))
    ])

pub next_word : (values : List Bool) (count at : ℕ) (places : List ℕ) → ArePlaces values (min count (at * 64 + 64)) places → ArePlaces values (min count ((at + 1) * 64)) places
next_word values count at places a = let e : min count (at * 64 + 64) ≡ min count ((at + 1) * 64) = omega arith in subst (λ (n : ℕ). ArePlaces values n places) e a

pub true_bit : (values : List Bool) (at word left t : ℕ) → ((j : ℕ) → j < 64 → value_at values (at * 64 + j) ≡ (bit_at word j == 1)) → ((j : ℕ) → j < 64 → bit_at left j ≡ 1 → bit_at word j ≡ 1) →
    t < 64 → bit_at left t ≡ 1 → value_at values (at * 64 + t) ≡ true
true_bit values at word left t same within small one = same t small ∙ eq-eqb (bit_at word t) 1 (within t small one)

pub still_within : (word left less t : ℕ) → bit_at less t ≡ 0 → ((j : ℕ) → j < 64 → j ≢ t → bit_at less j ≡ bit_at left j) → ((j : ℕ) → j < 64 → bit_at left j ≡ 1 → bit_at word j ≡ 1) →
    (j : ℕ) → j < 64 → bit_at less j ≡ 1 → bit_at word j ≡ 1
still_within word left less t zero same within j h one = elim (cases_eq j t) [
  | inl e ↦ absurd (omega (arith, one, ap (bit_at less) e ∙ zero))
  | inr n ↦ within j h (sym (same j h n) ∙ one)
]

-- ---- a row that is true wherever two others are
module _ (m columns : Matrix) (places : List ℕ) (up down : ℕ) (d : List Bool) (ed : d ≡ get_or m.rows down []) (inside : up < length m.rows) (ld : length d ≡ m.width)
    (equal : All (λ r. length r ≡ m.width) m.rows) (all : length columns.rows ≡ m.width) (are_some : AreColumns m (length columns.rows) columns)
    (tight_some : ArePlaces (get_or m.rows up []) (length columns.rows) places) where
  abbrev u : List Bool
  u = get_or m.rows up []

  lu : length u ≡ m.width
  lu = equal up [] inside

  are : AreColumns m m.width columns
  are = subst (λ (x : ℕ). AreColumns m x columns) all are_some

  tight : ArePlaces u m.width places
  tight = subst (λ (x : ℕ). ArePlaces u x places) all tight_some

  common_subset : (k : ℕ) → IsCommon columns places d (length places) k → IsSubset (both u d) (get_or m.rows k [])
  common_subset k c j t =
      let two = and_parts (value_at u j) (value_at d j) (sym (both_value u d j (lu ∙ sym ld)) ∙ t) in
      elim (cases_lt j m.width) [
        | inl l ↦
            let w = tight.whole j l two.0 in
            sym (are.each j k l) ∙ ap (λ (x : ℕ). value_at (get_or columns.rows x []) k) (sym w.2) ∙ c w.0 w.1 (ap (value_at d) w.2 ∙ two.1)
        | inr g ↦ absurd (false_not (get_or_past u j false (omega (arith, g, lu))) two.0)
      ]

  subset_common : (k : ℕ) → IsSubset (both u d) (get_or m.rows k []) → IsCommon columns places d (length places) k
  subset_common k s i l t =
      let c = get_or places i 0 in
      are.each c k (tight.inside i 0 l) ∙ s c (both_value u d c (lu ∙ sym ld) ∙ ap (λ x. x && value_at d c) (tight.each i l) ∙ t)

  pub within_by_columns : (r : Option ℕ) → TellsCommon columns places d up down r → TellsWithin m up down r
  within_by_columns None none = λ k l a b s. none k (omega (arith, l, are.width)) (omega (arith, l, are.width)) a b
      (subset_common k (subst (λ (x : List Bool). IsSubset (both u x) (get_or m.rows k [])) (sym ed) s))
  within_by_columns (Some k) h = (omega (arith, h.0, are.width), h.1, h.2, subst (λ (x : List Bool). IsSubset (both u x) (get_or m.rows k [])) ed (common_subset k h.3))

  pub places_inside : All (λ c. c < length columns.rows) places
  places_inside k x l = omega (arith, tight.inside k x l, are.height)

  pub places_marked : All (λ c. c < length d) places
  places_marked k x l = omega (arith, tight.inside k x l, ld)
