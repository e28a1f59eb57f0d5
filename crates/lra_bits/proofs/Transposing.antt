-- A matrix turned: the set bits of its rows, word by word, become places of its columns.
use Rattle.std.proofs.Common.{◌≡◌, ◌≢◌, ℕ, ◌+◌, ◌/◌, ◌%◌, ◌*◌, ◌<◌, ◌≤◌, Bool, true, false, List, [], length, get_or, set, replicate, ap, sym, ◌∙◌, refl, arith, inl, inr, nat_lt, get_or-set_same}
use Rattle.std.proofs.lemmas.List.{get_or_past, get_or-replicate, length-replicate, length-set}
use Rattle.std.proofs.{Common.get_or-set_other, lemmas.Bool.cases_eq, lemmas.Bool.cases_lt, lemmas.Bool.eq-eqb, lemmas.Bool.Decides.eqb_tells, lemmas.Bool.Decides.nat_tests}
use Rattle.std.proofs.{lemmas.List.Elements.All-get_or, lemmas.List.Elements.All-from_get_or, lemmas.Nat.Bits.bit_at-zero}
use Rattle.std.specs.{Int.bit_at, List.All, Prelude.◌==◌, Prelude.◌&&◌, Prelude.◌||◌, Prelude.IsTrue}
use Rattle.lra_bits.specs.{Matrix.Matrix, Transposed.AreColumns, Transposed.AreWider, Transposed.IsMarked, Transposed.is_in_word, TruthValues.value_at, Words.ArePacked}

-- ---- tests
eq_no : (a b : ℕ) → a ≢ b → (a == b) ≡ false
eq_no a b h = elim (eqb_tells a b) [
  | inl p ↦ absurd (h p.1)
  | inr p ↦ p.0
]

lt_yes : (a b : ℕ) → a < b → nat_lt a b ≡ true
lt_yes a b h = grind (arith, nat_tests)

lt_no : (a b : ℕ) → b ≤ a → nat_lt a b ≡ false
lt_no a b h = grind (arith, nat_tests)

-- a number but b is below b + 1 if it is below b
lt_same : (a b : ℕ) → a ≢ b → nat_lt a (b + 1) ≡ nat_lt a b
lt_same a b n = elim (cases_lt a b) [
  | inl h ↦ lt_yes a (b + 1) (omega (arith, h)) ∙ sym (lt_yes a b h)
  | inr h ↦ lt_no a (b + 1) (omega (arith, h, n)) ∙ sym (lt_no a b h)
]

or_false : (b : Bool) → (b || false) ≡ b
or_false true = refl
or_false false = refl

and_false : (b : Bool) → (b && false) ≡ false
and_false true = refl
and_false false = refl

-- ---- a word without one bit
pub smaller_without : (x y k : ℕ) → y ≤ x → bit_at y k ≡ 0 → bit_at x k ≡ 1 → y < x
smaller_without x y k h zero one = elim (cases_eq y x) [
  | inl e ↦ absurd (omega (arith, sym zero ∙ ap (λ z. bit_at z k) e ∙ one))
  | inr n ↦ omega (arith, h, n)
]

-- ---- marks
pub marked_none : (rows : List (List Bool)) (k : ℕ) (marks : ℕ → Bool) → ((c : ℕ) → c < length rows → marks c ≡ false) → IsMarked rows rows k marks
marked_none rows k marks none = record {
  height = refl;
  widths = λ c. refl;
  here = λ c h. rw (none c h) refl;
  others = λ c i n. refl;
}

-- one row with place k set
pub marked_one : (rows new : List (List Bool)) (at k : ℕ) (row : List Bool) → at < length rows → k < length row → row ≡ get_or rows at [] → new ≡ set rows at (set row k true) →
    IsMarked rows new k (λ c. c == at)
marked_one rows new at k row h w e n = record {
  height = ap length n ∙ length-set rows at (set row k true);
  widths = λ c. elim (cases_eq c at) [
    | inl s ↦ ap length (same c s) ∙ length-set row k true ∙ ap length (e ∙ ap (λ x. get_or rows x []) (sym s))
    | inr a ↦ ap length (other c a)
  ];
  here = λ c l. elim (cases_eq c at) [
    | inl s ↦ ap (λ (x : List Bool). value_at x k) (same c s) ∙ get_or-set_same row k true false w ∙ sym (ap (λ b. b || value_at (get_or rows c []) k) (eq-eqb c at s))
    | inr a ↦ ap (λ (x : List Bool). value_at x k) (other c a) ∙ sym (ap (λ b. b || value_at (get_or rows c []) k) (eq_no c at a))
  ];
  others = λ c i d. elim (cases_eq c at) [
    | inl s ↦ ap (λ (x : List Bool). value_at x i) (same c s) ∙ get_or-set_other row k i true false d ∙ ap (λ (x : List Bool). value_at x i) (e ∙ ap (λ x. get_or rows x []) (sym s))
    | inr a ↦ ap (λ (x : List Bool). value_at x i) (other c a)
  ];
}
  where
    same : (c : ℕ) → c ≡ at → get_or new c [] ≡ set row k true
    same c s = ap (λ x. get_or new x []) s ∙ ap (λ (x : List (List Bool)). get_or x at []) n ∙ get_or-set_same rows at (set row k true) [] h

    other : (c : ℕ) → c ≢ at → get_or new c [] ≡ get_or rows c []
    other c a = ap (λ (x : List (List Bool)). get_or x c []) n ∙ get_or-set_other rows at c (set row k true) [] a

pub marked_then : (a b d : List (List Bool)) (k : ℕ) (first second both : ℕ → Bool) → ((c : ℕ) → c < length a → both c ≡ (second c || first c)) → IsMarked a b k first → IsMarked b d k second →
    IsMarked a d k both
marked_then a b d k first second both are f s = record {
  height = s.height ∙ f.height;
  widths = λ c. s.widths c ∙ f.widths c;
  here = λ c h. s.here c (omega (arith, f.height, h)) ∙ ap (λ x. second c || x) (f.here c h) ∙ or_assoc (second c) (first c) (value_at (get_or a c []) k) ∙
      ap (λ x. x || value_at (get_or a c []) k) (sym (are c h));
  others = λ c i n. s.others c i n ∙ f.others c i n;
}
  where
    or_assoc : (x y z : Bool) → (x || (y || z)) ≡ ((x || y) || z)
    or_assoc true y z = refl
    or_assoc false y z = refl

-- ---- the bits of a word, the lowest first
in_word_zero : (word at c : ℕ) → word ≡ 0 → is_in_word word at c ≡ false
in_word_zero word at c e = ap (λ w. (c / 64 == at) && (bit_at w (c % 64) == 1)) e ∙ ap (λ b. (c / 64 == at) && (b == 1)) (bit_at-zero (c % 64)) ∙ and_false (c / 64 == at)

pub word_empty : (rows : List (List Bool)) (word at k : ℕ) → word ≡ 0 → IsMarked rows rows k (is_in_word word at)
word_empty rows word at k e = marked_none rows k (is_in_word word at) (λ c h. in_word_zero word at c e)

module _ (left less at t : ℕ) (small : t < 64) (set_bit : bit_at left t ≡ 1) (clear_bit : bit_at less t ≡ 0) (same : (j : ℕ) → j < 64 → j ≢ t → bit_at less j ≡ bit_at left j) where
  in_word_less : (c : ℕ) → is_in_word left at c ≡ (is_in_word less at c || (c == at * 64 + t))
  in_word_less c = elim (cases_eq c (at * 64 + t)) [
    | inl e ↦
        let here : (c / 64 == at) ≡ true = eq-eqb (c / 64) at (omega (arith, e, small)) in
        let bit : (bit_at left (c % 64) == 1) ≡ true = eq-eqb (bit_at left (c % 64)) 1 (ap (bit_at left) (place c e) ∙ set_bit) in
        rw (here, bit, eq-eqb c (at * 64 + t) e) (sym (or_true (bit_at less (c % 64) == 1)))
    | inr n ↦ rw (eq_no c (at * 64 + t) n) (sym (or_false (is_in_word less at c) ∙ unchanged c n))
  ]
    where
      place : (c : ℕ) → c ≡ at * 64 + t → c % 64 ≡ t
      place c e = omega (arith, e, small)

      or_true : (b : Bool) → (b || true) ≡ true
      or_true true = refl
      or_true false = refl

      unchanged : (c : ℕ) → c ≢ at * 64 + t → is_in_word less at c ≡ is_in_word left at c
      unchanged c n = elim (cases_eq (c / 64) at) [
        | inl e ↦ ap (λ b. (c / 64 == at) && (b == 1)) (same (c % 64) (omega arith) (λ q. n (omega (arith, q, e))))
        | inr a ↦ rw (eq_no (c / 64) at a) refl
      ]

  pub word_step : (rows new : List (List Bool)) (k : ℕ) → IsMarked rows new k (λ c. c == at * 64 + t) → (final : List (List Bool)) → IsMarked new final k (is_in_word less at) →
      IsMarked rows final k (is_in_word left at)
  word_step rows new k one final rest = marked_then rows new final k (λ c. c == at * 64 + t) (is_in_word less at) (is_in_word left at) (λ c h. in_word_less c) one rest

pub fewer_inside : (left less at t n : ℕ) → t < 64 → bit_at left t ≡ 1 → bit_at less t ≡ 0 → ((j : ℕ) → j < 64 → j ≢ t → bit_at less j ≡ bit_at left j) →
    ((c : ℕ) → IsTrue (is_in_word left at c) → c < n) → (c : ℕ) → IsTrue (is_in_word less at c) → c < n
fewer_inside left less at t n small one zero same all c h =
    all c (in_word_less left less at t small one zero same c ∙ ap (λ b. b || (c == at * 64 + t)) h)

pub in_word_lowest : (left at t : ℕ) → t < 64 → bit_at left t ≡ 1 → IsTrue (is_in_word left at (at * 64 + t))
in_word_lowest left at t small one =
    let here : (at * 64 + t) / 64 ≡ at = omega (arith, small) in
    let place : (at * 64 + t) % 64 ≡ t = omega (arith, small) in
    rw (eq-eqb ((at * 64 + t) / 64) at here, eq-eqb (bit_at left ((at * 64 + t) % 64)) 1 (ap (bit_at left) place ∙ one)) refl

pub wider_still : (old new : List (List Bool)) (k : ℕ) (marks : ℕ → Bool) → IsMarked old new k marks → AreWider k old → AreWider k new
wider_still old new k marks m w c h = omega (arith, w c (omega (arith, h, m.height)), m.widths c)

-- ---- a row, one word after the other
pub places_start : (rows : List (List Bool)) (k at : ℕ) (row : List Bool) → at ≡ 0 → IsMarked rows rows k (λ c. nat_lt (c / 64) at && value_at row c)
places_start rows k at row e = marked_none rows k (λ c. nat_lt (c / 64) at && value_at row c) (λ c h. rw (lt_no (c / 64) at (omega (arith, e))) refl)

-- the places of the words so far, and those of one word more
pub places_more : (rows mid new : List (List Bool)) (k at word : ℕ) (row : List Bool) (words : List ℕ) → ArePacked row words → word ≡ get_or words at 0 →
    IsMarked mid new k (is_in_word word at) → IsMarked rows mid k (λ c. nat_lt (c / 64) at && value_at row c) → IsMarked rows new k (λ c. nat_lt (c / 64) (at + 1) && value_at row c)
places_more rows mid new k at word row words p e one f =
    marked_then rows mid new k (λ c. nat_lt (c / 64) at && value_at row c) (is_in_word word at) (λ c. nat_lt (c / 64) (at + 1) && value_at row c) (λ c h. split c) f one
  where
    split : (c : ℕ) → (nat_lt (c / 64) (at + 1) && value_at row c) ≡ (is_in_word word at c || (nat_lt (c / 64) at && value_at row c))
    split c = elim (cases_eq (c / 64) at) [
      | inl s ↦
          let bit : (bit_at word (c % 64) == 1) ≡ value_at row c = ap (λ x. bit_at x (c % 64) == 1) (e ∙ ap (λ x. get_or words x 0) (sym s)) ∙ p.each c in
          rw (lt_yes (c / 64) (at + 1) (omega (arith, s)), lt_no (c / 64) at (omega (arith, s)), eq-eqb (c / 64) at s, bit) (sym (or_false (value_at row c)))
      | inr n ↦ rw (eq_no (c / 64) at n) (ap (λ b. b && value_at row c) (lt_same (c / 64) at n))
    ]

pub places_end : (rows new : List (List Bool)) (k at : ℕ) (row : List Bool) (words : List ℕ) → ArePacked row words → length words ≤ at → length row ≡ length rows →
    IsMarked rows new k (λ c. nat_lt (c / 64) at && value_at row c) → IsMarked rows new k (value_at row)
places_end rows new k at row words p h w m = record {
  height = m.height;
  widths = m.widths;
  here = λ c l. m.here c l ∙ ap (λ b. (b && value_at row c) || value_at (get_or rows c []) k) (lt_yes (c / 64) at (inside c (omega (arith, l, w))));
  others = m.others;
}
  where
    inside : (c : ℕ) → c < length row → c / 64 < at
    inside c l = omega (arith, l, h, p.count)

-- ---- the whole matrix, one row after the other
pub record IsPartlyTurned (m : Matrix) (n : ℕ) (columns : List (List Bool)) : Type 0 where
  pub height : length columns ≡ m.width
  pub widths : (c : ℕ) → c < length columns → length (get_or columns c []) ≡ length m.rows
  pub done : (c i : ℕ) → c < length columns → i < n → value_at (get_or columns c []) i ≡ value_at (get_or m.rows i []) c
  pub rest : (c i : ℕ) → n ≤ i → value_at (get_or columns c []) i ≡ false

pub turned_start : (m : Matrix) (columns : List (List Bool)) (count width : ℕ) → count ≡ m.width → width ≡ length m.rows → length columns ≡ count →
    All (λ row. row ≡ replicate width false) columns → IsPartlyTurned m 0 columns
turned_start m columns count width ec ew long blank = record {
  height = long ∙ ec;
  widths = λ c h. ap length (All-get_or (λ row. row ≡ replicate width false) columns c [] h blank) ∙ length-replicate width false ∙ ew;
  done = λ c i h l. absurd (omega (arith, l));
  rest = λ c i h. elim (cases_lt c (length columns)) [
    | inl l ↦ ap (λ (x : List Bool). value_at x i) (All-get_or (λ row. row ≡ replicate width false) columns c [] l blank) ∙ blank_value width i
    | inr g ↦ ap (λ (x : List Bool). value_at x i) (get_or_past columns c [] g)
  ];
}
  where
    blank_value : (n i : ℕ) → value_at (replicate n false) i ≡ false
    blank_value n i = elim (cases_lt i n) [
      | inl l ↦ get_or-replicate n i false false l
      | inr g ↦ get_or_past (replicate n false) i false (omega (arith, g, length-replicate n false))
    ]

pub turned_more : (m : Matrix) (n : ℕ) (old new : List (List Bool)) (row : List Bool) → row ≡ get_or m.rows n [] → IsMarked old new n (value_at row) →
    IsPartlyTurned m n old → IsPartlyTurned m (n + 1) new
turned_more m n old new row e k t = record {
  height = k.height ∙ t.height;
  widths = λ c h. k.widths c ∙ t.widths c (omega (arith, h, k.height));
  done = λ c i h l. elim (cases_eq i n) [
    | inl s ↦
        let inside : c < length old = omega (arith, h, k.height) in
        ap (value_at (get_or new c [])) s ∙ k.here c inside ∙ ap (λ b. value_at row c || b) (t.rest c n (omega arith)) ∙ or_false (value_at row c) ∙
        ap (λ (x : List Bool). value_at x c) (e ∙ ap (λ x. get_or m.rows x []) (sym s))
    | inr a ↦ k.others c i a ∙ t.done c i (omega (arith, h, k.height)) (omega (arith, l, a))
  ];
  rest = λ c i h. k.others c i (omega (arith, h)) ∙ t.rest c i (omega (arith, h));
}

pub turned_end : (m : Matrix) (n width : ℕ) (columns : List (List Bool)) → width ≡ length m.rows → length m.rows ≤ n → IsPartlyTurned m n columns →
    AreColumns m m.width (record { width = width; rows = columns })
turned_end m n width columns e h t = record {
  width = e;
  height = t.height;
  each = λ c k l. elim (cases_lt k n) [
    | inl i ↦ t.done c k (omega (arith, l, t.height)) i
    | inr g ↦ t.rest c k g ∙ sym (ap (λ (x : List Bool). value_at x c) (get_or_past m.rows k [] (omega (arith, g, h))))
  ];
}

pub turned_widths : (m : Matrix) (n width : ℕ) (columns : List (List Bool)) → width ≡ length m.rows → IsPartlyTurned m n columns → All (λ row. length row ≡ width) columns
turned_widths m n width columns e t = All-from_get_or (λ row. length row ≡ width) columns [] (λ c h. t.widths c h ∙ sym e)

pub turned_wider : (m : Matrix) (n : ℕ) (columns : List (List Bool)) → n < length m.rows → IsPartlyTurned m n columns → AreWider n columns
turned_wider m n columns l t c h = omega (arith, l, t.widths c h)
