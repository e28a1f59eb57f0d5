-- What is written is read again: lines, their numbers, the rows of points.
use Rattle.std.proofs.Common.{◌≡◌, ◌<◌, ◌≤◌, ◌+◌, ◌/◌, ◌%◌, ℕ, zero, suc, ℤ, pos, negsuc, Bool, true, false, List, [], ◌∷◌, ◌++◌, length, take, drop, get_or, refl, ap, sym, ◌∙◌, arith, append_assoc}
use Rattle.std.proofs.{Common.Option, Common.Some, Common.None, Common.Ok, Common.nat_eq, Common.length-append, lemmas.Bool.and_parts}
use Rattle.std.proofs.{Math.Seq.drop-append_seam, Math.Seq.take-append_seam, lemmas.Bool.ne_eqb, lemmas.Bool.eq-eqb, lemmas.Bool.lt-ltb, lemmas.Bool.Decides.Decides-eqb, lemmas.Bool.Decides.nat_tests}
use Rattle.std.proofs.{lemmas.Grind.common_steps, lemmas.List.Elements.All-from_recursion, lemmas.List.Splits.slice_split_at, lemmas.List.Splits.length-slice_split}
use Rattle.std.proofs.{lemmas.List.Sums.position_or_len_is, lemmas.Nat.mod_below, lemmas.Slice.Eq.bytes_eq-Decides, lemmas.Slice.Eq.starts_is}
use Rattle.std.specs.List.{All, AllByRecursion, starts_with, slice_split, position_or_len, list_all}
use Rattle.std.specs.{Fmt.decimal, Fmt.digits, Fmt.digit_glyph, Fmt.digits_onto, Fmt.signed_decimal, Prelude.if◌then◌else◌, Prelude.◌==◌, Prelude.nat_le}
use Rattle.lra_certificate_spec.specs.Crates.{lra_linear_spec.Descriptions.LinearRow, lra_linear_spec.Range.InRange}
use Rattle.lra_multipliers.specs.Multipliers.{Multipliers}
use Rattle.lra_row_text.specs.Texts.{text_line}
use Rattle.lra_certificate_spec.specs.CertificateText.{numbers_text, relation_text, row_text, multipliers_text}
use Rattle.lra_certificate_spec.specs.Certificates.{IsPointRow, AreNumbers}
use Rattle.lra_certificate_spec.specs.Judged.{number_in, then_number, numbers_in, words_of, so_many, spaced_numbers, numbers_after, Left, Judged, then_judged, line_on, after_line, is_next_line, takes}
use Rattle.lra_certificate_spec.specs.Judged.{constraint_row, or_else, row_in, judged_rows, RowsAtPoint, judged_state, judged_states, multipliers_in}
use Rattle.lra_certificate_spec.proofs.{NumberSteps.word_behind, NumberText.text_spelled}

-- ---- bytes of words and of lines: above the space, and at least that
abbrev pub AreFrom : ℕ → List ℕ → Type 0
AreFrom least bs = AllByRecursion (λ b. least ≤ b) bs

pub from_lower : (m n : ℕ) (bs : List ℕ) → m ≤ n → AreFrom n bs → AreFrom m bs
from_lower m n [] h w = tt
from_lower m n (b ∷ bs) h w = (omega (arith, h, w.0), from_lower m n bs h w.1)

pub from_joined : (n : ℕ) (xs ys : List ℕ) → AreFrom n xs → AreFrom n ys → AreFrom n (xs ++ ys)
from_joined n [] ys h k = k
from_joined n (x ∷ xs) ys h k = (h.0, from_joined n xs ys h.1 k)

-- by computing, for a text that is written out
pub text_from : (n : ℕ) (bs : List ℕ) → list_all (λ b. nat_le n b) bs ≡ true → AreFrom n bs
text_from n [] h = tt
text_from n (b ∷ bs) h =
    let p = and_parts (nat_le n b) (list_all (λ (c : ℕ). nat_le n c) bs) h in
    let low : n ≤ b = (let x = p.0 in grind (arith, nat_tests)) in
    (low, text_from n bs p.1)

glyph_from : (d : ℕ) → d < 10 → 48 ≤ digit_glyph false d
glyph_from d h = rw (lt-ltb d 10 h) (let low : 48 ≤ 48 + d = omega arith in low)

digits_onto_from : (k n : ℕ) (acc : List ℕ) → AreFrom 48 acc → AreFrom 48 (digits_onto k 10 false n acc)
digits_onto_from zero n acc h = h
digits_onto_from (suc k) n acc h =
    let one : AreFrom 48 (digit_glyph false (n % 10) ∷ acc) = (glyph_from (n % 10) (mod_below n 10 (omega arith)), h) in
    either (n / 10 == 0) one (digits_onto_from k (n / 10) (digit_glyph false (n % 10) ∷ acc) one)
  where
    either : (b : Bool) → AreFrom 48 (digit_glyph false (n % 10) ∷ acc) → AreFrom 48 (digits_onto k 10 false (n / 10) (digit_glyph false (n % 10) ∷ acc)) →
        AreFrom 48 (if b then digit_glyph false (n % 10) ∷ acc else digits_onto k 10 false (n / 10) (digit_glyph false (n % 10) ∷ acc))
    either true one more = one
    either false one more = more

pub decimal_from : (n : ℕ) → AreFrom 48 (decimal n)
unfolding digits
decimal_from n = digits_onto_from 64 n [] tt

pub signed_from : (z : ℤ) → InRange z → AreFrom 45 (signed_decimal z)
signed_from (pos n) r = from_lower 45 48 (decimal n) (omega arith) (decimal_from n)
signed_from (negsuc n) r = (omega arith, from_lower 45 48 (decimal (suc n)) (omega arith) (decimal_from (suc n)))

pub numbers_from : (zs : List ℤ) → AllByRecursion InRange zs → AreFrom 32 (numbers_text zs)
numbers_from [] h = tt
numbers_from (z ∷ zs) h = (
  omega arith,
  from_joined 32 (signed_decimal z) (numbers_text zs) (from_lower 32 45 (signed_decimal z) (omega arith) (signed_from z
      h.0)) (numbers_from zs h.1),
)

no_feed : (bs : List ℕ) → AreFrom 32 bs → AllByRecursion (λ b. nat_eq b 10 ≡ false) bs
no_feed [] h = tt
no_feed (b ∷ bs) h = (ne_eqb b 10 (λ e. omega (arith, e, h.0)), no_feed bs h.1)

pub clean : (bs : List ℕ) → AreFrom 32 bs → All (λ b. nat_eq b 10 ≡ false) bs
clean bs h = All-from_recursion (λ (b : ℕ). nat_eq b 10 ≡ false) bs (no_feed bs h)

-- ---- numbers
abbrev is_space : ℕ → Bool
is_space b = nat_eq b 32

module _ (word rest : List ℕ) (h : AreFrom 45 word) (ends : (d : ℕ) → 0 < length rest → is_space (get_or rest 0 d) ≡ true) where
  word_apart : (bs : List ℕ) → AreFrom 45 bs → AllByRecursion (λ b. is_space b ≡ false) bs
  word_apart [] k = tt
  word_apart (b ∷ bs) k = (ne_eqb b 32 (λ e. omega (arith, e, k.0)), word_apart bs k.1)

  word_length : position_or_len is_space (word ++ rest) ≡ length word
  word_length = position_or_len_is is_space (word ++ rest) (length word) 0 (omega (arith, length-append word rest)) before after
    where
      before : (k : ℕ) → k < length word → is_space (get_or (word ++ rest) k 0) ≡ false
      before k l = let all = All-from_recursion (λ (b : ℕ). is_space b ≡ false) word (word_apart word h) in let x = all k 0 l in grind (arith, common_steps)

      after : length word < length (word ++ rest) → is_space (get_or (word ++ rest) (length word) 0) ≡ true
      after l = let x = ends 0 (omega (arith, l, length-append word rest)) in grind (arith, common_steps)

  word_read : numbers_in (words_of (word ++ rest)) ≡ then_number (number_in word) (spaced_numbers (words_of rest))
  word_read =
      word_behind (word ++ rest) ∙ ap (λ (n : ℕ). then_number (number_in (take n (word ++ rest))) (spaced_numbers (words_of (drop n (word ++ rest)))))
      word_length ∙
      ap (λ (w : List ℕ). then_number (number_in w) (spaced_numbers (words_of (drop (length word) (word ++ rest))))) (take-append_seam word rest) ∙
      ap (λ (r : List ℕ). then_number (number_in word) (spaced_numbers (words_of r))) (drop-append_seam word rest)

numbers_end : (zs : List ℤ) (d : ℕ) → 0 < length (numbers_text zs) → is_space (get_or (numbers_text zs) 0 d) ≡ true
numbers_end [] d h = absurd (omega (arith, h))
numbers_end (z ∷ zs) d h = refl

pub spaced_read : (zs : List ℤ) → AllByRecursion InRange zs → spaced_numbers (words_of (numbers_text zs)) ≡ Some zs
spaced_read [] h = refl
spaced_read (z ∷ zs) h =
    word_read (signed_decimal z) (numbers_text zs) (signed_from z h.0) (numbers_end zs) ∙
    ap (λ (o : Option ℤ). then_number o (spaced_numbers (words_of (numbers_text zs)))) (text_spelled z h.0) ∙ ap (then_number (Some z)) (spaced_read zs h.1)

pub numbers_read : (text : List ℕ) (n : ℕ) (zs : List ℤ) → length zs ≡ n → AllByRecursion InRange zs → numbers_after text n (text ++ numbers_text zs) ≡
    Some zs
numbers_read text n zs e h =
    ap (λ (b : Bool). if b then so_many n (spaced_numbers (words_of (drop (length text) (text ++ numbers_text zs)))) else None)
    ((starts_is Decides-eqb (text ++ numbers_text zs) text (starts_with nat_eq (text ++ numbers_text zs) text) refl).1 (numbers_text zs) refl) ∙
    ap (λ (r : List ℕ). so_many n (spaced_numbers (words_of r))) (drop-append_seam text (numbers_text zs)) ∙
    ap (so_many n) (spaced_read zs h) ∙ ap (λ (b : Bool). if b then Some zs else None) (eq-eqb (length zs) n e)

-- ---- rows and multipliers
pub row_read : (live : ℕ) (g : LinearRow) → IsPointRow live g → row_in live (row_text g) ≡ Some g
row_read live g h = by g.equal refl
  where
    given : (equal : Bool) → g.equal ≡ equal → constraint_row equal (Some g.row) ≡ Some g
    given equal e = ap (λ (b : Bool). Some (record { row = g.row; equal = b })) (sym e)

    by : (equal : Bool) → g.equal ≡ equal → row_in live (row_text g) ≡ Some g
    by true e =
        ap (λ (b : Bool). row_in live (relation_text b ++ numbers_text g.row)) e ∙
        ap (λ (o : Option (List ℤ)). or_else (constraint_row true o)
        (constraint_row false (numbers_after (relation_text false) (suc live) (relation_text true ++
        numbers_text g.row))))
        (numbers_read (relation_text true) (suc live) g.row h.width h.in_range) ∙ given true e
    by false e =
        ap (λ (b : Bool). row_in live (relation_text b ++ numbers_text g.row)) e ∙
        ap (λ (o : Option (List ℤ)). or_else (constraint_row true (numbers_after (relation_text true) (suc live) (relation_text false ++ numbers_text g.row)))
        (constraint_row false o))
        (numbers_read (relation_text false) (suc live) g.row h.width h.in_range) ∙ given false e

pub multipliers_read : (word : List ℕ) (premises : ℕ) (m : Multipliers) → AreNumbers m → length m.factors ≡ premises →
    multipliers_in word premises (multipliers_text word m) ≡ Some m
multipliers_read word premises m h e =
    ap Rattle.lra_certificate_spec.specs.Judged.multipliers_from
    (numbers_read word (2 + premises) (m.divisor ∷ m.constant ∷ m.factors) (let x : suc (suc (length m.factors)) ≡ 2 + premises = omega (arith, e) in
    x) (h.0, (h.1, h.2)))

-- ---- lines
-- the text and what is left after it stand there
abbrev pub pieces_of : List ℕ → List (List ℕ)
pieces_of bytes = slice_split (λ b. nat_eq b 10) bytes

pub line_pieces : (line rest : List ℕ) → AreFrom 32 line → pieces_of (text_line line ++ rest) ≡ line ∷ pieces_of rest
line_pieces line rest h =
    ap pieces_of (append_assoc line (10 ∷ []) rest) ∙
    slice_split_at (λ (b : ℕ). nat_eq b 10) line 10 rest (clean line h) refl

some_pieces : (rest line : List ℕ) (pieces : List (List ℕ)) → pieces ≡ pieces_of rest → line_on (line ∷ pieces) ≡ Some line
some_pieces rest line [] e = absurd (let c = ap length e in let d = length-slice_split (λ (b : ℕ). nat_eq b 10) rest in omega (arith, c, d))
some_pieces rest line (p ∷ ps) e = refl

pub line_first : (line rest : List ℕ) → AreFrom 32 line → line_on (pieces_of (text_line line ++ rest)) ≡ Some line
line_first line rest h = ap line_on (line_pieces line rest h) ∙ some_pieces rest line (pieces_of rest) refl

pub is_itself : (text : List ℕ) → is_next_line text (Some text) ≡ true
is_itself text = (bytes_eq-Decides text text).1 refl

pub takes_it : (text rest : List ℕ) (l : Left) → AreFrom 32 text → l.pieces ≡ pieces_of (text_line text ++ rest) →
    takes text l ≡ Ok (record { number = suc l.number; pieces = pieces_of rest })
takes_it text rest l h e =
    ap (λ (b : Bool). if b then Ok (after_line l) else Rattle.lra_certificate_spec.specs.Judged.refuses l.number
    Rattle.lra_certificate_spec.specs.Judged.bad_line)
    (ap (λ (p : List (List ℕ)). is_next_line text (line_on p)) e ∙ ap (is_next_line text) (line_first text rest h) ∙ is_itself text) ∙
    ap (λ (p : List (List ℕ)). Ok (record { number = suc l.number; pieces = p })) (ap (λ (p : List (List ℕ)). drop 1 p) (e ∙ line_pieces text rest h))
