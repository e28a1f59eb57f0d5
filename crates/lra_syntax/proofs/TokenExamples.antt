-- Sources and their tokens. Which slip an example would catch stands beside it.
use Rattle.std.proofs.Common.{◌≡◌, ℕ, true, List, [], ◌∷◌, ◌++◌, refl, arith, inl, inr, subst, ap, get_or, bytes_eq, ◌∙◌, sym}
use Rattle.std.proofs.lemmas.Bool.{or_cases}
use Rattle.std.proofs.{lemmas.List.append-nil, lemmas.List.Folds.list_all-append, lemmas.Slice.Eq.bytes_eq-Decides}
use Rattle.std.specs.{List.list_all, Prelude.codes, Prelude.bytes_eq, Prelude.true, Prelude.◌&&◌, Prelude.◌⊎◌, Prelude.◌≤◌}
use Rattle.lra_base.specs.declared.refusals.Cause.TheVariants.{BadByte, BadLiteral}
use Rattle.lra_base.specs.{Places.place_after, declared.number_types.NumberType.TheVariants.Int, declared.number_types.NumberType.TheVariants.Long, declared.refusals.Place.Place}
use Rattle.lra_syntax.specs.Lexeme.{octal, decimal_base, hexadecimal, IsLiteral, Base, IsBasePrefix, is_digit, is_digit_of, number_after, greatest_literal, is_between, is_among, suffixes, word}
use Rattle.lra_syntax.specs.Lexeme.{number_word, literal_type, mark_word, name, literal_text, mark_of, reserved}
use Rattle.lra_syntax.specs.Tokens.{blank, line_comment, block_comment, skipped_line, gap, token, Lex, IsTokenFault}
use Rattle.lra_syntax.specs.declared.tokens.Kind.TheVariants.{Name, Number, Mark, Reserved, End}
use Rattle.lra_syntax.specs.{declared.tokens.Kind.Kind, declared.tokens.Token.Token}
use Rattle.lra_syntax.specs.declared.tokens.Mark.TheVariants as mark
use Rattle.lra_syntax.proofs.{LexedByTest.space, LexedByTest.sign, LexedByTest.word_of, LexedByTest.are_read_by, LexedByTest.and_first, LexedByTest.and_second, Lexemes.ExternalDeclaration}
use Rattle.lra_syntax.proofs.{Lexemes.◌⨾◌, Lexemes.all_lexed, Lexemes.faulty, LongestByTest.no_gap, LongestByTest.longest_by, LongestByTest.as_token, LongestByTest.is_open, LongestByTest.no_lexeme}

abbrev at : ℕ → ℕ → Place
at l c = record { line = l; column = c }

abbrev token_at : Kind → ℕ → ℕ → Token
token_at k l c = record { kind = k; place = at l c }

-- literals ---------------------------------------------------------------------------------------------------------

-- catches octal digits that are read as decimal ones
octal_literal : IsLiteral (codes "017") 15
octal_literal = record { base = octal; front = codes "0"; digits = codes "17"; suffix = []; parts = refl; begins = refl; all_digits = refl; is_suffix = refl; number = refl }

zero_literal : IsLiteral (codes "0L") 0
zero_literal = record { base = octal; front = codes "0"; digits = []; suffix = codes "L"; parts = refl; begins = refl; all_digits = refl; is_suffix = refl; number = refl }

hexadecimal_literal : IsLiteral (codes "0xFfll") 255
hexadecimal_literal = record {
  base = hexadecimal;
  front = codes "0x";
  digits = codes "Ff";
  suffix = codes "ll";
  parts = refl;
  begins = (inl refl, λ e. cc);
  all_digits = refl;
  is_suffix = refl;
  number = refl;
}

greatest_literal_is : IsLiteral (codes "9223372036854775807") 9223372036854775807
greatest_literal_is = record {
  base = decimal_base;
  front = [];
  digits = codes "9223372036854775807";
  suffix = [];
  parts = refl;
  begins = (57, codes "223372036854775807", refl, refl, refl);
  all_digits = refl;
  is_suffix = refl;
  number = refl;
}

abbrev short_literal : IsLiteral (codes "0x1f") 31
short_literal = record {
  base = hexadecimal;
  front = codes "0x";
  digits = codes "1f";
  suffix = [];
  parts = refl;
  begins = (inl refl, λ e. cc);
  all_digits = refl;
  is_suffix = refl;
  number = refl;
}

-- 2147483647, 2147483648, 1L: catches a type by the value alone, and a limit that is one too small
types_of_literals : (literal_type [] 2147483647 ≡ Int) × (literal_type [] 2147483648 ≡ Long) × (literal_type (codes "L") 1 ≡ Long)
types_of_literals = (refl, refl, refl)

-- places -----------------------------------------------------------------------------------------------------------

-- a line feed ends a line, and belongs to it: catches columns from 0
places : (place_after [] ≡ at 1 1) × (place_after (codes "ab") ≡ at 1 3) × (place_after (codes "ab" ++ 10 ∷ []) ≡ at 2 1) × (place_after (codes "ab" ++ 10 ∷ codes "c") ≡ at 2 2)
places = (refl, refl, refl, refl)

-- whole sources ----------------------------------------------------------------------------------------------------

-- #include <assert.h>
-- x+=0x1f/* c */;
-- catches `+` and `=` for `+=`, an `#include` line that isn't skipped, and a comment that is read
abbrev include_line : List ℕ
include_line = codes "#include <assert.h>"

abbrev short_source : List ℕ
short_source = include_line ++ (10 ∷ codes "x+=0x1f/* c */;")

short_tokens : Lex short_source (token_at (Name (codes "x")) 2 1 ∷ token_at (Mark mark.PlusAssign) 2 2 ∷ token_at (Number Int 31) 2 4 ∷ token_at (Mark mark.Semicolon) 2 15 ∷ token_at End 2 16 ∷ [])
short_tokens = (
  gap include_line ∷ gap (10 ∷ []) ∷ token (codes "x") (token_at (Name (codes "x")) 2 1) ∷ token (codes "+=") (token_at (Mark mark.PlusAssign) 2 2)
      ∷ token (codes "0x1f") (token_at (Number Int 31) 2 4) ∷ gap (codes "/* c */") ∷ token (codes ";") (token_at (Mark mark.Semicolon) 2 15) ∷ [],
  refl,
  skipped_line [] (codes " <assert.h>") refl (record { lines = []; blanks = []; parts = refl; whole_lines = inl refl; only_blanks = refl }) refl refl refl refl
      ⨾ blank 10 refl refl
      ⨾ as_token (include_line ++ 10 ∷ []) (codes "x") (codes "+=0x1f/* c */;") (Name (codes "x")) (word refl) (name refl refl refl) refl refl refl
      ⨾ as_token (include_line ++ (10 ∷ codes "x")) (codes "+=") (codes "0x1f/* c */;") (Mark mark.PlusAssign) (mark_word mark.PlusAssign refl) (mark_of mark.PlusAssign refl) refl refl refl
      ⨾ as_token (include_line ++ (10 ∷ codes "x+=")) (codes "0x1f") (codes "/* c */;") (Number Int 31) (number_word refl) (literal_text 31 Int refl short_literal refl (omega arith)) refl refl refl
      ⨾ block_comment (codes " c ") refl (is_open (codes " c *") refl)
      ⨾ as_token (include_line ++ (10 ∷ codes "x+=0x1f/* c */")) (codes ";") [] (Mark mark.Semicolon) (mark_word mark.Semicolon refl) (mark_of mark.Semicolon refl) refl refl refl
      ⨾ tt,
  refl,
)

-- + ++
-- catches the shortest spelling: `+++` is `++` and `+`
abbrev two_signs : List ExternalDeclaration
two_signs = sign mark.Increment ∷ sign mark.Plus ∷ []

plus_tokens : Lex (codes "+++") (token_at (Mark mark.Increment) 1 1 ∷ token_at (Mark mark.Plus) 1 3 ∷ token_at End 1 4 ∷ [])
plus_tokens = all_lexed (codes "+++") two_signs refl (are_read_by [] two_signs refl)

-- long longer // long
-- catches a reserved word that ends a name, and a comment that needs a line feed
word_tokens : Lex (codes "long longer// x") (token_at (Mark mark.Long) 1 1 ∷ token_at (Name (codes "longer")) 1 6 ∷ token_at End 1 16 ∷ [])
word_tokens = (
  token (codes "long") (token_at (Mark mark.Long) 1 1) ∷ gap (codes " ") ∷ token (codes "longer") (token_at (Name (codes "longer")) 1 6) ∷ gap (codes "// x") ∷ [],
  refl,
  as_token [] (codes "long") (codes " longer// x") (Mark mark.Long) (word refl) (mark_of mark.Long refl) refl refl refl
      ⨾ blank 32 refl refl
      ⨾ as_token (codes "long ") (codes "longer") (codes "// x") (Name (codes "longer")) (word refl) (name refl refl refl) refl refl refl
      ⨾ line_comment (codes " x") refl refl tt
      ⨾ tt,
  refl,
)

-- a keyword that the grammar doesn't name
reserved_word : Lex (codes "do") (token_at Reserved 1 1 ∷ token_at End 1 3 ∷ [])
reserved_word = (
  token (codes "do") (token_at Reserved 1 1) ∷ [],
  refl,
  as_token [] (codes "do") [] Reserved (word refl) (reserved refl) refl refl refl ⨾ tt,
  refl,
)

-- faults -----------------------------------------------------------------------------------------------------------

-- catches a fault at the token before
abbrev before_dollar : List ExternalDeclaration
before_dollar = sign mark.OpenBrace ∷ space ∷ []

bad_byte : IsTokenFault (codes "{ $ }") BadByte (at 1 3)
bad_byte =
    faulty (codes "{ $ }") (codes "$ }") before_dollar BadByte refl (are_read_by (codes "$ }") before_dollar refl)
    (λ e. cc, no_gap (codes "{ ") (codes "$ }") refl, no_lexeme (codes "$ }") refl refl)

-- an octal literal has no digit 8
no_octal : (base : Base) (front digits suffix : List ℕ) → codes "08" ≡ (front ++ digits) ++ suffix → IsBasePrefix base front digits → list_all (is_digit_of base) digits ≡ true →
    is_among suffix suffixes ≡ true → ⊥
no_octal octal front [] suffix e b d s =
    let f : codes "08" ≡ 48 ∷ suffix = subst (λ (z : List ℕ). codes "08" ≡ (z ++ []) ++ suffix) b e in
    let g : suffix ≡ 56 ∷ [] = cc in
    let h : is_among (56 ∷ []) suffixes ≡ true = subst (λ (z : List ℕ). is_among z suffixes ≡ true) g s in
    cc
no_octal octal front (c ∷ digits) suffix e b d s =
    let f : codes "08" ≡ 48 ∷ c ∷ digits ++ suffix = subst (λ (z : List ℕ). codes "08" ≡ (z ++ c ∷ digits) ++ suffix) b e in
    let g : c ≡ 56 = cc in
    let h : list_all (is_digit_of octal) (56 ∷ digits) ≡ true = subst (λ (z : ℕ). list_all (is_digit_of octal) (z ∷ digits) ≡ true) g d in
    cc
no_octal decimal_base front digits suffix e (c, cs, b, f, p) d s =
    let g : codes "08" ≡ c ∷ cs ++ suffix = subst (λ (z : List ℕ). codes "08" ≡ ([] ++ z) ++ suffix) f (subst (λ (z : List ℕ). codes "08" ≡ (z ++ digits) ++ suffix) b e) in
    let h : c ≡ 48 = cc in
    let k : is_between 49 57 48 ≡ true = subst (λ (z : ℕ). is_between 49 57 z ≡ true) h p in
    cc
no_octal hexadecimal front digits suffix e (inl b, h) d s =
    let f : codes "08" ≡ 48 ∷ 120 ∷ digits ++ suffix = subst (λ (z : List ℕ). codes "08" ≡ (z ++ digits) ++ suffix) b e in
    let g : 56 ≡ 120 = ap (λ (z : List ℕ). get_or z 1 0) f in
    omega (arith, g)
no_octal hexadecimal front digits suffix e (inr b, h) d s =
    let f : codes "08" ≡ 48 ∷ 88 ∷ digits ++ suffix = subst (λ (z : List ℕ). codes "08" ≡ (z ++ digits) ++ suffix) b e in
    let g : 56 ≡ 88 = ap (λ (z : List ℕ). get_or z 1 0) f in
    omega (arith, g)

-- x=
abbrev set_x : List ExternalDeclaration
set_x = word_of (codes "x") ∷ sign mark.Assign ∷ []

bad_octal : IsTokenFault (codes "x=08;") BadLiteral (at 1 3)
bad_octal =
    faulty (codes "x=08;") (codes "08;") set_x BadLiteral refl (are_read_by (codes "08;") set_x refl) (
      no_gap (codes "x=") (codes "08;") refl,
      codes "08",
      longest_by (codes "08") (codes ";") (number_word refl) refl refl,
      refl,
      λ n l k. no_octal l.base l.front l.digits l.suffix l.parts l.begins l.all_digits l.is_suffix,
    )

-- 2^63 is no literal: its digits are all of it, since a suffix has none -----------------------------------------------

abbrev IsListed : List ℕ → List (List ℕ) → Type 0
IsListed s [] = ⊥
IsListed s (w ∷ ws) = (s ≡ w) ⊎ IsListed s ws

listed : (s : List ℕ) (ws : List (List ℕ)) → is_among s ws ≡ true → IsListed s ws
listed s [] e = cc
listed s (w ∷ ws) e = elim (or_cases (bytes_eq s w) (is_among s ws) e) as (λ _. IsListed s (w ∷ ws)) [ inl h ↦ inl ((bytes_eq-Decides s w).0 h) | inr h ↦ inr (listed s ws h) ]

has_digit : (s : List ℕ) (c : ℕ) (cs : List ℕ) → list_all is_digit s ≡ true → s ≡ c ∷ cs → is_digit c ≡ true
has_digit s c cs e f = let h : (is_digit c && list_all is_digit cs) ≡ true = subst (λ (z : List ℕ). list_all is_digit z ≡ true) f e in and_first (is_digit c) (list_all is_digit cs) h

no_suffix : (suffix : List ℕ) → list_all is_digit suffix ≡ true → IsListed suffix suffixes → suffix ≡ []
no_suffix suffix d (inl e) = e
no_suffix suffix d (inr (inl e)) = let h : is_digit 108 ≡ true = has_digit suffix 108 [] d e in cc
no_suffix suffix d (inr (inr (inl e))) = let h : is_digit 76 ≡ true = has_digit suffix 76 [] d e in cc
no_suffix suffix d (inr (inr (inr (inl e)))) = let h : is_digit 108 ≡ true = has_digit suffix 108 (codes "l") d e in cc
no_suffix suffix d (inr (inr (inr (inr (inl e))))) = let h : is_digit 76 ≡ true = has_digit suffix 76 (codes "L") d e in cc
no_suffix suffix d (inr (inr (inr (inr (inr e))))) = absurd e

abbrev large : List ℕ
large = codes "9223372036854775808"

first_of_large : (front digits suffix : List ℕ) (c : ℕ) (cs : List ℕ) → large ≡ (front ++ digits) ++ suffix → front ≡ c ∷ cs → 57 ≡ c
first_of_large front digits suffix c cs e f = ap (λ (z : List ℕ). get_or z 0 0) (e ∙ ap (λ (z : List ℕ). (z ++ digits) ++ suffix) f)

no_large : (base : Base) (front digits suffix : List ℕ) (n : ℕ) → large ≡ (front ++ digits) ++ suffix → IsBasePrefix base front digits → is_among suffix suffixes ≡ true
    → n ≡ number_after base 0 digits → n ≤ greatest_literal → ⊥
no_large octal front digits suffix n e b s f l = let h : 57 ≡ 48 = first_of_large front digits suffix 48 [] e b in omega (arith, h)
no_large hexadecimal front digits suffix n e (inl b, d) s f l = let h : 57 ≡ 48 = first_of_large front digits suffix 48 (codes "x") e b in omega (arith, h)
no_large hexadecimal front digits suffix n e (inr b, d) s f l = let h : 57 ≡ 48 = first_of_large front digits suffix 48 (codes "X") e b in omega (arith, h)
no_large decimal_base front digits suffix n e (c, cs, b, d, r) s f l =
    let g : large ≡ digits ++ suffix = e ∙ ap (λ (z : List ℕ). (z ++ digits) ++ suffix) b in
    let h : (list_all is_digit digits && list_all is_digit suffix) ≡ true = sym (list_all-append is_digit digits suffix) ∙ ap (list_all is_digit) (sym g) in
    let k : suffix ≡ [] = no_suffix suffix (and_second (list_all is_digit digits) (list_all is_digit suffix) h) (listed suffix suffixes s) in
    let m : large ≡ digits = g ∙ ap (λ (z : List ℕ). digits ++ z) k ∙ append-nil digits in
    let v : n ≡ 9223372036854775808 = f ∙ ap (number_after decimal_base 0) (sym m) in
    omega (arith, v, l)

-- catches a limit of 2^63
pub too_large : IsTokenFault (codes "x=9223372036854775808;") BadLiteral (at 1 3)
too_large =
    faulty (codes "x=9223372036854775808;") (codes "9223372036854775808;") set_x BadLiteral refl (are_read_by (codes "9223372036854775808;") set_x refl) (
      no_gap (codes "x=") (codes "9223372036854775808;") refl,
      large,
      longest_by large (codes ";") (number_word refl) refl refl,
      refl,
      λ n l k. no_large l.base l.front l.digits l.suffix n l.parts l.begins l.is_suffix l.number k,
    )
