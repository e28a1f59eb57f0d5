-- Computed tests: a source that is written out has these tokens. Its numbers are 1.
use Rattle.std.proofs.Common.{◌≡◌, ℕ, Bool, true, false, not, ◌&&◌, nat_eq, List, [], ◌∷◌, ◌++◌, refl, sym, subst, arith}
use Rattle.std.proofs.{lemmas.Bool.Decides.nat_tests, lemmas.Slice.Eq.bytes_eq-Decides}
use Rattle.std.specs.Prelude.{codes, bytes_eq, nat_le}
use Rattle.lra_base.specs.declared.number_types.NumberType.TheVariants.{Int, Long}
use Rattle.lra_syntax.specs.Lexeme.{is_name_word, is_among, named_words, further_words, mark_text, IsLiteral, decimal_base, Lexeme, word, number_word, mark_word, SpellsToken, name, literal_text}
use Rattle.lra_syntax.specs.declared.tokens.Kind.TheVariants.{Name, Number, Reserved, Mark as MarkOf, Unclosed, End}
use Rattle.lra_syntax.specs.{Faults.greatest_level, Lexeme.mark_of, Tokens.is_blank, declared.tokens.Kind.Kind, declared.tokens.Mark.Mark}
use Rattle.lra_syntax.proofs.{Lexemes.ExternalDeclaration, Lexemes.skip, Lexemes.lexeme, Lexemes.written, Lexemes.AreReadBefore, LongestByTest.begins_gap, LongestByTest.ends_there}

-- how a source is written out --------------------------------------------------------------------------------------

abbrev pub space : ExternalDeclaration
space = skip 32

abbrev lexeme_of : List ℕ → Kind → ExternalDeclaration
lexeme_of [] k = space
lexeme_of (c ∷ cs) k = lexeme c cs k 0

abbrev pub sign : Mark → ExternalDeclaration
sign m = lexeme_of (mark_text m) (MarkOf m)

abbrev pub word_of : List ℕ → ExternalDeclaration
word_of s = lexeme_of s (Name s)

abbrev pub one : ExternalDeclaration
one = lexeme_of (codes "1") (Number Int 1)

-- the test ---------------------------------------------------------------------------------------------------------

abbrev is_plain_name : List ℕ → Bool
is_plain_name s = is_name_word s && (not (is_among s named_words) && not (is_among s further_words))

abbrev is_spelled : List ℕ → Kind → Bool
is_spelled s (Name w) = bytes_eq s w && is_plain_name s
is_spelled s (Number Long n) = false
is_spelled s (Number Int n) = bytes_eq s (codes "1") && nat_eq n 1
is_spelled s (MarkOf m) = bytes_eq s (mark_text m)
is_spelled s Reserved = false
is_spelled s Unclosed = false
is_spelled s End = false

-- in front of other bytes
abbrev pub is_written : List ℕ → List ExternalDeclaration → Bool
is_written rest [] = true
is_written rest (skip c ∷ xs) = is_blank c && is_written rest xs
is_written rest (lexeme c cs k o ∷ xs) =
    (is_spelled (c ∷ cs) k && not (begins_gap c)) && ((ends_there (c ∷ cs) (written xs ++ rest) && nat_le o greatest_level) && is_written rest xs)

-- what it says -----------------------------------------------------------------------------------------------------

pub and_first : (a b : Bool) → (a && b) ≡ true → a ≡ true
and_first true b e = refl
and_first false b e = e

pub and_second : (a b : Bool) → (a && b) ≡ true → b ≡ true
and_second true b e = e
and_second false b e = cc

is_off : (b : Bool) → not b ≡ true → b ≡ false
is_off true e = cc
is_off false e = refl

same_number : (n : ℕ) → nat_eq n 1 ≡ true → n ≡ 1
same_number n e = grind (arith, nat_tests)

abbrev one_literal : IsLiteral (codes "1") 1
one_literal = record { base = decimal_base; front = []; digits = codes "1"; suffix = []; parts = refl; begins = (49, [], refl, refl, refl); all_digits = refl; is_suffix = refl; number = refl }

plain_name : (s w : List ℕ) → (bytes_eq s w && is_plain_name s) ≡ true → Lexeme s × SpellsToken s (Name w)
plain_name s w e =
    let same = (bytes_eq-Decides s w).0 (and_first (bytes_eq s w) (is_plain_name s) e) in
    let plain = and_second (bytes_eq s w) (is_plain_name s) e in
    let named = and_first (is_name_word s) (not (is_among s named_words) && not (is_among s further_words)) plain in
    let others = and_second (is_name_word s) (not (is_among s named_words) && not (is_among s further_words)) plain in (
      word named,
      subst (λ (z : List ℕ). SpellsToken s (Name z)) same
          (name named (is_off (is_among s named_words) (and_first (not (is_among s named_words)) (not (is_among s further_words)) others))
          (is_off (is_among s further_words) (and_second (not (is_among s named_words)) (not (is_among s further_words)) others))),
    )

the_one : (s : List ℕ) (n : ℕ) → (bytes_eq s (codes "1") && nat_eq n 1) ≡ true → Lexeme s × SpellsToken s (Number Int n)
the_one s n e =
    let same = (bytes_eq-Decides s (codes "1")).0 (and_first (bytes_eq s (codes "1")) (nat_eq n 1) e) in
    let is = same_number n (and_second (bytes_eq s (codes "1")) (nat_eq n 1) e) in
    subst (λ (z : List ℕ). Lexeme z × SpellsToken z (Number Int n)) (sym same)
    (subst (λ (k : ℕ). Lexeme (codes "1") × SpellsToken (codes "1") (Number Int k)) (sym is)
    (number_word refl, literal_text 1 Int refl one_literal refl (omega arith)))

spelled : (s : List ℕ) (k : Kind) → is_spelled s k ≡ true → Lexeme s × SpellsToken s k
spelled s (Name w) e = plain_name s w e
spelled s (Number Long n) e = cc
spelled s (Number Int n) e = the_one s n e
spelled s (MarkOf m) e = let same = (bytes_eq-Decides s (mark_text m)).0 e in (mark_word m same, mark_of m same)
spelled s Reserved e = cc
spelled s Unclosed e = cc
spelled s End e = cc

pub are_read_by : (rest : List ℕ) (xs : List ExternalDeclaration) → is_written rest xs ≡ true → AreReadBefore rest xs
are_read_by rest [] e = tt
are_read_by rest (skip c ∷ xs) e =
    (and_first (is_blank c) (is_written rest xs) e, are_read_by rest xs (and_second (is_blank c) (is_written rest xs) e))
are_read_by rest (lexeme c cs k o ∷ xs) e =
    let after = written xs ++ rest in
    let here = and_first (is_spelled (c ∷ cs) k && not (begins_gap c)) ((ends_there (c ∷ cs) after && nat_le o greatest_level) && is_written rest xs) e in
    let more = and_second (is_spelled (c ∷ cs) k && not (begins_gap c)) ((ends_there (c ∷ cs) after && nat_le o greatest_level) && is_written rest xs) e in
    let behind = and_first (ends_there (c ∷ cs) after && nat_le o greatest_level) (is_written rest xs) more in
    let so = spelled (c ∷ cs) k (and_first (is_spelled (c ∷ cs) k) (not (begins_gap c)) here) in (
      record {
        good = record { lexeme = so.0; spells = so.1; gapless = is_off (begins_gap c) (and_second (is_spelled (c ∷ cs) k) (not (begins_gap c)) here) };
        ends = and_first (ends_there (c ∷ cs) after) (nat_le o greatest_level) behind;
        low = and_second (ends_there (c ∷ cs) after) (nat_le o greatest_level) behind;
      },
      are_read_by rest xs (and_second (ends_there (c ∷ cs) after && nat_le o greatest_level) (is_written rest xs) more),
    )
