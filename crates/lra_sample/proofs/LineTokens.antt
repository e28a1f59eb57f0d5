-- The tokens of a line of a sample source are the longest at their places, and its bytes are those of the source.
use Rattle.std.proofs.Common.{◌≡◌, ℕ, false, List, [], ◌∷◌, ◌++◌, refl, append_assoc}
use Rattle.lra_sample.specs.Crates.lra_syntax.Lexeme.{is_word_byte}
use Rattle.lra_sample.specs.Crates.{lra_base.declared.number_types.NumberType.TheVariants.Int, lra_row_text.Texts.text_line, lra_syntax.declared.tokens.Kind.TheVariants.Number}
use Rattle.lra_sample.specs.Crates.lra_syntax.declared.tokens.Mark.TheVariants as mark
use Rattle.lra_sample.specs.declared.block.Kind.TheVariants.{Sum, Choice, Count, Input}
use Rattle.lra_sample.specs.{Sample.statements_text, declared.block.Kind.Kind}
use Rattle.lra_sample.proofs.Crates.lra_syntax.Lexemes.{ExternalDeclaration, written, IsRead, AreRead, ◌⨾◌, as_read, is_mark}
use Rattle.lra_sample.proofs.{Lines.Line, Lines.items_as, Numerals.word_ends, Numerals.zero_good, Numerals.one_good, Numerals.is_name}

is_constant : (l : Line) (c : ℕ) {cs : List ℕ} → is_word_byte c ≡ false →
    IsRead l.head l.tail (Number Int l.value) 0 (c ∷ cs)
is_constant l c e = as_read l.good (word_ends l.head l.digit.only l.tail c e) refl

pub line_read : (k : Kind) (l : Line) (xs : List ExternalDeclaration) → AreRead xs → AreRead (items_as k l ++ xs)
line_read Sum l xs r =
    is_name l.is_first 61 refl refl ⨾ is_mark mark.Assign refl refl refl (λ u. refl)
    ⨾ is_name l.is_second 43 refl refl ⨾ is_mark mark.Plus refl refl refl l.digit.behind_plus
    ⨾ is_constant l 59 refl ⨾ is_mark mark.Semicolon refl refl refl (λ u. refl) ⨾ refl ⨾ r
line_read Choice l xs r =
    is_mark mark.If refl refl refl (λ u. refl) ⨾ is_mark mark.OpenParen refl refl refl (λ u. refl)
    ⨾ is_name l.is_first 60 refl refl ⨾ is_mark mark.Less refl refl refl l.digit.behind_less
    ⨾ is_constant l 41 refl ⨾ is_mark mark.CloseParen refl refl refl (λ u. refl)
    ⨾ is_name l.is_second 61 refl refl ⨾ is_mark mark.Assign refl refl refl (λ u. refl)
    ⨾ is_name l.is_second 43 refl refl ⨾ is_mark mark.Plus refl refl refl (λ u. refl)
    ⨾ as_read one_good (λ u. refl) refl ⨾ is_mark mark.Semicolon refl refl refl (λ u. refl)
    ⨾ is_mark mark.Else refl refl refl (λ u. refl) ⨾ refl ⨾ is_name l.is_second 61 refl refl
    ⨾ is_mark mark.Assign refl refl refl l.digit.behind_assign ⨾ is_constant l 59 refl
    ⨾ is_mark mark.Semicolon refl refl refl (λ u. refl) ⨾ refl ⨾ r
line_read Count l xs r =
    is_name l.is_first 61 refl refl ⨾ is_mark mark.Assign refl refl refl (λ u. refl)
    ⨾ as_read zero_good (λ u. refl) refl ⨾ is_mark mark.Semicolon refl refl refl (λ u. refl)
    ⨾ is_mark mark.While refl refl refl (λ u. refl) ⨾ is_mark mark.OpenParen refl refl refl (λ u. refl)
    ⨾ is_name l.is_first 60 refl refl ⨾ is_mark mark.Less refl refl refl l.digit.behind_less
    ⨾ is_constant l 41 refl ⨾ is_mark mark.CloseParen refl refl refl (λ u. refl)
    ⨾ is_name l.is_first 61 refl refl ⨾ is_mark mark.Assign refl refl refl (λ u. refl)
    ⨾ is_name l.is_first 43 refl refl ⨾ is_mark mark.Plus refl refl refl (λ u. refl)
    ⨾ as_read one_good (λ u. refl) refl ⨾ is_mark mark.Semicolon refl refl refl (λ u. refl) ⨾ refl ⨾ r
line_read Input l xs r =
    is_name l.is_first 61 refl refl ⨾ is_mark mark.Assign refl refl refl (λ u. refl)
    ⨾ is_mark mark.Input refl refl refl (λ u. refl) ⨾ is_mark mark.OpenParen refl refl refl (λ u. refl)
    ⨾ is_mark mark.CloseParen refl refl refl (λ u. refl) ⨾ is_mark mark.Semicolon refl refl refl (λ u. refl)
    ⨾ is_mark mark.Assume refl refl refl (λ u. refl) ⨾ is_mark mark.OpenParen refl refl refl (λ u. refl)
    ⨾ is_name l.is_first 62 refl refl ⨾ is_mark mark.AtLeast refl refl refl (λ u. refl)
    ⨾ as_read zero_good (λ u. refl) refl ⨾ is_mark mark.And refl refl refl (λ u. refl)
    ⨾ is_name l.is_first 60 refl refl ⨾ is_mark mark.AtMost refl refl refl (λ u. refl) ⨾ is_constant l 41 refl
    ⨾ is_mark mark.CloseParen refl refl refl (λ u. refl) ⨾ is_mark mark.Semicolon refl refl refl (λ u. refl)
    ⨾ refl ⨾ r

pub text_as : (k : Kind) (l : Line) → written (items_as k l) ≡
    text_line (statements_text k (l.first ∷ []) (l.second ∷ []) (l.head ∷ l.tail))
text_as Sum l = simp append_assoc
text_as Choice l = simp append_assoc
text_as Count l = simp append_assoc
text_as Input l = simp append_assoc
