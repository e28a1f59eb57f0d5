-- Goals of `word_kind`: the kind of a word.
use Rattle.std.proofs.Common.{sym, ◌∙◌}
use Rattle.lra_syntax.specs.Lexeme.{mark_of, reserved, name}
use Rattle.lra_lex.proofs.MarkLemmas.{found_is, not_named}
use Rattle.lra_lex.proofs.lexer.word_kind.Goals as goal

pub returns-in-Some : goal.returns-in-Some
returns-in-Some c = mark_of c.in-Some.mark (found_is c.args.word.now c.in-Some.mark (sym c.in-Some.ensures))

pub returns-then-is_further_word : goal.returns-then-is_further_word
returns-then-is_further_word c = reserved (sym c.is_further_word.ensures ∙ c.if-is_further_word.true)

pub returns-in_ok-from_str-in-None : goal.returns-in_ok-from_str-in-None
returns-in_ok-from_str-in-None c =
    rw (c.in_ok-from_str-in-None.ensures, c.word_text.ensures) (name c.requires (not_named c.args.word.now (sym c.in-None.ensures)) (sym c.is_further_word.ensures ∙ c.if-is_further_word.false))
