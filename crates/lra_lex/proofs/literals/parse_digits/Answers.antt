-- Goals of `parse_digits`: the number that the digits write, if it is at most 2^63 - 1.
use Rattle.std.proofs.Common.{◌∙◌}
use Rattle.lra_lex.specs.Literal.{base_of}
use Rattle.lra_lex.proofs.LiteralLemmas.{too_large}
use Rattle.lra_lex.proofs.literals.parse_digits.Goals as goal

pub returns-then-number-gt-GREATEST-clause-too_large : goal.returns-then-number-gt-GREATEST-clause-too_large
returns-then-number-gt-GREATEST-clause-too_large c =
    too_large (base_of c.args.radix) c.loop-digit.number c.loop-digit.digit-index c.from.result c.from-in-loop-digit.result c.args.digits.now
    c.loop-digit-test.true c.loop-digit.invariant.value (c.from.ensures ∙ c.base.ensures) (c.from-in-loop-digit.ensures ∙ c.digit_value.ensures) c.if-number-gt-GREATEST.true
