use Rattle.std.proofs.Common.{◌≡◌, ◌≤◌, drop}
use Rattle.lra_syntax.specs.Lexeme.{greatest_literal, number_after}
use Rattle.lra_lex.specs.Literal.{base_of}
use Rattle.lra_lex.proofs.literals.parse_digits.Given as goal

abbrev pub invariant-loop-digit : goal.invariant-loop-digit
invariant-loop-digit l = record {
  bounded : l.number ≤ greatest_literal;
  value : number_after (base_of l.radix) l.number (drop l.digit-index l.digits) ≡ number_after (base_of l.radix) 0 l.digits;
}
