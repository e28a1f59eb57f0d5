-- Goals of `next_is`: whether the next token is the mark.
use Rattle.std.proofs.Common.{◌∙◌}
use Rattle.lra_parser_spec.proofs.Marks.{next_mark}
use Rattle.lra_parser_spec.proofs.reading.next_is.Goals as goal

pub returns-in-Mark : goal.returns-in-Mark
returns-in-Mark c = c.eq.ensures ∙ next_mark c.args.rest.now c.in-Some.token.now c.args.mark c.in-Mark.next c.in-Mark.is c.in-Some.ensures.value
