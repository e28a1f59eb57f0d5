-- Goals of `read_test_to`: a condition up to the semicolon, or the semicolon alone.
use Rattle.lra_syntax.specs.declared.tokens.Mark.TheVariants as mark
use Rattle.lra_syntax.specs.Views.{cond_view}
use Rattle.lra_parser_spec.specs.Expressions.{cond_at}
use Rattle.lra_parse_expressions.proofs.Turning.{exit_gives, up_to_first, up_to_exit}
use Rattle.lra_parse_heads.proofs.loops.read_test_to.Goals as goal

pub returns-in_err-cond-clause-gives : goal.returns-in_err-cond-clause-gives
returns-in_err-cond-clause-gives c = exit_gives _ c.from_residual.result _ _ c.from_residual.ensures.1
    (up_to_first mark.Semicolon (cond_at c.args.depth) c.args.rest.now c.in_err-cond.field-0.0 c.if-next_is.ensures c.in_err-cond.ensures.gives)

pub returns-in_err-after-clause-gives : goal.returns-in_err-after-clause-gives
returns-in_err-after-clause-gives c = exit_gives _ c.from_residual-in_err-after.result _ _ c.from_residual-in_err-after.ensures.1
    (up_to_exit mark.Semicolon (cond_at c.args.depth) c.args.rest.now c.in_ok-cond.behind.now (cond_view c.in_ok-cond.cond) c.in_err-after.field-0.0 c.if-next_is.ensures c.in_ok-cond.ensures.gives
    c.in_err-after.ensures.gives)
