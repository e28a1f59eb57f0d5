-- Goals of `read_returned`: what a `return` gives up to the semicolon, or the semicolon alone.
use Rattle.lra_syntax.specs.declared.tokens.Mark.TheVariants as mark
use Rattle.lra_syntax.specs.Views.{rvalue_view}
use Rattle.lra_parser_spec.specs.Statements.{rvalue_at}
use Rattle.lra_parse_expressions.proofs.Turning.{exit_gives, up_to_first, up_to_exit}
use Rattle.lra_parse_heads.proofs.loops.read_returned.Goals as goal

pub returns-in_err-rvalue-clause-gives : goal.returns-in_err-rvalue-clause-gives
returns-in_err-rvalue-clause-gives c = exit_gives _ c.from_residual.result _ _ c.from_residual.ensures.1
    (up_to_first mark.Semicolon (rvalue_at c.args.depth) c.args.rest.now c.in_err-rvalue.field-0.0 c.if-next_is.ensures c.in_err-rvalue.ensures.gives)

pub returns-in_err-end-clause-gives : goal.returns-in_err-end-clause-gives
returns-in_err-end-clause-gives c = exit_gives _ c.from_residual-in_err-end.result _ _ c.from_residual-in_err-end.ensures.1
    (up_to_exit mark.Semicolon (rvalue_at c.args.depth) c.args.rest.now c.in_ok-rvalue.behind.now (rvalue_view c.in_ok-rvalue.rvalue) c.in_err-end.field-0.0 c.if-next_is.ensures
    c.in_ok-rvalue.ensures.gives
    c.in_err-end.ensures.gives)
