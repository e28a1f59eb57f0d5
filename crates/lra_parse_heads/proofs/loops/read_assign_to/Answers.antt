-- Goals of `read_assign_to`: an assignment up to the mark, or the mark alone.
use Rattle.std.proofs.lemmas.Result.{err_from_is_err_and}
use Rattle.lra_syntax.specs.Views.{assign_view}
use Rattle.lra_parser_spec.specs.Statements.{assign_at}
use Rattle.lra_parse_expressions.proofs.Turning.{exit_gives, up_to_first, up_to_exit}
use Rattle.lra_parse_heads.proofs.loops.read_assign_to.Goals as goal

pub returns-in_err-after-clause-gives : goal.returns-in_err-after-clause-gives
returns-in_err-after-clause-gives c =
    let p = err_from_is_err_and c.from_residual-in_err-after.result c.from_residual-in_err-after.ensures.1 in
    rw (p.1, p.2) (up_to_exit c.args.mark (assign_at c.args.depth) c.args.rest.now c.in_ok-assign.behind.now
    (assign_view c.in_ok-assign.assign) c.in_err-after.field-0.0 c.if-next_is.ensures c.in_ok-assign.ensures.gives c.in_err-after.ensures.gives)

pub returns-in_err-assign-clause-gives : goal.returns-in_err-assign-clause-gives
returns-in_err-assign-clause-gives c = exit_gives _ c.from_residual.result _ _ c.from_residual.ensures.1
    (up_to_first c.args.mark (assign_at c.args.depth) c.args.rest.now c.in_err-assign.field-0.0 c.if-next_is.ensures c.in_err-assign.ensures.gives)
