-- Goals of `read_value`: the test that begins with an expression outside parentheses.
use Rattle.lra_syntax.specs.Views.{expr_view}
use Rattle.lra_parser_spec.specs.Expressions.{unary_at, expr_at, compared}
use Rattle.lra_parse_expressions.proofs.Turning.{exit_gives, gives_same, seq_exit, seq_handed}
use Rattle.lra_parse_expressions.proofs.conditions.read_value.Goals as goal

pub returns-in_err-expr-clause-gives : goal.returns-in_err-expr-clause-gives
returns-in_err-expr-clause-gives c = exit_gives _ c.from_residual.result _ _ c.from_residual.ensures.1
    (seq_exit (expr_at c.args.depth) (compared (unary_at c.args.depth)) c.args.rest.now c.in_err-expr.field-0.0 c.in_err-expr.ensures.gives)

pub returns-clause-gives : goal.returns-clause-gives
returns-clause-gives c = gives_same _ c.read_compared.result _ _ (seq_handed (expr_at c.args.depth) (compared (unary_at c.args.depth)) c.args.rest.now c.in_ok-expr.after.now
    (expr_view c.in_ok-expr.expr) c.in_ok-expr.ensures.gives) c.read_compared.ensures.gives
