-- Goals of `read_switched`: an expression in parentheses that open no level.
use Rattle.lra_syntax.specs.declared.tokens.Mark.TheVariants as mark
use Rattle.lra_syntax.specs.Views.{expr_view}
use Rattle.lra_parser_spec.specs.{Expressions.ended, Expressions.expr_at, Reading.expect}
use Rattle.lra_parse_expressions.proofs.Turning.{exit_gives, seq_exit, seq_then, parens_give, parens_exit}
use Rattle.lra_parse_heads.proofs.heads.read_switched.Goals as goal

pub returns-in_err-opened-clause-gives : goal.returns-in_err-opened-clause-gives
returns-in_err-opened-clause-gives c = exit_gives _ c.from_residual.result _ _ c.from_residual.ensures.1
    (seq_exit (expect mark.OpenParen (tt {0})) (λ _. ended mark.CloseParen (expr_at c.args.depth)) c.args.rest.now c.in_err-opened.field-0.0
    c.in_err-opened.ensures.gives)

pub returns-in_err-value-clause-gives : goal.returns-in_err-value-clause-gives
returns-in_err-value-clause-gives c = exit_gives _ c.from_residual-in_err-value.result _ _ c.from_residual-in_err-value.ensures.1
    (seq_then (expect mark.OpenParen (tt {0})) (λ _. ended mark.CloseParen (expr_at c.args.depth)) c.args.rest.now c.in_ok-opened.opened.now (tt {0})
    c.in_err-value.field-0.0
    c.in_ok-opened.ensures.gives (seq_exit (expr_at c.args.depth) (λ k. expect mark.CloseParen k) c.in_ok-opened.opened.now c.in_err-value.field-0.0
    c.in_err-value.ensures.gives))

pub returns-in_err-after-clause-gives : goal.returns-in_err-after-clause-gives
returns-in_err-after-clause-gives c = exit_gives _ c.from_residual-in_err-after.result _ _ c.from_residual-in_err-after.ensures.1
    (parens_exit (expr_at c.args.depth) c.args.rest.now c.in_ok-opened.opened.now c.in_ok-value.behind.now (expr_view c.in_ok-value.value)
    c.in_err-after.field-0.0 c.in_ok-opened.ensures.gives
    c.in_ok-value.ensures.gives c.in_err-after.ensures.gives)

pub returns-clause-gives : goal.returns-clause-gives
returns-clause-gives c = parens_give (expr_at c.args.depth) c.args.rest.now c.in_ok-opened.opened.now c.in_ok-value.behind.now c.in_ok-after.after.now
    (expr_view c.in_ok-value.value)
    c.in_ok-opened.ensures.gives c.in_ok-value.ensures.gives c.in_ok-after.ensures.gives
