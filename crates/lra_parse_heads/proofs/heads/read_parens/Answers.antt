-- Goals of `read_parens`: a condition in parentheses that open no level.
use Rattle.lra_syntax.specs.declared.tokens.Mark.TheVariants as mark
use Rattle.lra_syntax.specs.Views.{cond_view}
use Rattle.lra_parser_spec.specs.{Expressions.ended, Expressions.cond_at, Reading.expect}
use Rattle.lra_parse_expressions.proofs.Turning.{exit_gives, seq_exit, seq_then, parens_give, parens_exit}
use Rattle.lra_parse_heads.proofs.heads.read_parens.Goals as goal

pub returns-in_err-opened-clause-gives : goal.returns-in_err-opened-clause-gives
returns-in_err-opened-clause-gives c = exit_gives _ c.from_residual.result _ _ c.from_residual.ensures.1
    (seq_exit (expect mark.OpenParen (tt {0})) (λ _. ended mark.CloseParen (cond_at c.args.depth)) c.args.rest.now c.in_err-opened.field-0.0 c.in_err-opened.ensures.gives)

pub returns-in_err-cond-clause-gives : goal.returns-in_err-cond-clause-gives
returns-in_err-cond-clause-gives c = exit_gives _ c.from_residual-in_err-cond.result _ _ c.from_residual-in_err-cond.ensures.1
    (seq_then (expect mark.OpenParen (tt {0})) (λ _. ended mark.CloseParen (cond_at c.args.depth)) c.args.rest.now c.in_ok-opened.opened.now (tt {0}) c.in_err-cond.field-0.0
    c.in_ok-opened.ensures.gives (seq_exit (cond_at c.args.depth) (λ k. expect mark.CloseParen k) c.in_ok-opened.opened.now c.in_err-cond.field-0.0 c.in_err-cond.ensures.gives))

pub returns-in_err-after-clause-gives : goal.returns-in_err-after-clause-gives
returns-in_err-after-clause-gives c = exit_gives _ c.from_residual-in_err-after.result _ _ c.from_residual-in_err-after.ensures.1
    (parens_exit (cond_at c.args.depth) c.args.rest.now c.in_ok-opened.opened.now c.in_ok-cond.behind.now (cond_view c.in_ok-cond.cond) c.in_err-after.field-0.0 c.in_ok-opened.ensures.gives
    c.in_ok-cond.ensures.gives c.in_err-after.ensures.gives)

pub returns-clause-gives : goal.returns-clause-gives
returns-clause-gives c = parens_give (cond_at c.args.depth) c.args.rest.now c.in_ok-opened.opened.now c.in_ok-cond.behind.now c.in_ok-after.after.now (cond_view c.in_ok-cond.cond)
    c.in_ok-opened.ensures.gives c.in_ok-cond.ensures.gives c.in_ok-after.ensures.gives
