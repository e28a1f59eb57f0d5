-- Goals of `begin_switch`: a `switch`, up to its braces.
use Rattle.lra_syntax.specs.declared.tokens.Mark.TheVariants as mark
use Rattle.lra_syntax.specs.Trees.{switch}
use Rattle.lra_parser_spec.specs.{Expressions.in_parens, Expressions.expr_at, Reading.expect_at, Reading.seq, Reading.map_read, Statements.braces_at}
use Rattle.lra_parse_expressions.proofs.Turning.{seq_exit, seq_then}
use Rattle.lra_parse_heads.proofs.Goes.{exit_on, switch_goes}
use Rattle.lra_parse_heads.proofs.heads.begin_switch.Goals as goal

pub returns-in_err-place-clause-gives : goal.returns-in_err-place-clause-gives
returns-in_err-place-clause-gives c = exit_on _ c.from_residual.result _ _ c.from_residual.ensures.1
    (seq_exit (expect_at mark.Switch) (λ at. seq (in_parens (expr_at c.args.depth)) (λ e. map_read (switch at e) (braces_at c.args.depth))) c.args.rest.now
    c.in_err-place.field-0.0 c.in_err-place.ensures.gives)

pub returns-in_err-value-clause-gives : goal.returns-in_err-value-clause-gives
returns-in_err-value-clause-gives c = exit_on _ c.from_residual-in_err-value.result _ _ c.from_residual-in_err-value.ensures.1
    (seq_then (expect_at mark.Switch) (λ at. seq (in_parens (expr_at c.args.depth)) (λ e. map_read (switch at e) (braces_at c.args.depth))) c.args.rest.now
    c.in_ok-place.word.now
    c.in_ok-place.place c.in_err-value.field-0.0 c.in_ok-place.ensures.gives
    (seq_exit (in_parens (expr_at c.args.depth)) (λ e. map_read (switch c.in_ok-place.place e) (braces_at c.args.depth)) c.in_ok-place.word.now
    c.in_err-value.field-0.0 c.in_err-value.ensures.gives))

pub returns-clause-gives : goal.returns-clause-gives
returns-clause-gives c = switch_goes c.args.depth c.args.rest.now c.in_ok-place.word.now c.in_ok-value.closed.now c.in_ok-place.place c.in_ok-value.value
    c.in_ok-head.head c.in_ok-place.ensures.gives
    c.in_ok-value.ensures.gives c.in_ok-head.ensures.ok
