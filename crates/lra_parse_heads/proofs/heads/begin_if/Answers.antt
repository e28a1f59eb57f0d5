-- Goals of `begin_if`: an `if`, up to its branch.
use Rattle.lra_syntax.specs.declared.tokens.Mark.TheVariants as mark
use Rattle.lra_parser_spec.specs.{Expressions.in_parens, Expressions.cond_at, Reading.expect_at, Reading.seq, Statements.branch_at, Statements.else_part}
use Rattle.lra_parse_expressions.proofs.Turning.{seq_exit, seq_then}
use Rattle.lra_parse_heads.proofs.Goes.{exit_on}
use Rattle.lra_parse_heads.proofs.heads.begin_if.Goals as goal

pub returns-in_err-place-clause-gives : goal.returns-in_err-place-clause-gives
returns-in_err-place-clause-gives c = exit_on _ c.from_residual.result _ _ c.from_residual.ensures.1
    (seq_exit (expect_at mark.If) (λ at. seq (in_parens (cond_at c.args.depth)) (λ k. seq (branch_at c.args.depth) (else_part (branch_at c.args.depth) at k))) c.args.rest.now
    c.in_err-place.field-0.0 c.in_err-place.ensures.gives)

pub returns-in_err-cond-clause-gives : goal.returns-in_err-cond-clause-gives
returns-in_err-cond-clause-gives c = exit_on _ c.from_residual-in_err-cond.result _ _ c.from_residual-in_err-cond.ensures.1
    (seq_then (expect_at mark.If) (λ at. seq (in_parens (cond_at c.args.depth)) (λ k. seq (branch_at c.args.depth) (else_part (branch_at c.args.depth) at k))) c.args.rest.now
    c.in_ok-place.word.now c.in_ok-place.place c.in_err-cond.field-0.0 c.in_ok-place.ensures.gives
    (seq_exit (in_parens (cond_at c.args.depth)) (λ k. seq (branch_at c.args.depth) (else_part (branch_at c.args.depth) c.in_ok-place.place k)) c.in_ok-place.word.now
    c.in_err-cond.field-0.0 c.in_err-cond.ensures.gives))
