-- Goals of `begin_for`: a `for`, up to its branch.
use Rattle.lra_syntax.specs.declared.tokens.Mark.TheVariants as mark
use Rattle.lra_parser_spec.specs.{Reading.expect_at, Reading.seq, Reading.map_read, Statements.branch_at, Statements.for_head_at, Statements.for_of}
use Rattle.lra_parse_expressions.proofs.Turning.{seq_exit, seq_then}
use Rattle.lra_parse_heads.proofs.Goes.{exit_on}
use Rattle.lra_parse_heads.proofs.heads.begin_for.Goals as goal

pub returns-in_err-place-clause-gives : goal.returns-in_err-place-clause-gives
returns-in_err-place-clause-gives c = exit_on _ c.from_residual.result _ _ c.from_residual.ensures.1
    (seq_exit (expect_at mark.For) (λ at. seq (for_head_at c.args.depth) (λ k. map_read (for_of at k) (branch_at c.args.depth))) c.args.rest.now c.in_err-place.field-0.0
    c.in_err-place.ensures.gives)

pub returns-in_err-head-clause-gives : goal.returns-in_err-head-clause-gives
returns-in_err-head-clause-gives c = exit_on _ c.from_residual-in_err-head.result _ _ c.from_residual-in_err-head.ensures.1
    (seq_then (expect_at mark.For) (λ at. seq (for_head_at c.args.depth) (λ k. map_read (for_of at k) (branch_at c.args.depth))) c.args.rest.now c.in_ok-place.word.now
    c.in_ok-place.place c.in_err-head.field-0.0 c.in_ok-place.ensures.gives
    (seq_exit (for_head_at c.args.depth) (λ k. map_read (for_of c.in_ok-place.place k) (branch_at c.args.depth)) c.in_ok-place.word.now c.in_err-head.field-0.0 c.in_err-head.ensures.gives))
