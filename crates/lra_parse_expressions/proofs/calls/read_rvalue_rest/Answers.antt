-- Goals of `read_rvalue_rest`: a call, or an expression, after the name that it begins with.
use Rattle.lra_syntax.specs.{Trees.unary, Trees.term, Trees.expression, Trees.result, Views.unary_view, Views.term_view}
use Rattle.lra_parser_spec.specs.{Expressions.unary_at, Expressions.factors, Expressions.summands, Reading.map_read, Statements.call_rest}
use Rattle.lra_parse_expressions.proofs.{Turning.exit_gives, Turning.err_same, Turning.seq_exit, Turning.seq_then, Turning.map_exit, Unfolded.call_is, Unfolded.no_call_is, Unfolded.no_call_exit}
use Rattle.lra_parse_expressions.proofs.calls.read_rvalue_rest.Goals as goal

pub returns-in_err-call-clause-gives : goal.returns-in_err-call-clause-gives
returns-in_err-call-clause-gives c = exit_gives _ c.from_residual.result _ _ c.from_residual.ensures.1
    (err_same _ _ _ (call_is c.args.depth c.args.name c.args.rest.now c.if-next_is.ensures)
    (map_exit result (call_rest c.args.depth c.args.name) c.args.rest.now c.in_err-call.field-0.0 c.in_err-call.ensures.gives))

pub returns-in_err-unary-clause-gives : goal.returns-in_err-unary-clause-gives
returns-in_err-unary-clause-gives c = exit_gives _ c.from_residual-in_err-unary.result _ _ c.from_residual-in_err-unary.ensures.1
    (no_call_exit c.args.depth c.args.name c.args.rest.now c.if-next_is.ensures c.in_err-unary.field-0.0 c.in_err-unary.ensures.gives)

pub returns-in_err-term-clause-gives : goal.returns-in_err-term-clause-gives
returns-in_err-term-clause-gives c =
    let u = unary_at c.args.depth in
    let a = unary_view c.in_ok-unary.unary in
    exit_gives _ c.from_residual-in_err-term.result _ _ c.from_residual-in_err-term.ensures.1
    (err_same _ _ _ (no_call_is c.args.depth c.args.name c.args.rest.now c.if-next_is.ensures c.in_ok-unary.named.now a c.in_ok-unary.ensures.gives)
    (seq_exit (factors u (unary a)) (λ t. map_read expression (summands u (term t))) c.in_ok-unary.named.now
    c.in_err-term.field-0.0 c.in_err-term.ensures.gives))

pub returns-in_err-expr-clause-gives : goal.returns-in_err-expr-clause-gives
returns-in_err-expr-clause-gives c =
    let u = unary_at c.args.depth in
    let a = unary_view c.in_ok-unary.unary in
    exit_gives _ c.from_residual-in_err-expr.result _ _ c.from_residual-in_err-expr.ensures.1
    (err_same _ _ _ (no_call_is c.args.depth c.args.name c.args.rest.now c.if-next_is.ensures c.in_ok-unary.named.now a c.in_ok-unary.ensures.gives)
    (seq_then (factors u (unary a)) (λ t. map_read expression (summands u (term t))) c.in_ok-unary.named.now
    c.in_ok-term.behind.now (term_view c.in_ok-term.term) c.in_err-expr.field-0.0 c.in_ok-term.ensures.gives
    (map_exit expression (summands u (term (term_view c.in_ok-term.term))) c.in_ok-term.behind.now c.in_err-expr.field-0.0 c.in_err-expr.ensures.gives)))
