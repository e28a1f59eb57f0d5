-- Goals of `read_after_group`: the test that begins with a condition in parentheses.
use Rattle.std.proofs.Common.{◌≡◌, Some, ap, ◌∙◌, subst}
use Rattle.lra_syntax.specs.Views.{unary_view, term_view, expr_view, cond_view}
use Rattle.lra_syntax.specs.{Trees.unary, Trees.term, Trees.group, declared.trees.Cond.Cond, declared.trees.Expr.Expr, declared.trees.Unary.Group}
use Rattle.lra_parser_spec.specs.{Expressions.alone, Expressions.unary_at, Expressions.factors, Expressions.summands, Expressions.compared, Reading.seq}
use Rattle.lra_parse_expressions.proofs.{Turning.exit_gives, Turning.gives_same, Turning.err_same, Turning.seq_exit, Turning.seq_then, Turning.seq_handed, Unfolded.group_from, Viewed.group_is}
use Rattle.lra_parse_expressions.proofs.conditions.read_after_group.Goals as goal

pub returns-in_err-term-in-Ok-clause-gives : goal.returns-in_err-term-in-Ok-clause-gives
returns-in_err-term-in-Ok-clause-gives c =
    let u = unary_at c.args.depth in
    let g = unary_view (Group c.in_ok-new-in-Ok.field-0) in
    let is = group_from u (cond_view c.args.cond.value) (expr_view c.in-Ok.expr) g c.args.rest.now
    (subst (λ (k : Cond). alone (cond_view k) ≡ Some (expr_view c.in-Ok.expr)) c.into_inner.ensures c.in-Ok.ensures)
    (group_is c.in_ok-new-in-Ok.field-0 ∙ ap (λ (e : Expr). group (expr_view e)) c.in_ok-new-in-Ok.ensures.ok) in
    exit_gives _ c.from_residual-in_err-term-in-Ok.result _ _ c.from_residual-in_err-term-in-Ok.ensures.1
    (err_same _ _ _ is (seq_exit (factors u (unary g)) (λ t. seq (summands u (term t)) (compared u)) c.args.rest.now c.in_err-term-in-Ok.field-0.0 c.in_err-term-in-Ok.ensures.gives))

pub returns-in_err-expr-in-Ok-clause-gives : goal.returns-in_err-expr-in-Ok-clause-gives
returns-in_err-expr-in-Ok-clause-gives c =
    let u = unary_at c.args.depth in
    let g = unary_view (Group c.in_ok-new-in-Ok.field-0) in
    let is = group_from u (cond_view c.args.cond.value) (expr_view c.in-Ok.expr) g c.args.rest.now
    (subst (λ (k : Cond). alone (cond_view k) ≡ Some (expr_view c.in-Ok.expr)) c.into_inner.ensures c.in-Ok.ensures)
    (group_is c.in_ok-new-in-Ok.field-0 ∙ ap (λ (e : Expr). group (expr_view e)) c.in_ok-new-in-Ok.ensures.ok) in
    exit_gives _ c.from_residual-in_err-expr-in-Ok.result _ _ c.from_residual-in_err-expr-in-Ok.ensures.1
    (err_same _ _ _ is (seq_then (factors u (unary g)) (λ t. seq (summands u (term t)) (compared u)) c.args.rest.now c.in_ok-term-in-Ok.factors.now (term_view c.in_ok-term-in-Ok.term)
    c.in_err-expr-in-Ok.field-0.0 c.in_ok-term-in-Ok.ensures.gives
    (seq_exit (summands u (term (term_view c.in_ok-term-in-Ok.term))) (compared u) c.in_ok-term-in-Ok.factors.now c.in_err-expr-in-Ok.field-0.0 c.in_err-expr-in-Ok.ensures.gives)))

pub returns-in_ok-expr-in-Ok-clause-gives : goal.returns-in_ok-expr-in-Ok-clause-gives
returns-in_ok-expr-in-Ok-clause-gives c =
    let u = unary_at c.args.depth in
    let g = unary_view (Group c.in_ok-new-in-Ok.field-0) in
    let is = group_from u (cond_view c.args.cond.value) (expr_view c.in-Ok.expr) g c.args.rest.now
    (subst (λ (k : Cond). alone (cond_view k) ≡ Some (expr_view c.in-Ok.expr)) c.into_inner.ensures c.in-Ok.ensures)
    (group_is c.in_ok-new-in-Ok.field-0 ∙ ap (λ (e : Expr). group (expr_view e)) c.in_ok-new-in-Ok.ensures.ok) in
    gives_same _ c.read_compared.result _ _ (is
    ∙ seq_handed (factors u (unary g)) (λ t. seq (summands u (term t)) (compared u)) c.args.rest.now c.in_ok-term-in-Ok.factors.now (term_view c.in_ok-term-in-Ok.term) c.in_ok-term-in-Ok.ensures.gives
    ∙ seq_handed (summands u (term (term_view c.in_ok-term-in-Ok.term))) (compared u) c.in_ok-term-in-Ok.factors.now c.in_ok-expr-in-Ok.summands.now (expr_view c.in_ok-expr-in-Ok.expr)
    c.in_ok-expr-in-Ok.ensures.gives) c.read_compared.ensures.gives
