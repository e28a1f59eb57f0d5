-- Goals of the functions that call each other around `expression`: `read_unary`, `read_named`, `read_index`, `read_group`,
-- `read_factors`, `read_summands`.
use Rattle.std.proofs.{Common.◌-◌, Common.List, Common.Ok, Common.refl, Common.sym, Common.ap, Common.◌∙◌, Common.arith, Common.map, lemmas.Result.err_from_is_err_and}
use Rattle.lra_base.specs.declared.refusals.Cause.TheVariants.{TooDeep}
use Rattle.lra_syntax.specs.declared.tokens.Mark.TheVariants as mark
use Rattle.lra_syntax.specs.Trees.{UnaryTree, TermTree, ExprTree, unary, term, group, element, negated, positive}
use Rattle.lra_syntax.specs.Views.{unary_view, term_view, expr_view, factor_view, summand_view, product, sum_of, further_factor, further_term}
use Rattle.lra_syntax.specs.{declared.trees.Expr.Expr, declared.trees.Factor.Factor, declared.trees.Summand.Summand, declared.trees.Unary.Unary, declared.trees.Unary.Literal}
use Rattle.lra_parser_spec.specs.Expressions.{factor_operator, sum_operator, unary_at, expr_at, factors, term_of, summands, ended, in_parens}
use Rattle.lra_parser_spec.specs.Reading.{Text, has, tail, chain_step, expect, map_read}
use Rattle.lra_parse_expressions.proofs.Turning.{exit_gives, gives_same, stop_gives, err_same, seq_exit, seq_then, seq_handed, map_exit, parens_exit, turns_start, pushed_turn, chain_exit, chain_end}
use Rattle.lra_parse_expressions.proofs.Turning.{between_give, between_first, between_part, between_exit}
use Rattle.lra_parse_expressions.proofs.Unfolded.{literal_gives, named_gives, element_gives, element_exit, variable_gives, index_zero, index_some, grouped_gives, minus_is, plus_is, open_is, input_is}
use Rattle.lra_parse_expressions.proofs.Unfolded.{name_exit, negated_zero, negated_some, positive_zero, positive_some, grouped_zero, grouped_some}
use Rattle.lra_parse_expressions.proofs.Viewed.{literal_is, variable_is, group_is, element_is, factor_is, term_is, summand_is, expr_is, product_push, sum_push}
use Rattle.lra_parse_expressions.proofs.expressions.+expression.Goals as goal

pub read_unary-returns-in-Some-clause-gives : goal.read_unary-returns-in-Some-clause-gives
read_unary-returns-in-Some-clause-gives t c = literal_gives c.args.depth c.args.rest.now c.in-Some.literal (sym c.in-Some.ensures) ∙
    ap (λ (u : UnaryTree). Ok (u, tail c.args.rest.now)) (sym (literal_is c.in-Some.literal.number_type c.in-Some.literal.value)) ∙
    ap (λ (R : Text). Ok (unary_view (Literal c.in-Some.literal.number_type c.in-Some.literal.value), R)) (sym c.tail.ensures.value)

pub read_unary-returns-clause-gives : goal.read_unary-returns-clause-gives
read_unary-returns-clause-gives t c =
    gives_same _ c.read_named.result _ _
    (named_gives c.args.depth c.args.rest.now c.in_ok-name.after.now c.in_ok-name.name c.in_ok-name.ensures.gives) c.read_named.ensures.gives

pub read_unary-returns-then-next_is-clause-gives : goal.read_unary-returns-then-next_is-clause-gives
read_unary-returns-then-next_is-clause-gives t c =
    gives_same _ c.read_negated.result _ _ (minus_is c.args.depth c.args.rest.now c.if-next_is.ensures) c.read_negated.ensures.gives

pub read_unary-returns-then-next_is-2-clause-gives : goal.read_unary-returns-then-next_is-2-clause-gives
read_unary-returns-then-next_is-2-clause-gives t c =
    gives_same _ c.read_positive.result _ _ (plus_is c.args.depth c.args.rest.now c.if-next_is.ensures c.if-next_is-2.ensures) c.read_positive.ensures.gives

pub read_unary-returns-then-next_is-3-clause-gives : goal.read_unary-returns-then-next_is-3-clause-gives
read_unary-returns-then-next_is-3-clause-gives t c =
    gives_same _ c.read_group.result _ _ (open_is c.args.depth c.args.rest.now c.if-next_is.ensures c.if-next_is-2.ensures c.if-next_is-3.ensures) c.read_group.ensures.gives

pub read_unary-returns-then-next_is-4-clause-gives : goal.read_unary-returns-then-next_is-4-clause-gives
read_unary-returns-then-next_is-4-clause-gives t c =
    gives_same _ c.read_input.result _ _ (input_is c.args.depth c.args.rest.now c.if-next_is.ensures c.if-next_is-2.ensures c.if-next_is-3.ensures c.if-next_is-4.ensures) c.read_input.ensures.gives

pub read_unary-returns-in_err-name-clause-gives : goal.read_unary-returns-in_err-name-clause-gives
read_unary-returns-in_err-name-clause-gives t c =
    exit_gives _ c.from_residual.result _ _ c.from_residual.ensures.1
    (name_exit c.args.depth c.args.rest.now c.in_err-name.field-0.0 c.if-next_is.ensures c.if-next_is-2.ensures c.if-next_is-3.ensures c.if-next_is-4.ensures (sym c.in_default.ensures)
    c.in_err-name.ensures.gives)

pub read_group-returns-clause-gives : goal.read_group-returns-clause-gives
read_group-returns-clause-gives t c =
    grouped_gives c.args.depth c.args.rest.now c.in_ok-opened.opened.now c.in_ok-expr.after.now c.in_ok-closed.closed.now
    (expr_view c.in_ok-expr.expr) c.if-depth-eq0.false c.in_ok-opened.ensures.gives c.in_ok-expr.ensures.gives c.in_ok-closed.ensures.gives
    ∙ ap (λ (u : UnaryTree). Ok (u, c.in_ok-closed.closed.now)) (sym (group_is c.in_ok-new.field-0 ∙ ap (λ (e : Expr). group (expr_view e)) c.in_ok-new.ensures.ok))

pub read_named-returns-then-next_is-clause-gives : goal.read_named-returns-then-next_is-clause-gives
read_named-returns-then-next_is-clause-gives t c =
    element_gives c.args.depth c.args.name c.args.rest.now c.in_ok-index.closed.now (expr_view c.in_ok-index.index) c.if-next_is.ensures
    c.in_ok-index.ensures.gives
    ∙ ap (λ (u : UnaryTree). Ok (u, c.in_ok-index.closed.now))
    (sym (element_is c.args.name c.in_ok-new.field-0 ∙ ap (λ (e : Expr). element c.args.name (expr_view e)) c.in_ok-new.ensures.ok))

pub read_named-returns-clause-gives : goal.read_named-returns-clause-gives
read_named-returns-clause-gives t c =
    variable_gives c.args.depth c.args.name c.args.rest.now c.if-next_is.ensures
    ∙ ap (λ (u : UnaryTree). Ok (u, c.args.rest.now)) (sym (variable_is c.args.name))

pub read_named-returns-in_err-index-clause-gives : goal.read_named-returns-in_err-index-clause-gives
read_named-returns-in_err-index-clause-gives t c =
    exit_gives _ c.from_residual.result _ _ c.from_residual.ensures.1
    (element_exit c.args.depth c.args.name c.args.rest.now c.in_err-index.field-0.0 c.if-next_is.ensures c.in_err-index.ensures.gives)

pub read_index-returns-then-depth-eq0-clause-gives : goal.read_index-returns-then-depth-eq0-clause-gives
read_index-returns-then-depth-eq0-clause-gives t c =
    stop_gives _ c.stop.result TooDeep c.args.rest.now _ (index_zero c.args.depth c.args.rest.now c.if-depth-eq0.true) c.stop.ensures

pub read_index-returns-in_err-opened-clause-gives : goal.read_index-returns-in_err-opened-clause-gives
read_index-returns-in_err-opened-clause-gives t c =
    exit_gives _ c.from_residual.result _ _ c.from_residual.ensures.1
    (err_same _ _ _ (index_some c.args.depth c.args.rest.now c.if-depth-eq0.false)
    (between_first mark.OpenBracket mark.CloseBracket (expr_at (c.args.depth - 1)) c.args.rest.now c.in_err-opened.field-0.0 c.in_err-opened.ensures.gives))

pub read_index-returns-in_err-expr-clause-gives : goal.read_index-returns-in_err-expr-clause-gives
read_index-returns-in_err-expr-clause-gives t c =
    exit_gives _ c.from_residual-in_err-expr.result _ _ c.from_residual-in_err-expr.ensures.1
    (err_same _ _ _ (index_some c.args.depth c.args.rest.now c.if-depth-eq0.false)
    (between_part mark.OpenBracket mark.CloseBracket (expr_at (c.args.depth - 1)) c.args.rest.now c.in_ok-opened.opened.now
    c.in_err-expr.field-0.0 c.in_ok-opened.ensures.gives c.in_err-expr.ensures.gives))

pub read_index-returns-in_err-closed-clause-gives : goal.read_index-returns-in_err-closed-clause-gives
read_index-returns-in_err-closed-clause-gives t c =
    exit_gives _ c.from_residual-in_err-closed.result _ _ c.from_residual-in_err-closed.ensures.1
    (err_same _ _ _ (index_some c.args.depth c.args.rest.now c.if-depth-eq0.false)
    (between_exit mark.OpenBracket mark.CloseBracket (expr_at (c.args.depth - 1)) c.args.rest.now c.in_ok-opened.opened.now c.in_ok-expr.after.now
    (expr_view c.in_ok-expr.expr) c.in_err-closed.field-0.0 c.in_ok-opened.ensures.gives c.in_ok-expr.ensures.gives c.in_err-closed.ensures.gives))

pub read_index-returns-clause-gives : goal.read_index-returns-clause-gives
read_index-returns-clause-gives t c =
    index_some c.args.depth c.args.rest.now c.if-depth-eq0.false ∙
    between_give mark.OpenBracket mark.CloseBracket (expr_at (c.args.depth - 1)) c.args.rest.now c.in_ok-opened.opened.now c.in_ok-expr.after.now
    c.in_ok-closed.closed.now (expr_view c.in_ok-expr.expr) c.in_ok-opened.ensures.gives c.in_ok-expr.ensures.gives c.in_ok-closed.ensures.gives

pub read_factors-factors-init : goal.read_factors-factors-init
read_factors-factors-init t c = record {
  room = omega arith;
  kept = refl;
  same = turns_start (λ o. has (factor_operator o)) (chain_step factor_operator further_factor (unary_at c.args.depth))
      (λ (fs : List Factor). product (unary (unary_view c.args.first)) (map factor_view fs))
      c.new-factors.result.items (unary (unary_view c.args.first)) c.args.rest.now c.new-factors.ensures.items refl;
}

pub read_factors-factors-preserved : goal.read_factors-factors-preserved
read_factors-factors-preserved t c = record {
  room = omega (arith, c.in_ok-unary.ensures.shorter, c.tail.ensures.shorter);
  kept = c.factors.invariant.kept;
  same = pushed_turn factor_operator refl further_factor (unary_at c.args.depth) (product (unary (unary_view c.args.first))) (product_push (unary (unary_view c.args.first))) factor_view
      c.factors.factors.items _ c.push.new.self.items c.in-Some.operator (unary_view c.in_ok-unary.unary) c.factors.left.now c.tail.result.now c.in_ok-unary.after.now
      (factors (unary_at c.args.depth) (unary (unary_view c.args.first)) c.args.rest.now)
      c.in_ok-push.ensures.items (factor_is (record { operator = c.in-Some.operator; unary = c.in_ok-unary.unary })) c.factors.invariant.same c.in-Some.ensures c.tail.ensures.value
      c.in_ok-unary.ensures.gives c.in_ok-unary.ensures.shorter;
}

pub read_factors-returns-clause-gives : goal.read_factors-returns-clause-gives
read_factors-returns-clause-gives t c =
    chain_end factor_operator refl further_factor (unary_at c.args.depth) (product (unary (unary_view c.args.first)) (map factor_view c.factors.factors.items)) c.factors.left.now _
    c.factors.invariant.same (sym c.in_default.ensures)
    ∙ ap (λ (t : TermTree). Ok (t, c.factors.left.now)) (sym (term_is (record { first = _; rest = c.factors.factors }) ∙
    ap (λ (u : Unary). product (unary (unary_view u)) (map factor_view c.factors.factors.items)) c.factors.invariant.kept))

pub read_factors-returns-in_err-unary-clause-gives : goal.read_factors-returns-in_err-unary-clause-gives
read_factors-returns-in_err-unary-clause-gives t c =
    let p = err_from_is_err_and c.from_residual.result c.from_residual.ensures.1 in
    rw (p.1, p.2) (chain_exit factor_operator refl further_factor (unary_at c.args.depth)
    (product (unary (unary_view c.args.first)) (map factor_view c.factors.factors.items)) c.in-Some.operator c.factors.left.now c.tail.result.now c.in_err-unary.field-0.0 _
    c.factors.invariant.same (sym c.in-Some.ensures) c.tail.ensures.value c.in_err-unary.ensures.gives)

pub read_summands-summands-init : goal.read_summands-summands-init
read_summands-summands-init t c = record {
  room = omega arith;
  same = turns_start (λ o. has (sum_operator o)) (chain_step sum_operator further_term (term_of (unary_at c.args.depth)))
      (λ (ss : List Summand). sum_of (term (term_view c.args.first)) (map summand_view ss))
      c.new-summands.result.items (term (term_view c.args.first)) c.args.rest.now c.new-summands.ensures.items refl;
}

pub read_summands-summands-preserved : goal.read_summands-summands-preserved
read_summands-summands-preserved t c = record {
  room = omega (arith, c.in_ok-term.ensures.shorter, c.tail.ensures.shorter);
  same = pushed_turn sum_operator refl further_term (term_of (unary_at c.args.depth)) (sum_of (term (term_view c.args.first))) (sum_push (term (term_view c.args.first))) summand_view
      c.summands.summands.items _ c.push.new.self.items c.in-Some.operator (term_view c.in_ok-term.term) c.summands.left.now c.tail.result.now c.in_ok-term.after.now
      (summands (unary_at c.args.depth) (term (term_view c.args.first)) c.args.rest.now)
      c.in_ok-push.ensures.items (summand_is (record { operator = c.in-Some.operator; term = c.in_ok-term.term })) c.summands.invariant.same c.in-Some.ensures c.tail.ensures.value
      c.in_ok-term.ensures.gives c.in_ok-term.ensures.shorter;
}

pub read_summands-returns-clause-gives : goal.read_summands-returns-clause-gives
read_summands-returns-clause-gives t c =
    chain_end sum_operator refl further_term (term_of (unary_at c.args.depth)) (sum_of (term (term_view c.args.first)) (map summand_view c.summands.summands.items)) c.summands.left.now _
    c.summands.invariant.same (sym c.in_default.ensures)
    ∙ ap (λ (e : ExprTree). Ok (e, c.summands.left.now)) (sym (expr_is (record { first = c.args.first; rest = c.summands.summands })))

pub read_summands-returns-in_err-term-clause-gives : goal.read_summands-returns-in_err-term-clause-gives
read_summands-returns-in_err-term-clause-gives t c =
    let p = err_from_is_err_and c.from_residual.result c.from_residual.ensures.1 in
    rw (p.1, p.2) (chain_exit sum_operator refl further_term (term_of (unary_at c.args.depth))
    (sum_of (term (term_view c.args.first)) (map summand_view c.summands.summands.items)) c.in-Some.operator c.summands.left.now c.tail.result.now c.in_err-term.field-0.0 _
    c.summands.invariant.same (sym c.in-Some.ensures) c.tail.ensures.value c.in_err-term.ensures.gives)

pub read_negated-returns-then-depth-eq0-clause-gives : goal.read_negated-returns-then-depth-eq0-clause-gives
read_negated-returns-then-depth-eq0-clause-gives t c =
    stop_gives _ c.stop.result TooDeep c.args.rest.now _ (negated_zero c.args.depth c.args.rest.now c.if-depth-eq0.true) c.stop.ensures

pub read_negated-returns-in_err-sign-clause-gives : goal.read_negated-returns-in_err-sign-clause-gives
read_negated-returns-in_err-sign-clause-gives t c =
    exit_gives _ c.from_residual.result _ _ c.from_residual.ensures.1
    (err_same _ _ _ (negated_some c.args.depth c.args.rest.now c.if-depth-eq0.false)
    (seq_exit (expect mark.Minus (tt {0})) (λ _. map_read negated (unary_at (c.args.depth - 1))) c.args.rest.now c.in_err-sign.field-0.0 c.in_err-sign.ensures.gives))

pub read_negated-returns-in_err-unary-clause-gives : goal.read_negated-returns-in_err-unary-clause-gives
read_negated-returns-in_err-unary-clause-gives t c =
    exit_gives _ c.from_residual-in_err-unary.result _ _ c.from_residual-in_err-unary.ensures.1
    (err_same _ _ _ (negated_some c.args.depth c.args.rest.now c.if-depth-eq0.false)
    (seq_then (expect mark.Minus (tt {0})) (λ _. map_read negated (unary_at (c.args.depth - 1))) c.args.rest.now c.in_ok-sign.sign.now (tt {0}) c.in_err-unary.field-0.0 c.in_ok-sign.ensures.gives
    (map_exit negated (unary_at (c.args.depth - 1)) c.in_ok-sign.sign.now c.in_err-unary.field-0.0 c.in_err-unary.ensures.gives)))

pub read_positive-returns-then-depth-eq0-clause-gives : goal.read_positive-returns-then-depth-eq0-clause-gives
read_positive-returns-then-depth-eq0-clause-gives t c =
    stop_gives _ c.stop.result TooDeep c.args.rest.now _ (positive_zero c.args.depth c.args.rest.now c.if-depth-eq0.true) c.stop.ensures

pub read_positive-returns-in_err-sign-clause-gives : goal.read_positive-returns-in_err-sign-clause-gives
read_positive-returns-in_err-sign-clause-gives t c =
    exit_gives _ c.from_residual.result _ _ c.from_residual.ensures.1
    (err_same _ _ _ (positive_some c.args.depth c.args.rest.now c.if-depth-eq0.false)
    (seq_exit (expect mark.Plus (tt {0})) (λ _. map_read positive (unary_at (c.args.depth - 1))) c.args.rest.now c.in_err-sign.field-0.0 c.in_err-sign.ensures.gives))

pub read_positive-returns-in_err-unary-clause-gives : goal.read_positive-returns-in_err-unary-clause-gives
read_positive-returns-in_err-unary-clause-gives t c =
    exit_gives _ c.from_residual-in_err-unary.result _ _ c.from_residual-in_err-unary.ensures.1
    (err_same _ _ _ (positive_some c.args.depth c.args.rest.now c.if-depth-eq0.false)
    (seq_then (expect mark.Plus (tt {0})) (λ _. map_read positive (unary_at (c.args.depth - 1))) c.args.rest.now c.in_ok-sign.sign.now (tt {0}) c.in_err-unary.field-0.0 c.in_ok-sign.ensures.gives
    (map_exit positive (unary_at (c.args.depth - 1)) c.in_ok-sign.sign.now c.in_err-unary.field-0.0 c.in_err-unary.ensures.gives)))

pub read_group-returns-then-depth-eq0-clause-gives : goal.read_group-returns-then-depth-eq0-clause-gives
read_group-returns-then-depth-eq0-clause-gives t c =
    stop_gives _ c.stop.result TooDeep c.args.rest.now _ (grouped_zero c.args.depth c.args.rest.now c.if-depth-eq0.true) c.stop.ensures

pub read_group-returns-in_err-opened-clause-gives : goal.read_group-returns-in_err-opened-clause-gives
read_group-returns-in_err-opened-clause-gives t c =
    exit_gives _ c.from_residual.result _ _ c.from_residual.ensures.1
    (err_same _ _ _ (grouped_some c.args.depth c.args.rest.now c.if-depth-eq0.false)
    (map_exit group (in_parens (expr_at (c.args.depth - 1))) c.args.rest.now _
    (seq_exit (expect mark.OpenParen (tt {0})) (λ _. ended mark.CloseParen (expr_at (c.args.depth - 1))) c.args.rest.now c.in_err-opened.field-0.0 c.in_err-opened.ensures.gives)))

pub read_group-returns-in_err-expr-clause-gives : goal.read_group-returns-in_err-expr-clause-gives
read_group-returns-in_err-expr-clause-gives t c =
    exit_gives _ c.from_residual-in_err-expr.result _ _ c.from_residual-in_err-expr.ensures.1
    (err_same _ _ _ (grouped_some c.args.depth c.args.rest.now c.if-depth-eq0.false)
    (map_exit group (in_parens (expr_at (c.args.depth - 1))) c.args.rest.now _
    (seq_then (expect mark.OpenParen (tt {0})) (λ _. ended mark.CloseParen (expr_at (c.args.depth - 1))) c.args.rest.now c.in_ok-opened.opened.now (tt {0})
    c.in_err-expr.field-0.0 c.in_ok-opened.ensures.gives
    (seq_exit (expr_at (c.args.depth - 1)) (λ e. expect mark.CloseParen e) c.in_ok-opened.opened.now c.in_err-expr.field-0.0 c.in_err-expr.ensures.gives))))

pub read_group-returns-in_err-closed-clause-gives : goal.read_group-returns-in_err-closed-clause-gives
read_group-returns-in_err-closed-clause-gives t c =
    exit_gives _ c.from_residual-in_err-closed.result _ _ c.from_residual-in_err-closed.ensures.1
    (err_same _ _ _ (grouped_some c.args.depth c.args.rest.now c.if-depth-eq0.false)
    (map_exit group (in_parens (expr_at (c.args.depth - 1))) c.args.rest.now _
    (parens_exit (expr_at (c.args.depth - 1)) c.args.rest.now c.in_ok-opened.opened.now c.in_ok-expr.after.now (expr_view c.in_ok-expr.expr) c.in_err-closed.field-0.0 c.in_ok-opened.ensures.gives
    c.in_ok-expr.ensures.gives c.in_err-closed.ensures.gives)))

pub read_term-returns-in_err-first-clause-gives : goal.read_term-returns-in_err-first-clause-gives
read_term-returns-in_err-first-clause-gives t c =
    exit_gives _ c.from_residual.result _ _ c.from_residual.ensures.1
    (seq_exit (unary_at c.args.depth) (λ a. factors (unary_at c.args.depth) (unary a)) c.args.rest.now c.in_err-first.field-0.0 c.in_err-first.ensures.gives)

pub read_term-returns-clause-gives : goal.read_term-returns-clause-gives
read_term-returns-clause-gives t c =
    gives_same _ c.read_factors.result _ _ (seq_handed (unary_at c.args.depth) (λ a. factors (unary_at c.args.depth) (unary a)) c.args.rest.now
    c.in_ok-first.after.now (unary_view c.in_ok-first.first) c.in_ok-first.ensures.gives)
    c.read_factors.ensures.gives

pub read_expr-returns-in_err-first-clause-gives : goal.read_expr-returns-in_err-first-clause-gives
read_expr-returns-in_err-first-clause-gives t c =
    exit_gives _ c.from_residual.result _ _ c.from_residual.ensures.1
    (seq_exit (term_of (unary_at c.args.depth)) (λ t. summands (unary_at c.args.depth) (term t)) c.args.rest.now c.in_err-first.field-0.0 c.in_err-first.ensures.gives)

pub read_expr-returns-clause-gives : goal.read_expr-returns-clause-gives
read_expr-returns-clause-gives t c =
    gives_same _ c.read_summands.result _ _ (seq_handed (term_of (unary_at c.args.depth)) (λ t. summands (unary_at c.args.depth) (term t)) c.args.rest.now
    c.in_ok-first.after.now (term_view c.in_ok-first.first) c.in_ok-first.ensures.gives)
    c.read_summands.ensures.gives
