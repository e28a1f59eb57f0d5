-- Goals of `read_many`: expressions with commas between them.
use Rattle.std.proofs.{Common.List, Common.ap, Common.arith, Common.map, lemmas.Result.err_from_is_err_and}
use Rattle.lra_syntax.specs.{Trees.ExprTree, Views.expr_view}
use Rattle.lra_parser_spec.specs.{Expressions.expr_at, Statements.listed}
use Rattle.lra_parse_expressions.proofs.{Called.many_start, Called.many_turn, Called.many_exit, Called.many_gives, Turning.exit_gives, Turning.commas_first, Turning.list_grown}
use Rattle.lra_parse_expressions.proofs.calls.read_many.Goals as goal

pub many-init : goal.many-init
many-init c = record {
  room = c.in_ok-first.ensures.shorter;
  read = many_start (expr_at c.args.depth) (map expr_view c.in_ok-items.items.items) (expr_view c.in_ok-first.first) c.args.rest.now c.in_ok-first.left.now
      (ap (map expr_view) c.in_ok-items.ensures) c.in_ok-first.ensures.gives;
}

pub many-preserved : goal.many-preserved
many-preserved c = record {
  room = omega (arith, c.in_ok-expr.ensures.shorter, c.tail.ensures.shorter);
  read = many_turn (expr_at c.args.depth) (map expr_view c.many.items.items) (map expr_view c.push.new.self.items)
      (expr_view c.in_ok-expr.expr) c.args.rest.now c.many.left.now c.tail.result.now c.in_ok-expr.after.now
      (list_grown (λ (l : List ExprTree). l) expr_view c.many.items.items c.push.new.self.items c.in_ok-expr.expr c.in_ok-push.ensures.items)
      c.many.invariant.read c.many-test.ensures c.tail.ensures.value c.in_ok-expr.ensures.gives c.in_ok-expr.ensures.shorter;
}

pub returns-clause-gives : goal.returns-clause-gives
returns-clause-gives c = many_gives (expr_at c.args.depth) (map expr_view c.many.items.items) c.args.rest.now c.many.left.now c.many.invariant.read c.many-test.ensures

pub returns-in_err-expr-clause-gives : goal.returns-in_err-expr-clause-gives
returns-in_err-expr-clause-gives c =
    let p = err_from_is_err_and c.from_residual-in_err-expr.result c.from_residual-in_err-expr.ensures.1 in
    rw (p.1, p.2) (many_exit (expr_at c.args.depth) (map expr_view c.many.items.items) c.args.rest.now c.many.left.now c.tail.result.now c.in_err-expr.field-0.0 c.many.invariant.read
    c.many-test.ensures c.tail.ensures.value c.in_err-expr.ensures.gives)

pub returns-in_err-first-clause-gives : goal.returns-in_err-first-clause-gives
returns-in_err-first-clause-gives c = exit_gives _ c.from_residual.result _ _ c.from_residual.ensures.1
    (commas_first (expr_at c.args.depth) listed c.args.rest.now c.in_err-first.field-0.0 c.in_err-first.ensures.gives)
