-- Goals of `read_declarators`: declarators with commas between them.
use Rattle.std.proofs.{Common.List, Common.[], Common.refl, Common.sym, Common.arith, Common.map, lemmas.Result.err_from_is_err_and}
use Rattle.lra_syntax.specs.declared.tokens.Mark.TheVariants as mark
use Rattle.lra_syntax.specs.{Trees.DeclaratorTree, Views.declarator_view}
use Rattle.lra_parser_spec.specs.{Expressions.after_mark, Reading.list_step, Statements.declarator_at, Statements.declaration_of, Tests.is_mark}
use Rattle.lra_parse_expressions.proofs.Turning.{exit_gives, commas_first, turns_start, turn_off, list_grown, comma_turn, comma_exit, commas_gives, commas_exit}
use Rattle.lra_parse_expressions.proofs.assignments.read_declarators.Goals as goal

pub declarators-init : goal.declarators-init
declarators-init c = record {
  room = c.in_ok-first.ensures.shorter;
  same = turns_start (is_mark mark.Comma) (list_step (after_mark mark.Comma (declarator_at c.args.depth)))
      (map declarator_view) c.new-declarators.result.items [] c.in_ok-first.left.now c.new-declarators.ensures.items refl;
}

pub declarators-preserved : goal.declarators-preserved
declarators-preserved c = record {
  room = omega (arith, c.in_ok-declarator.ensures.shorter, c.tail.ensures.shorter);
  same = comma_turn mark.Comma (declarator_at c.args.depth) (map declarator_view c.declarators.declarators.items) (map declarator_view c.push.new.self.items)
      (declarator_view c.in_ok-declarator.declarator) c.declarators.left.now c.tail.result.now c.in_ok-declarator.after.now _
      (list_grown (λ (l : List DeclaratorTree). l) declarator_view c.declarators.declarators.items c.push.new.self.items c.in_ok-declarator.declarator c.in_ok-push.ensures.items)
      c.declarators.invariant.same c.declarators-test.ensures c.tail.ensures.value c.in_ok-declarator.ensures.gives c.in_ok-declarator.ensures.shorter;
}

pub returns-clause-gives : goal.returns-clause-gives
returns-clause-gives c = commas_gives (declarator_at c.args.depth) (declaration_of c.args.number_type) (declarator_view c.in_ok-first.first)
    (map declarator_view c.declarators.declarators.items) c.args.rest.now c.in_ok-first.left.now c.declarators.left.now c.in_ok-first.ensures.gives
    (turn_off (is_mark mark.Comma) (list_step (after_mark mark.Comma (declarator_at c.args.depth)))
    (map declarator_view c.declarators.declarators.items) c.declarators.left.now _ c.declarators.invariant.same (sym c.declarators-test.ensures))

pub returns-in_err-declarator-clause-gives : goal.returns-in_err-declarator-clause-gives
returns-in_err-declarator-clause-gives c =
    let p = err_from_is_err_and c.from_residual-in_err-declarator.result c.from_residual-in_err-declarator.ensures.1 in
    rw (p.1, p.2) (commas_exit (declarator_at c.args.depth) (declaration_of c.args.number_type)
    (declarator_view c.in_ok-first.first) c.args.rest.now c.in_ok-first.left.now c.in_err-declarator.field-0.0
    c.in_ok-first.ensures.gives
    (comma_exit mark.Comma (declarator_at c.args.depth) (map declarator_view c.declarators.declarators.items) c.declarators.left.now c.tail.result.now c.in_err-declarator.field-0.0 _
    c.declarators.invariant.same c.declarators-test.ensures c.tail.ensures.value c.in_err-declarator.ensures.gives))

pub returns-in_err-first-clause-gives : goal.returns-in_err-first-clause-gives
returns-in_err-first-clause-gives c = exit_gives _ c.from_residual.result _ _ c.from_residual.ensures.1
    (commas_first (declarator_at c.args.depth) (declaration_of c.args.number_type) c.args.rest.now c.in_err-first.field-0.0 c.in_err-first.ensures.gives)
