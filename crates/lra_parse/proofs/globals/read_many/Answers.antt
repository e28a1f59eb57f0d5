-- Goals of `read_many`: globals with commas between them, after the name of the first.
use Rattle.std.proofs.{Common.List, Common.[], Common.refl, Common.sym, Common.arith, Common.map, lemmas.Result.err_from_is_err_and}
use Rattle.lra_syntax.specs.declared.tokens.Mark.TheVariants as mark
use Rattle.lra_syntax.specs.{Trees.GlobalTree, Views.global_view}
use Rattle.lra_parser_spec.specs.{Expressions.after_mark, Files.global_rest, Files.global_at, Files.globals_of, Reading.list_step, Tests.is_mark}
use Rattle.lra_parse.proofs.Crates.lra_parse_expressions.Turning.{turns_start, turn_off, list_grown, comma_turn, comma_exit, from_gives, from_exit}
use Rattle.lra_parse.proofs.globals.read_many.Goals as goal

pub globals-init : goal.globals-init
globals-init c = record {
  room = c.in_ok-first.ensures.shorter;
  same = turns_start (is_mark mark.Comma) (list_step (after_mark mark.Comma global_at)) (map global_view) c.new-globals.result.items [] c.in_ok-first.left.now c.new-globals.ensures.items refl;
}

pub globals-preserved : goal.globals-preserved
globals-preserved c = record {
  room = omega (arith, c.in_ok-global.ensures.shorter, c.tail.ensures.shorter, c.globals.invariant.room);
  same = comma_turn mark.Comma global_at (map global_view c.globals.globals.items) (map global_view c.push.new.self.items)
      (global_view c.in_ok-global.global) c.globals.left.now c.tail.result.now c.in_ok-global.after.now _
      (list_grown (λ (l : List GlobalTree). l) global_view c.globals.globals.items c.push.new.self.items c.in_ok-global.global c.in_ok-push.ensures.items)
      c.globals.invariant.same c.globals-test.ensures c.tail.ensures.value c.in_ok-global.ensures.gives c.in_ok-global.ensures.shorter;
}

pub returns-clause-gives : goal.returns-clause-gives
returns-clause-gives c = from_gives (global_rest c.args.name) global_at (globals_of c.args.number_type) (global_view c.in_ok-first.first)
    (map global_view c.globals.globals.items) c.args.rest.now c.in_ok-first.left.now c.globals.left.now c.in_ok-first.ensures.gives
    (turn_off (is_mark mark.Comma) (list_step (after_mark mark.Comma global_at)) (map global_view c.globals.globals.items) c.globals.left.now _ c.globals.invariant.same (sym c.globals-test.ensures))

pub returns-in_err-global-clause-gives : goal.returns-in_err-global-clause-gives
returns-in_err-global-clause-gives c =
    let p = err_from_is_err_and c.from_residual-in_err-global.result c.from_residual-in_err-global.ensures.1 in
    rw (p.1, p.2) (from_exit (global_rest c.args.name) global_at (globals_of c.args.number_type)
    (global_view c.in_ok-first.first) c.args.rest.now c.in_ok-first.left.now c.in_err-global.field-0.0 c.in_ok-first.ensures.gives
    (comma_exit mark.Comma global_at (map global_view c.globals.globals.items) c.globals.left.now c.tail.result.now c.in_err-global.field-0.0 _ c.globals.invariant.same c.globals-test.ensures
    c.tail.ensures.value c.in_err-global.ensures.gives))
