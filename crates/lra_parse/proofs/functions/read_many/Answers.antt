-- Goals of `read_many`: parameters with commas between them.
use Rattle.std.proofs.{Common.arith, lemmas.Result.err_from_is_err_and}
use Rattle.lra_parser_spec.specs.Files.{parameter_at}
use Rattle.lra_parse.proofs.Crates.lra_parse_expressions.Called.{many_start, many_turn, many_exit, many_gives}
use Rattle.lra_parse.proofs.functions.read_many.Goals as goal

pub many-init : goal.many-init
many-init c = record {
  room = omega (arith, c.in_ok-first.ensures.shorter);
  read = many_start parameter_at c.in_ok-items.items.items c.in_ok-first.first c.args.rest.now c.in_ok-first.left.now c.in_ok-items.ensures c.in_ok-first.ensures.gives;
}

pub many-preserved : goal.many-preserved
many-preserved c = record {
  room = omega (arith, c.in_ok-parameter.ensures.shorter, c.tail.ensures.shorter);
  read = many_turn parameter_at c.many.items.items c.push.new.self.items c.in_ok-parameter.parameter c.args.rest.now c.many.left.now c.tail.result.now c.in_ok-parameter.after.now
      c.in_ok-push.ensures.items
      c.many.invariant.read c.many-test.ensures c.tail.ensures.value c.in_ok-parameter.ensures.gives (omega (arith, c.in_ok-parameter.ensures.shorter));
}

pub returns-clause-gives : goal.returns-clause-gives
returns-clause-gives c = many_gives parameter_at c.many.items.items c.args.rest.now c.many.left.now c.many.invariant.read c.many-test.ensures

pub returns-in_err-parameter-clause-gives : goal.returns-in_err-parameter-clause-gives
returns-in_err-parameter-clause-gives c =
    let p = err_from_is_err_and c.from_residual-in_err-parameter.result c.from_residual-in_err-parameter.ensures.1 in
    rw (p.1, p.2) (many_exit parameter_at c.many.items.items c.args.rest.now c.many.left.now c.tail.result.now c.in_err-parameter.field-0.0 c.many.invariant.read c.many-test.ensures
    c.tail.ensures.value c.in_err-parameter.ensures.gives)
