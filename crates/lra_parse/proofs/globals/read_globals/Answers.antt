-- Goals of `read_globals`: globals with their semicolon, after the name of the first.
use Rattle.std.proofs.lemmas.Result.{err_from_is_err_and}
use Rattle.lra_syntax.specs.declared.tokens.Mark.TheVariants as mark
use Rattle.lra_syntax.specs.{Trees.globals, Views.globals_view}
use Rattle.lra_parser_spec.specs.{Files.global_rest, Files.global_at, Files.globals_of, Statements.commas_from}
use Rattle.lra_parse.proofs.Headed.{ended_exit}
use Rattle.lra_parse.proofs.globals.read_globals.Goals as goal

pub returns-in_err-after-clause-gives : goal.returns-in_err-after-clause-gives
returns-in_err-after-clause-gives c =
    let p = err_from_is_err_and c.from_residual-in_err-after.result c.from_residual-in_err-after.ensures.1 in
    rw (p.1, p.2) (ended_exit mark.Semicolon (commas_from (global_rest c.args.name) global_at) (globals_of c.args.number_type)
    c.args.rest.now c.in_ok-globals.behind.now
    (globals (globals_view c.in_ok-globals.globals)) c.in_err-after.field-0.0 c.in_ok-globals.ensures.gives c.in_err-after.ensures.gives)
