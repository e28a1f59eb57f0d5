-- Goals of `push_state`: the lines of a point.
use Rattle.std.proofs.Common.{string_bytes}
use Rattle.lra_certify.proofs.TextSteps.{empty_told, rows_told, fit_none, fit_some}
use Rattle.lra_certify.proofs.text.push_state.Goals as goal

pub returns-in-None-clause-text : goal.returns-in-None-clause-text
returns-in-None-clause-text c =
    empty_told (string_bytes c.args.text.now) (string_bytes c.writeln.new.self) c.args.number c.args.state c.writeln.result c.in-None.is
    c.writeln.ensures.bytes

pub returns-in-None-clause-fit : goal.returns-in-None-clause-fit
returns-in-None-clause-fit c = fit_none c.writeln.result c.args.state c.in-None.is

pub returns-in_ok-writeln-in-Some-clause-text : goal.returns-in_ok-writeln-in-Some-clause-text
returns-in_ok-writeln-in-Some-clause-text c =
    rows_told (string_bytes c.args.text.now) (string_bytes c.push_rows.new.text) c.args.number c.args.state c.in-Some.rows c.in-Some.is
    (string_bytes c.writeln-in-Some.new.self) c.in_ok-writeln-in-Some.ensures.bytes c.push_rows.result c.push_rows.ensures.text

pub returns-in_ok-writeln-in-Some-clause-fit : goal.returns-in_ok-writeln-in-Some-clause-fit
returns-in_ok-writeln-in-Some-clause-fit c = fit_some c.push_rows.result c.args.state c.in-Some.rows c.in-Some.is c.push_rows.ensures.fit
