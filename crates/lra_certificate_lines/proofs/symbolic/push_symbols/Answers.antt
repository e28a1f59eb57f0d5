-- Goals of `push_symbols`: so many variables come last, each of a symbol of its own.
use Rattle.std.proofs.Common.{arith}
use Rattle.lra_certificate_lines.proofs.WalkSteps.{symbols_pushed}
use Rattle.lra_certificate_lines.proofs.symbolic.push_symbols.Goals as goal

pub loop-column-preserved : goal.loop-column-preserved
loop-column-preserved c =
    let from = c.loop-column.auto.column in
    let t = c.loop-column-test.true in
    let f = c.requires.free in
    symbols_pushed c.args.forms.now.items c.loop-column.forms.items c.push.new.self.items c.in_ok-unit.field-0 c.args.width c.args.first c.loop-column.column
    from (omega (arith, t, f, from)) c.loop-column.invariant c.in_ok-push.ensures.items c.in_ok-unit.ensures
