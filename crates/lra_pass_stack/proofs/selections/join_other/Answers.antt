-- Goals of `join_other`: what runs after the last arm; if no label is `default`, what has no match joins it.
use Rattle.std.proofs.Common.{sym}
use Rattle.lra_pass_stack.proofs.SelectFrames.{comes_out_joined, comes_out_same}
use Rattle.lra_pass_stack.proofs.selections.join_other.Goals as goal

pub returns-then-has_default : goal.returns-then-has_default
returns-then-has_default g c = comes_out_same g.D.Domain.abstraction c.args.point c.args.has_default c.args.other.now c.args.running c.if-has_default.true
    c.requires

pub returns : goal.returns
returns g c =
    let by = c.in_ok-exactness.ensures in
    comes_out_joined g.D.Domain.abstraction c.args.point c.args.has_default c.args.other.now c.args.running c.join.new.self c.in_ok-exactness.exactness
    c.note.result
    c.if-has_default.false (by.joins, sym c.requires, by.dims, by.capped) c.note.ensures
