-- Goals of `join_running`: what comes in at a label joins what runs there.
use Rattle.std.proofs.Common.{sym}
use Rattle.lra_pass_stack.proofs.SelectFrames.{joined_none, joined_some, run_dims}
use Rattle.lra_pass_stack.proofs.selections.join_running.Goals as goal

pub returns-in-None : goal.returns-in-None
returns-in-None g c = joined_none g.D.Domain.abstraction c.args.point c.args.entered c.args.so_far c.note-flag.result c.in-None.is c.note-flag.ensures

pub join-requires : goal.join-requires
join-requires g c =
    let m = g.D.Domain.abstraction in
    run_dims m (m.dims c.args.entered.value) c.args.so_far.normal c.in-Some.value c.in-Some.is c.requires

pub returns-in_ok-joined-in-Some : goal.returns-in_ok-joined-in-Some
returns-in_ok-joined-in-Some g c =
    let m = g.D.Domain.abstraction in
    let by = c.in_ok-joined-in-Some.ensures in
    let wide = run_dims m (m.dims c.args.entered.value) c.args.so_far.normal c.in-Some.value c.in-Some.is c.requires in
    joined_some m c.args.point c.args.entered c.args.so_far c.in-Some.value c.join.new.self c.in_ok-joined-in-Some.joined c.note-flag.result c.note-last.result
    c.in-Some.is
    (by.joins, sym wide, by.dims, by.capped) c.note-flag.ensures c.note-last.ensures
