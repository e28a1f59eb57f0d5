-- Goals of `go_round`: thread by thread.
use Rattle.std.proofs.Common.{arith}
use Rattle.lra_threads_fixpoint.proofs.RoundLemmas.{begun_so_far, one_more, whole_round}
use Rattle.lra_threads_fixpoint.proofs.rounds.go_round.Goals as goal

pub threads-init : goal.threads-init
threads-init g c =
    begun_so_far g.T.Threads.finding (g.T.Threads.shared c.args.threads.now) (g.T.Threads.finds c.args.threads.now) c.args.flag c.args.table.now
    c.new.result.items c.new-2.result.items c.new.ensures.items c.new-2.ensures.items

pub threads-preserved : goal.threads-preserved
threads-preserved g c =
    let shared = g.T.Threads.shared c.args.threads.now in
    let finds = g.T.Threads.finds c.args.threads.now in
    let turn = c.in_ok-turn.turn in
    let before = c.threads.round in
    let after = c.add.new.self in
    one_more g.T.Threads.finding shared finds c.threads.k c.args.flag c.args.table.now before.found.items before.written.items before.flag
    turn.found turn.written turn.point after.found.items after.written.items after.flag c.threads.invariant
    c.in_ok-turn.ensures.0 c.in_ok-turn.ensures.1 c.in_ok-turn.ensures.2 c.in_ok-add.ensures.0 c.in_ok-add.ensures.1 c.in_ok-add.ensures.2

pub returns : goal.returns
returns g c =
    let end = c.threads-test.false in
    let most = c.threads.auto.k-end in
    let is = c.count-k-end.ensures in
    whole_round g.T.Threads.finding (g.T.Threads.shared c.args.threads.now) (g.T.Threads.finds c.args.threads.now) c.threads.k
    (g.T.Threads.threads c.args.threads.now) c.args.flag c.args.table.now _ _ _ (omega (arith, end, most, is)) c.threads.invariant
