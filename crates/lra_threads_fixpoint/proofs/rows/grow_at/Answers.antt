-- Goals of `grow_at`: the interval at the place, if there is that.
use Rattle.std.proofs.Common.{arith}
use Rattle.lra_threads_fixpoint.specs.Intervals.{grown_option}
use Rattle.lra_threads_fixpoint.proofs.ListLemmas.{read_set, updated_past}
use Rattle.lra_threads_fixpoint.proofs.rows.grow_at.Goals as goal

pub returns-then-x-len : goal.returns-then-x-len
returns-then-x-len c =
    let inside = c.if-x-len.true in
    let long = c.len.ensures in
    read_set c.args.row.now.items c.args.x (λ i. grown_option c.args.growth i c.args.other) c.index.result.now c.grow.result (omega (arith, inside, long))
    c.index.ensures c.grow.ensures

pub returns-else-x-len : goal.returns-else-x-len
returns-else-x-len c =
    let past = c.if-x-len.false in
    let long = c.len.ensures in
    updated_past c.args.row.now.items c.args.x (λ i. grown_option c.args.growth i c.args.other) (omega (arith, past, long))
