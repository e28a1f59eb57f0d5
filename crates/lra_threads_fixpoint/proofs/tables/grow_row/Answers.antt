-- Goals of `grow_row`: the thread's intervals, if the table has that.
use Rattle.std.proofs.Common.{arith}
use Rattle.lra_threads_fixpoint.specs.Intervals.{grown_row}
use Rattle.lra_threads_fixpoint.proofs.ListLemmas.{read_set, updated_past}
use Rattle.lra_threads_fixpoint.proofs.tables.grow_row.Goals as goal

pub returns-then-k-len : goal.returns-then-k-len
returns-then-k-len c =
    let inside = c.if-k-len.true in
    let long = c.len.ensures in
    read_set c.args.table.now.items c.args.k (λ row. grown_row c.args.growth row c.args.written.now) c.index_mut.result.now c.grow.new.self
    (omega (arith, inside, long)) c.index_mut.ensures.value c.grow.ensures

pub returns-else-k-len : goal.returns-else-k-len
returns-else-k-len c =
    let past = c.if-k-len.false in
    let long = c.len.ensures in
    updated_past c.args.table.now.items c.args.k (λ row. grown_row c.args.growth row c.args.written.now) (omega (arith, past, long))
