-- Goals of `grow_table`: thread by thread.
use Rattle.lra_threads_fixpoint.specs.Intervals.{grown_row}
use Rattle.lra_threads_fixpoint.proofs.ListLemmas.{places_read, places_done}
use Rattle.lra_threads_fixpoint.proofs.tables.grow_table.Goals as goal

pub threads-preserved : goal.threads-preserved
threads-preserved c =
    places_read (grown_row c.args.growth) c.threads.k c.args.written.now c.index-written-k.result c.args.table.now.items c.threads.table.items
    c.grow_row.new.table.items c.threads-test.true c.index-written-k.is c.grow_row.ensures c.threads.invariant

pub returns : goal.returns
returns c =
    places_done (grown_row c.args.growth) c.threads.k c.args.written.now c.args.table.now.items c.threads.table.items c.threads-test.false c.threads.invariant
