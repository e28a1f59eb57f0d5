-- Goals of `find_interference`: the threads before, and those after.
use Rattle.lra_threads_fixpoint.proofs.InterferenceLemmas.{told_parts}
use Rattle.lra_threads_fixpoint.proofs.tables.find_interference.Goals as goal

pub returns : goal.returns
returns c =
    told_parts c.args.globals c.args.k c.args.table.now _ _ _ _ _ c.in_ok-told.ensures c.split_at.ensures.front c.split_at-2.ensures.back
    c.join_rows.ensures c.join_rows-2.ensures
