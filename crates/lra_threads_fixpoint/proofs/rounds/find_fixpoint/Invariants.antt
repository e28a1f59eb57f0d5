use Rattle.std.proofs.Common.{◌≡◌, ◌+◌, length}
use Rattle.lra_threads_fixpoint.specs.Intervals.{AreRowsWide, table_measure}
use Rattle.lra_threads_fixpoint.proofs.RoundLemmas.{Reaches}
use Rattle.lra_threads_fixpoint.proofs.rounds.find_fixpoint.Given as goal

-- how the rounds from here end all end; each thread has its interval of each global
abbrev pub invariant-rounds : goal.invariant-rounds
invariant-rounds g l = record {
  reaches : Reaches g.T.Threads.finding (g.T.Threads.shared l.threads) (g.T.Threads.finds l.threads) (g.T.Threads.threads l.threads) l.left l.flag
      l.table.items;
  wide : AreRowsWide (g.T.Threads.shared l.threads) l.table.items;
  long : length l.table.items ≡ g.T.Threads.threads l.threads;
}

abbrev pub decreases-rounds : goal.decreases-rounds
decreases-rounds g l = l.left + table_measure l.table.items
