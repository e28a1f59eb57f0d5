use Rattle.lra_threads_fixpoint.proofs.RoundLemmas.{SoFar}
use Rattle.lra_threads_fixpoint.proofs.rounds.go_round.Given as goal

abbrev pub invariant-threads : goal.invariant-threads
invariant-threads g l = SoFar g.T.Threads.finding (g.T.Threads.shared l.threads) (g.T.Threads.finds l.threads) l.k l.fn.flag l.table
    l.round.found.items l.round.written.items l.round.flag
