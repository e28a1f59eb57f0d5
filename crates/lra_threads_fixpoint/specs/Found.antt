-- What the code answers, as rounds end.
use Rattle.lra_threads_fixpoint.specs.{Rounds.ThreadsFixpoint, declared.rounds.FixpointRound.FixpointRound}

abbrev pub fixpoint_view : {F : Type 0} → FixpointRound F → ThreadsFixpoint F
fixpoint_view end = record { table = end.table.items; found = end.found.items; flag = end.flag }
