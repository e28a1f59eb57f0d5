use Rattle.std.proofs.Common.{◌≡◌, ◌++◌}
use Rattle.lra_path_disjuncts.specs.{TableDisjuncts.all_done, TableDisjuncts.all_pending, TableDisjuncts.pending_disjuncts_size, Tables.moves_at, Tables.disjunct_at}
use Rattle.lra_path_disjuncts.proofs.tables.write_disjunct.Given as goal

-- what is written, and then what is due, is the disjunct
abbrev pub invariant-left : goal.invariant-left
invariant-left l = all_done l.side.items ++ all_pending l.entries l.left.items ≡ disjunct_at (moves_at l.entries l.place) l.number

abbrev pub decreases-left : goal.decreases-left
decreases-left l = pending_disjuncts_size l.entries l.left.items
