use Rattle.std.proofs.Common.{◌≡◌, ◌++◌, take}
use Rattle.lra_path_disjuncts.specs.{Disjuncts.disjuncts, TableDisjuncts.lists_done, Tables.moves_at}
use Rattle.lra_path_disjuncts.proofs.tables.write_disjuncts.Given as goal

abbrev pub invariant-sides : goal.invariant-sides
invariant-sides l = lists_done l.all.items ≡ lists_done l.fn.all.items ++ take l.number (disjuncts (moves_at l.fn.entries l.fn.place))
