use Rattle.std.proofs.Common.{◌≡◌, ◌++◌, replicate, true}
use Rattle.lra_descriptions.proofs.known.push_true_rows.Given as goal

abbrev pub invariant-loop : goal.invariant-loop
invariant-loop l = l.matrix ≡ record l.fn.matrix { rows = l.fn.matrix.rows ++ replicate l.counter (replicate l.fn.matrix.width true) }
