use Rattle.std.proofs.Common.{◌≡◌, drop}
use Rattle.lra_linear_spec.specs.Echelon.{pivot, lead_from}
use Rattle.lra_row.proofs.entries.pivot_of.Given as goal

abbrev pub invariant-loop-j : goal.invariant-loop-j
invariant-loop-j l = lead_from l.j (drop l.j l.xs) ≡ pivot l.xs
