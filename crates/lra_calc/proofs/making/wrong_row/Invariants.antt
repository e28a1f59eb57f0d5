use Rattle.std.proofs.Common.{◌≡◌, drop, map}
use Rattle.lra_calc.specs.Script as script
use Rattle.lra_script.specs.Views.{constraint_of}
use Rattle.lra_calc.proofs.making.wrong_row.Given as goal

abbrev pub invariant-loop-constraint : goal.invariant-loop-constraint
invariant-loop-constraint l =
    script.wrong_row l.n (map constraint_of (drop l.constraint-index l.rows)) ≡ script.wrong_row l.n (map constraint_of l.rows)
