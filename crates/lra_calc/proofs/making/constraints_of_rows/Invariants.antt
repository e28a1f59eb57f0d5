use Rattle.std.proofs.Common.{◌≡◌, ◌++◌, drop, length, map}
use Rattle.lra_calc.specs.Crates.lra_systems.LinearSystems.{constraints}
use Rattle.lra_script.specs.Views.{constraint_of}
use Rattle.lra_calc.proofs.making.constraints_of_rows.Given as goal

abbrev pub invariant-loop-constraint : goal.invariant-loop-constraint
invariant-loop-constraint l = record {
  dims : l.system.dims ≡ l.n;
  kinds : length l.system.rows ≡ length l.system.kinds;
  made : constraints l.system ++ map constraint_of (drop l.constraint-index l.rows) ≡ map constraint_of l.rows;
}
