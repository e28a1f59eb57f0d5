use Rattle.std.proofs.Common.{◌≡◌, ◌≤◌, ◌+◌, drop}
use Rattle.lra_multipliers.specs.Symbols.{tests_in}
use Rattle.lra_certificate_lines.specs.Crates.lra_path_disjuncts.TableDisjuncts.{all_done}
use Rattle.lra_certificate_lines.proofs.path_checks.count_tests.Given as goal

abbrev pub invariant-loop-change : goal.invariant-loop-change
invariant-loop-change l = record {
  so_far : l.count + tests_in (all_done (drop l.change-index l.path)) ≡ tests_in (all_done l.path);
  few : l.count ≤ l.change-index;
}
