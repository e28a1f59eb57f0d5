use Rattle.std.proofs.Common.{◌≡◌, ◌<◌, ◌+◌, ◌^◌, drop}
use Rattle.lra_multipliers.specs.Symbols.{new_symbols}
use Rattle.lra_certificate_lines.specs.Crates.lra_path_disjuncts.TableDisjuncts.{all_done}
use Rattle.lra_certificate_lines.proofs.symbolic.count_symbols.Given as goal

abbrev pub invariant-loop-change : goal.invariant-loop-change
invariant-loop-change l = record {
  so_far : l.count + new_symbols (all_done (drop l.change-index l.path)) ≡ new_symbols (all_done l.path);
  small : l.count < 2 ^ 60;
}
