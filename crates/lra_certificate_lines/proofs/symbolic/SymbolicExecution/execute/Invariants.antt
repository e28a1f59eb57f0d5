use Rattle.std.proofs.Common.{◌≡◌, ◌≤◌, ◌+◌, drop}
use Rattle.lra_multipliers.specs.Symbols.{new_symbols, executed_path, executed, width_of}
use Rattle.lra_certificate_lines.specs.SymbolicViews.{symbolic_view, HasWidth}
use Rattle.lra_certificate_lines.specs.Crates.lra_path_disjuncts.TableDisjuncts.{all_done}
use Rattle.lra_certificate_lines.proofs.symbolic.SymbolicExecution.execute.Given as goal

abbrev pub invariant-loop-change : goal.invariant-loop-change
invariant-loop-change l = record {
  so_far : executed (width_of l.live (all_done l.path)) (all_done (drop l.change-index l.path)) (symbolic_view l.walk) ≡
      executed_path l.live (all_done l.path);
  wide : HasWidth (width_of l.live (all_done l.path)) l.walk;
  free : l.walk.free + new_symbols (all_done (drop l.change-index l.path)) ≤ width_of l.live (all_done l.path);
}
