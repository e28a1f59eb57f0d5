use Rattle.std.proofs.Common.{◌≡◌, ◌≤◌, length, drop}
use Rattle.lra_verify.specs.Crates.{lra_certificate_spec.Lines.judged_in_turn, lra_certificate_spec.Lines.left_at, lra_path_disjuncts.TableDisjuncts.lists_done}
use Rattle.lra_verify.specs.EdgeViews.{path_of}
use Rattle.lra_verify.proofs.edges.take_paths.Given as goal

abbrev pub invariant-loop-path : goal.invariant-loop-path
invariant-loop-path l = record {
  so_far : judged_in_turn (path_of l.edge) (lists_done (drop l.path-index l.paths)) (left_at l.bytes l.next) ≡
      judged_in_turn (path_of l.edge) (lists_done l.paths) (left_at l.bytes l.at);
  within : l.next ≤ length l.bytes;
}
