use Rattle.std.proofs.Common.{◌≡◌, ◌≤◌, ◌+◌, length, map, drop}
use Rattle.lra_operations.specs.TreeViews.{site_view}
use Rattle.lra_verify.specs.Crates.{lra_certificate_spec.Judged.judged_states, lra_certificate_spec.Lines.left_at}
use Rattle.lra_verify.specs.PointViews.{state_view, HaveDims}
use Rattle.lra_certificate_lines.proofs.JudgedLines.{states_after}
use Rattle.lra_verify.proofs.points.take_points.Given as goal

abbrev pub invariant-loop-index : goal.invariant-loop-index
invariant-loop-index l = record {
  so_far : states_after (map state_view l.states.items) (judged_states (l.index + 1) (map site_view (drop l.index l.sites)) (left_at l.bytes l.at)) ≡
      judged_states 1 (map site_view l.sites) (left_at l.bytes 0);
  within : l.at ≤ length l.bytes;
  count : length l.states.items ≡ l.index;
  dims : HaveDims (map site_view l.sites) l.states.items;
}
