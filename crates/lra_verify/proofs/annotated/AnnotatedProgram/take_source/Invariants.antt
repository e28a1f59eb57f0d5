use Rattle.std.proofs.Common.{◌≡◌, ◌≤◌, ◌-◌, length}
use Rattle.std.specs.List.{range_with_len}
use Rattle.lra_verify.specs.EdgeViews.{source_by, paths_to_by}
use Rattle.lra_verify.specs.Crates.lra_certificate_spec.Lines.{judged_in_turn, left_at}
use Rattle.lra_verify.proofs.annotated.AnnotatedProgram.take_source.Given as goal

abbrev pub invariant-loop-point : goal.invariant-loop-point
invariant-loop-point l = record {
  so_far : judged_in_turn (paths_to_by l.self l.source) (range_with_len l.point (length l.self.sites.now - l.point)) (left_at l.bytes l.next) ≡
      source_by l.self l.source (left_at l.bytes l.at);
  within : l.next ≤ length l.bytes;
}
