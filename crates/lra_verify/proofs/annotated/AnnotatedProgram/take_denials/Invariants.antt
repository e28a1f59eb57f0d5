use Rattle.std.proofs.Common.{◌≡◌, ◌≤◌, ◌-◌, length}
use Rattle.std.specs.List.{range_with_len}
use Rattle.lra_verify.specs.EdgeViews.{violation_by, violations_by}
use Rattle.lra_verify.specs.Crates.lra_certificate_spec.Lines.{judged_in_turn, left_at}
use Rattle.lra_verify.proofs.annotated.AnnotatedProgram.take_denials.Given as goal

abbrev pub invariant-loop-source : goal.invariant-loop-source
invariant-loop-source l = record {
  so_far : judged_in_turn (violation_by l.self l.point) (range_with_len l.source (length l.self.sources.now - l.source)) (left_at l.bytes l.next) ≡
      violations_by l.self l.point (left_at l.bytes l.at);
  within : l.next ≤ length l.bytes;
}
