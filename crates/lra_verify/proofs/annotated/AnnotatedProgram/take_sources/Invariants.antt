use Rattle.std.proofs.Common.{◌≡◌, ◌≤◌, ◌-◌, length}
use Rattle.std.specs.List.{range_with_len}
use Rattle.lra_verify.specs.EdgeViews.{source_by, sources_by}
use Rattle.lra_verify.specs.Crates.lra_certificate_spec.Lines.{judged_in_turn, left_at}
use Rattle.lra_verify.proofs.annotated.AnnotatedProgram.take_sources.Given as goal

abbrev pub invariant-loop-source : goal.invariant-loop-source
invariant-loop-source l = record {
  so_far : judged_in_turn (source_by l.self) (range_with_len l.source (length l.self.sources.now - l.source)) (left_at l.bytes l.next) ≡
      sources_by l.self (left_at l.bytes l.at);
  within : l.next ≤ length l.bytes;
}
