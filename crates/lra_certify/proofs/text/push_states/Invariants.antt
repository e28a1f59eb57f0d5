use Rattle.std.proofs.Common.{◌≡◌, ◌++◌, suc, drop, take, map, string_bytes}
use Rattle.std.specs.List.{All}
use Rattle.lra_certify.specs.Crates.lra_certificate_spec.CertificateText.{states_text}
use Rattle.lra_verify.specs.PointViews.{state_view}
use Rattle.lra_certify.specs.Lines.{HasPointRows}
use Rattle.lra_certify.proofs.text.push_states.Given as goal

abbrev pub invariant-loop-index : goal.invariant-loop-index
invariant-loop-index l = record {
  so_far : string_bytes l.text ++ states_text (suc l.index) (map state_view (drop l.index l.states)) ≡
      string_bytes l.initial.text ++ states_text 1 (map state_view l.states);
  fit : All HasPointRows (take l.index l.states);
}
