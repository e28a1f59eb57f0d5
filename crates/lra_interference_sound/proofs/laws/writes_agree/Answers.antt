-- Goals of `writes_agree`: does nothing.
use Rattle.std.proofs.Common.{ap, length, IsTrue}
use Rattle.lra_interference_sound.specs.Crates.{lra_program.Step.State, lra_program.Traces.NoChange}
use Rattle.lra_interleavings.specs.ThreadModular.{OthersInterfere, OthersWrite}
use Rattle.lra_interleavings.proofs.RunSegments.{changes_width}
use Rattle.lra_interference_sound.proofs.Writes as gifts
use Rattle.lra_interference_sound.proofs.laws.writes_agree.Goals as goal

pub returns : goal.returns
returns c = record {
  alone = gifts.writes_agree NoChange (λ s t same. ap (λ (u : State). length u.store) same);
  others = λ P fs within k. gifts.writes_agree (OthersInterfere P fs (λ j x z. IsTrue (within j x z)) k)
      (λ s t change. changes_width (length P.globals) (OthersWrite P fs (λ j x z. IsTrue (within j x z)) k) s.store t.store change.store);
}
