-- What an iteration finds holds in all runs.
use Rattle.std.proofs.Common.{true, refl}
use Rattle.lra_analyse_source.specs.Crates.{lra_analysis_spec.Operations.lossy_operations, lra_domain.Abstraction.Abstraction, lra_domain.Laws.Laws}
use Rattle.lra_fixpoint.proofs.Counting.{iteration_fails_once}
use Rattle.lra_analyse_source.specs.Soundness.{SolvedAreSound}
use Rattle.lra_analyse_source.proofs.{Numbering.numbered, Sound.value_there, Sound.proved_holds, Sound.none_comes}

pub solved_holds : (V H : Type 0) (m : Abstraction V H) → Laws m → SolvedAreSound m
solved_holds V H m laws plan P tree values verdicts flagged solved good graph agrees = record {
  stores = value_there V H m laws plan P good tree solved.result solved.derived agrees values verdicts flagged solved.solves;
  proved = λ q s there listed. proved_holds V H m laws plan P good tree solved.result solved.derived agrees values verdicts flagged solved.solves
      (iteration_fails_once (lossy_operations m) plan P tree solved.result (numbered P tree graph) solved.derived) q s true there listed refl;
  unreached = none_comes V H m laws plan P good tree solved.result solved.derived agrees values verdicts flagged solved.solves;
}
