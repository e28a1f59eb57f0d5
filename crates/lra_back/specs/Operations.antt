-- The operations of which going back is made: those of an iteration, what was so before an assignment or a test, and
-- meets. Each is a relation of its operands, its exactness and its result, so that one definition serves for what is
-- written, for what drops something if it is flagged, and for where it exceeds a limit.
use Rattle.std.specs.Prelude.{◌≡◌}
use Rattle.lra_domain.specs.Actions.{Action, assign, forget, test, embed, remove_last}
use Rattle.lra_domain.specs.Backward.{BackwardAbstraction, TransfersBackTo, MeetsBoth}
use Rattle.lra_domain.specs.declared.Exactness.TheVariants.{Exact, Flagged}
use Rattle.lra_domain.specs.{Abstraction.Abstraction, Parts.CapsWithin, declared.Exactness.Exactness}
use Rattle.lra_back.specs.Crates.lra_analysis_spec.Operations as forward
use Rattle.lra_back.specs.Crates.lra_analysis_spec.Operations.{Operations}

pub record BackwardOperations (V H : Type 0) : Type 1 where
  pub forward : Operations V H
  -- from the value after an assignment or a test to the one before it
  pub pre : Action → V → Exactness → V → Type 0
  pub meet : V → V → Exactness → V → Type 0

-- every operation is exact and gives its defined result
abbrev pub exact_back_operations : {V H : Type 0} → Abstraction V H → BackwardAbstraction V → BackwardOperations V H
exact_back_operations m b = record {
  forward = forward.exact_operations m;
  pre = λ step v e w. (e ≡ Exact) × b.pre step v w;
  meet = λ u v e w. (e ≡ Exact) × b.met u v w;
}

-- one that exceeds a limit on the operands that it has may be flagged; its result then covers the defined one, and has
-- all stores that it must have
abbrev pub lossy_back_operations : {V H : Type 0} → Abstraction V H → BackwardAbstraction V → BackwardOperations V H
lossy_back_operations m b = record {
  forward = forward.lossy_operations m;
  pre = λ step v e w. TransfersBackTo m b step v e w × (m.dims w ≡ m.dims v) × CapsWithin (m.capped v) (m.capped w);
  meet = λ u v e w. MeetsBoth m b u v e w × (m.dims v ≡ m.dims u) × (m.dims w ≡ m.dims u) ×
      CapsWithin (λ c. m.capped u c × m.capped v c) (m.capped w);
}

-- one that exceeds a limit may be flagged, and then gives anything: so what comes before the first flag is as it is
-- defined, and the first flagged operation exceeds a limit on the operands that the definition has there
abbrev pub straining_back_operations : {V H : Type 0} → Abstraction V H → BackwardAbstraction V → BackwardOperations V H
straining_back_operations m b = record {
  forward = forward.straining_operations m;
  pre = λ step v e w. (e ≡ Exact → b.pre step v w) × (e ≡ Flagged → b.pre_strains step v);
  meet = λ u v e w. (e ≡ Exact → b.met u v w) × (e ≡ Flagged → b.meet_strains u v);
}

-- from the value after any change to the one before it: what was forgotten may have been anything, what was embedded
-- goes, what was removed comes again with any value
abbrev pub PreOfAction : {V H : Type 0} → BackwardOperations V H → Action → V → Exactness → V → Type 0
PreOfAction ops (assign x f) v e w = ops.pre (assign x f) v e w
PreOfAction ops (forget x) v e w = ops.forward.changed (forget x) v e w
PreOfAction ops (test kind f) v e w = ops.pre (test kind f) v e w
PreOfAction ops (embed k) v e w = ops.forward.changed (remove_last k) v e w
PreOfAction ops (remove_last k) v e w = ops.forward.changed (embed k) v e w
