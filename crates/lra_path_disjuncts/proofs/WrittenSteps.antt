-- Operations lead where one of their lists of actions leads.
use Rattle.std.proofs.Common.{◌≡◌, ℕ, List, [], ◌∷◌, length, inl, ap, subst}
use Rattle.lra_path_disjuncts.specs.Crates.lra_domain.Moves.{SomeLeads}
use Rattle.lra_program.specs.Step.{State}
use Rattle.lra_path_segments.specs.Segments.{SegmentStep, RunsOps}
use Rattle.lra_path_disjuncts.specs.{Disjuncts.disjuncts, Disjuncts.written, StepMoves.dims_after_step, StepMoves.step_moves}
use Rattle.lra_path_disjuncts.proofs.{SideSteps.disjuncts_lead, SideSteps.then_leads, StepLaws.step_leads, StepLaws.step_length}

pub written_lead : (ops : List SegmentStep) (s t : State) → RunsOps ops s t → SomeLeads (written (length s.store) ops) s.store t.store
written_lead [] s t e = inl (ap (λ (u : State). u.store) e)
written_lead (step ∷ ops) s t (m, o, r) =
    let one = (disjuncts_lead (step_moves (length s.store) step) s.store m.store).0 (step_leads step s m o) in
    let rest = subst (λ n. SomeLeads (written n ops) m.store t.store) (step_length step s m o) (written_lead ops m t r) in
    then_leads s.store t.store (disjuncts (step_moves (length s.store) step)) (written (dims_after_step step (length s.store)) ops) m.store one rest

-- of so many variables
pub written_from : (ops : List SegmentStep) (live : ℕ) (s t : State) → length s.store ≡ live → RunsOps ops s t → SomeLeads (written live ops) s.store t.store
written_from ops live s t e r = subst (λ n. SomeLeads (written n ops) s.store t.store) e (written_lead ops s t r)
