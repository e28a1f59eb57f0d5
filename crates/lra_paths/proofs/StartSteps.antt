-- Operations from the start lead where one of their lists of actions leads.
use Rattle.std.proofs.{Common.ℤ, Common.List, Common.[], Common.map, Common.length, lemmas.List.length-map}
use Rattle.lra_paths.specs.Crates.lra_path_segments.Segments.{SegmentStep, RunsOps}
use Rattle.lra_paths.specs.Crates.{lra_analysis_spec.MovesOf.first_values, lra_domain.Moves.SomeLeads, lra_program.Program.Program, lra_program.Run.begun, lra_program.Step.State}
use Rattle.lra_paths.specs.Crates.{lra_program.WellFormed.AreGoodGlobals, lra_program.declared.program.GlobalVariable.GlobalVariable}
use Rattle.lra_paths.proofs.Crates.lra_analysis_spec.Keeping.{first_lead}
use Rattle.lra_path_disjuncts.specs.Disjuncts.{disjuncts, written}
use Rattle.lra_paths.specs.Paths.{from_start}
use Rattle.lra_path_disjuncts.proofs.{SideSteps.disjuncts_lead, SideSteps.then_leads, WrittenSteps.written_from}

-- from the start, where the globals get their first values
pub start_leads : (P : Program) → AreGoodGlobals P.globals → (ops : List SegmentStep) (draws : List ℤ) (t : State) → RunsOps ops (begun P draws) t → SomeLeads
    (from_start P ops) [] t.store
start_leads P good ops draws t r =
    let values : List ℤ = map (λ (g : GlobalVariable). g.value) P.globals in
    let one = (disjuncts_lead (first_values 0 P.globals) [] values).0 (first_lead P.globals good []) in
    then_leads [] t.store (disjuncts (first_values 0 P.globals)) (written (length P.globals) ops) values one
    (written_from ops (length P.globals) (begun P draws) t (length-map P.globals (λ (g : GlobalVariable). g.value)) r)
