-- What a derivation's values, verdicts and first flag say of the written iteration.
use Rattle.std.proofs.Common.{◌≡◌, ◌↔◌, ℕ, List, Option, None, Bool, sym, ◌∙◌, subst}
use Rattle.lra_fixpoint.specs.Crates.lra_analysis_spec.Analysis.{LossyIteration, IsSolution}
use Rattle.lra_fixpoint.specs.Crates.lra_analysis_spec.Pass.{recorded, PassResult, noted, PassUnder}
use Rattle.lra_fixpoint.specs.Crates.{lra_analysis_spec.MovesOf.first_values, lra_analysis_spec.Operations.lossy_operations, lra_analysis_spec.Plan.Plan, lra_analysis_spec.UnderInterference.absorbed}
use Rattle.lra_fixpoint.specs.Crates.{lra_analysis_spec.UnderInterference.LossyIterationUnder, lra_domain.Abstraction.Abstraction, lra_domain.Interference.Interference, lra_domain.Laws.Laws}
use Rattle.lra_fixpoint.specs.Crates.{lra_domain.declared.Exactness.Exactness, lra_program.Program.Program, lra_program.declared.program.GlobalVariable.GlobalVariable, lra_transfer.Changes.Does}
use Rattle.std.specs.List.{Contains}
use Rattle.lra_operations.specs.Tree.{Node}
use Rattle.lra_fixpoint.proofs.Crates.lra_analysis_spec.Unflagged.{unflagged_is_written, flagged_strains, unflagged_is_written_among, flagged_strains_among}
use Rattle.lra_fixpoint.specs.Solved.{IsSolved, IsSolvedUnder}

pub solved : {V H : Type 0} (m : Abstraction V H) → Laws m → (plan : Plan) (P : Program) (tree : Node) (result : PassResult V) (values : List V) (verdicts : List (ℕ × Bool)) (flagged : Option ℕ) →
    LossyIteration m plan P tree result
    → IsSolution m result values verdicts flagged → IsSolved m plan P tree values verdicts flagged
solved m laws plan P tree result values verdicts flagged derived solves = record {
  result = result;
  derived = derived;
  solves = solves;
  written = λ none. unflagged_is_written m laws plan P tree result derived (sym solves.is_flagged ∙ none);
  strained = λ q is. flagged_strains m laws plan P tree result q derived (sym solves.is_flagged ∙ is);
}

-- among others, with what is noted
pub solved_among : {V H : Type 0} (o : Interference V) (m : Abstraction V H) → Laws m →
    (plan : Plan) (P : Program) (tree : Node) (result : PassResult V) (values : List V)
    (notes : List (ℕ × ℕ × V)) (verdicts : List (ℕ × Bool)) (flagged : Option ℕ)
    → LossyIterationUnder o m plan P tree result → IsSolution m result values verdicts flagged
    → ((q place : ℕ) (v : V) → Contains notes (q, place, v) ↔ Contains result.entries (recorded q place v))
    → IsSolvedUnder o m plan P tree values notes verdicts flagged
solved_among o m laws plan P tree result values notes verdicts flagged derived solves noted_so = record {
  result = result;
  derived = derived;
  solves = solves;
  noted = noted_so;
  written = λ none. unflagged_is_written_among o m laws plan P tree result derived (sym solves.is_flagged ∙ none);
  strained = λ q is. flagged_strains_among o m laws plan P tree result q derived (sym solves.is_flagged ∙ is);
}

-- from the value that has all stores, by the globals' first values and a pass
pub derived_from : {V H : Type 0} (o : Interference V) (m : Abstraction V H) (plan : Plan) (P : Program) (tree : Node) (globals : List GlobalVariable)
    (whole first : V) (e : Exactness) (result : PassResult V) → P.globals ≡ globals
    → m.top 0 plan.parts whole × m.well_formed whole → Does m (first_values 0 globals) whole e first
    → PassUnder V H (lossy_operations m) (absorbed o m) plan tree (noted 0 e None) first result → LossyIterationUnder o m plan P tree result
derived_from {V} {H} o m plan P tree globals whole first e result is universal done pass =
    (whole, first, e, universal, subst (λ (zs : List GlobalVariable). Does m (first_values 0 zs) whole e first) (sym is) done, pass)
