-- The value at a point of a tree that is iterated over among others is formed, and has the stores of their runs.
use Rattle.std.proofs.Common.{◌≡◌, ℕ, ℤ, List, length, Option, Some, None, Bool, subst}
use Rattle.std.specs.Prelude.{slice_get}
use Rattle.lra_threads_analysis.specs.Crates.{lra_analysis_spec.Instrumented.instrumented, lra_analysis_spec.Operations.lossy_operations, lra_analysis_spec.Pass.noted}
use Rattle.lra_threads_analysis.specs.Crates.{lra_analysis_spec.Pass.PassUnder, lra_analysis_spec.Plan.Plan, lra_analysis_spec.UnderInterference.absorbed, lra_domain.Abstraction.Abstraction}
use Rattle.lra_threads_analysis.specs.Crates.{lra_domain.Interference.Interference, lra_domain.Laws.Laws, lra_fixpoint.Solved.IsSolvedUnder, lra_fixpoint.UnderInterference.RunsUnder}
use Rattle.lra_threads_analysis.specs.Crates.{lra_interference_sound.CoversUnder.MayBecome, lra_interference_sound.CoversUnder.stop, lra_operations.Traces.to_point, lra_operations.Tree.Node}
use Rattle.lra_threads_analysis.specs.Crates.{lra_program.Program.Program, lra_program.Step.State, lra_program.Traces.Trace, lra_program.WellFormed.AreGoodGlobals}
use Rattle.lra_threads_analysis.proofs.Crates.{lra_analysis_spec.Covers.Has, lra_fixpoint.CoveringUnder.begun_covers_among}

module _ {V H : Type 0} (o : Interference V) (m : Abstraction V H) (laws : Laws m) (plan : Plan) (P : Program) (good : AreGoodGlobals P.globals) (g tree : Node)
    (opens : tree ≡ instrumented (length P.globals) g) where
  pub held_among : (values : List V) (notes : List (ℕ × ℕ × V)) (verdicts : List (ℕ × Bool)) (flagged : Option ℕ)
      → IsSolvedUnder o m plan P tree values notes verdicts flagged → (q : ℕ) (draws : List ℤ) (a : Trace ℕ) (t : State)
      → RunsUnder o P g draws (to_point q) a → MayBecome o.rely a.state t → (v : V) × (slice_get values q ≡ Some v) × Has m v t.store
  held_among values notes verdicts flagged solved q draws a t goes becomes =
      let d = solved.derived in
      let pass = subst (λ (x : Node). PassUnder V H (lossy_operations m) (absorbed o m) plan x (noted 0 d.2 None) d.1 solved.result) opens d.5 in
      let covers = begun_covers_among o m laws plan P good g d.0 d.1 d.2 solved.result d.3 d.4 pass draws in
      let (v, found, has) = covers.finds (stop (to_point q)) a goes t becomes in
      (v, (solved.solves.is_value q v).1 found, has)
