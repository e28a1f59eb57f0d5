-- What is found of a tree holds in its runs.
use Rattle.std.proofs.Common.{◌≡◌, ℕ, ◌≤◌, [], List, length, Option, Some, None, Bool, true, refl, sym, ◌∙◌, subst}
use Rattle.std.proofs.lemmas.Option.{same_Some}
use Rattle.std.specs.{List.Contains, Prelude.ℤ, Prelude.slice_get}
use Rattle.lra_fixpoint.specs.Crates.{lra_analysis_spec.Analysis.IsSolution, lra_analysis_spec.Analysis.IsUnreachable, lra_analysis_spec.Moves.AreMade, lra_analysis_spec.MovesOf.first_values}
use Rattle.lra_fixpoint.specs.Crates.{lra_analysis_spec.Operations.lossy_operations, lra_analysis_spec.Pass.PassResult, lra_analysis_spec.Pass.noted, lra_analysis_spec.Pass.Pass}
use Rattle.lra_fixpoint.specs.Crates.{lra_analysis_spec.Plan.Plan, lra_domain.Abstraction.Abstraction, lra_domain.Laws.Laws, lra_domain.declared.Exactness.Exactness, lra_program.Program.Program}
use Rattle.lra_fixpoint.specs.Crates.{lra_program.Run.begun, lra_program.Sites.Site, lra_program.Step.State, lra_program.WellFormed.AreGoodGlobals}
use Rattle.lra_operations.specs.Tree.{Node, ReachesPoint, FailsAt}
use Rattle.lra_fixpoint.proofs.Crates.{lra_analysis_spec.Covers.Covers, lra_analysis_spec.Covers.Has, lra_analysis_spec.Keeping.first_lead, lra_analysis_spec.Keeps.moves_keep}
use Rattle.lra_interference_sound.proofs.SoundUnder.{pass_covers}
use Rattle.lra_fixpoint.specs.{Counts.failing_at, Counts.AreCounted, Sound.HoldsInTree}
use Rattle.lra_fixpoint.proofs.Counting.{one_failing, asserts_few}

-- the globals at their first values ---------------------------------------------------------------------------------

module _ {V H : Type 0} (m : Abstraction V H) where
  module _ (laws : Laws m) where
    -- from the globals on, whatever is drawn, a pass has the stores of the tree's runs
    pub begun_covers : (set : Plan) (P : Program) → AreGoodGlobals P.globals → (tree : Node) (whole first : V) (e : Exactness) (r : PassResult V) → m.top 0 set.parts whole × m.well_formed whole →
        AreMade (lossy_operations m) (first_values 0 P.globals) whole e first
        → Pass V H (lossy_operations m) set tree (noted 0 e None) first r → (draws : List ℤ) → Covers m tree (begun P draws) r
    begun_covers set P good tree whole first e r universal done pass draws =
        let all = laws.top_stores 0 set.parts whole universal.1 universal.0 [] refl in
        let has = moves_keep V H m laws (first_values 0 P.globals) whole e first done [] (begun P draws).store (universal.1, all) (first_lead P.globals good []) in
        pass_covers m laws set tree (noted 0 e None) first r pass (begun P draws) has

    -- so values and verdicts hold in them
    pub covered_holds : (P : Program) (tree : Node) (r : PassResult V) (T : List Site) (values : List V) (verdicts : List (ℕ × Bool)) (flagged : Option ℕ) →
        ((draws : List ℤ) → Covers m tree (begun P draws) r)
        → AreCounted T r.entries → IsSolution m r values verdicts flagged → HoldsInTree m P tree values verdicts
    covered_holds P tree r T values verdicts flagged covers counted solves = record { stores = stores; proved = proved; unreached = unreached }
      where
        stores : (q : ℕ) (draws : List ℤ) (t : State) → ReachesPoint tree (begun P draws) q t → (v : V) × (slice_get values q ≡ Some v) × m.gamma v t.store × (m.dims v ≡ length t.store)
        stores q draws t comes =
            let (v, found, has) = (covers draws).comes q t comes in
            (v, (solves.is_value q v).1 found, has.1, sym (laws.sized v t.store has.0 has.1))

        proved : (q : ℕ) (draws : List ℤ) → Contains verdicts (q, true) → FailsAt tree (begun P draws) q → ⊥
        proved q draws listed fails =
            let (v, t, found, has) = (covers draws).fails q fails in
            let (u, seen, so) = solves.is_verdict q true listed in
            let few : failing_at q r.entries ≤ 1 = rw (counted.checks q) (asserts_few (slice_get T q)) in
            let own = subst (λ (x : V). Has m x t.store) (one_failing V q v u r.entries few found seen) has in
            laws.partless u own.0 (so.0 refl) t.store own.1

        unreached : (q : ℕ) (v : V) (draws : List ℤ) (t : State) → slice_get values q ≡ Some v → IsUnreachable m v → ReachesPoint tree (begun P draws) q t → ⊥
        unreached q v draws t there is comes =
            let (w, found, has) = (covers draws).comes q t comes in
            let own = subst (λ (x : V). Has m x t.store) (sym (same_Some v w (sym there ∙ (solves.is_value q w).1 found))) has in
            laws.partless v own.0 is t.store own.1
