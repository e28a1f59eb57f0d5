-- What is found of a tree among others holds in the runs, among them, of the program's own tree.
use Rattle.std.proofs.Common.{◌≡◌, ◌↔◌, ℕ, ◌<◌, ◌≤◌, [], List, length, Some, None, Bool, true, refl, sym, ◌∙◌, subst}
use Rattle.std.proofs.lemmas.Option.{same_Some}
use Rattle.std.specs.{List.Contains, Prelude.ℤ, Prelude.slice_get, Prelude.Option}
use Rattle.lra_fixpoint.specs.Crates.lra_analysis_spec.Analysis.{IsSolution, IsUnreachable}
use Rattle.lra_fixpoint.specs.Crates.lra_analysis_spec.Pass.{recorded, PassResult, noted, PassUnder}
use Rattle.lra_fixpoint.specs.Crates.{lra_analysis_spec.Instrumented.instrumented, lra_analysis_spec.Moves.AreMade, lra_analysis_spec.MovesOf.first_values}
use Rattle.lra_fixpoint.specs.Crates.{lra_analysis_spec.Operations.lossy_operations, lra_analysis_spec.Plan.Plan, lra_analysis_spec.UnderInterference.absorbed, lra_domain.Abstraction.Abstraction}
use Rattle.lra_fixpoint.specs.Crates.{lra_domain.Interference.Interference, lra_domain.Interference.none, lra_domain.Laws.Laws, lra_domain.declared.Exactness.Exactness, lra_program.Program.Program}
use Rattle.lra_fixpoint.specs.Crates.{lra_program.Run.begun, lra_program.Sites.Site, lra_program.Step.State, lra_program.Traces.Trace, lra_program.WellFormed.AreGoodGlobals}
use Rattle.lra_operations.specs.{Traces.to_point, Traces.to_failure, Tree.Node}
use Rattle.lra_fixpoint.proofs.Crates.{lra_analysis_spec.Covers.Has, lra_analysis_spec.Keeping.first_lead, lra_analysis_spec.Keeps.moves_keep}
use Rattle.lra_interference_sound.specs.CoversUnder.{MayBecome, stop, after_write, CoversUnder}
use Rattle.lra_interference_sound.proofs.SoundUnder.{passes_cover}
use Rattle.lra_fixpoint.specs.{Counts.failing_at, Counts.AreCounted, UnderInterference.begins, UnderInterference.RunsUnder, UnderInterference.WritesUnder, UnderInterference.HoldsUnder}
use Rattle.lra_fixpoint.proofs.Counting.{one_failing, asserts_few}

module _ {V H : Type 0} (o : Interference V) (m : Abstraction V H) (laws : Laws m) where
  -- from the globals on, whatever is drawn, a pass has the stores of the runs of the program's own tree
  pub begun_covers_among : (set : Plan) (P : Program) → AreGoodGlobals P.globals → (g : Node) (whole first : V) (e : Exactness) (r : PassResult V) →
      m.top 0 set.parts whole × m.well_formed whole → AreMade (lossy_operations m) (first_values 0 P.globals) whole e first →
      PassUnder V H (lossy_operations m) (absorbed o m) set (instrumented (length P.globals) g) (noted 0 e None) first r → (draws : List ℤ) →
      CoversUnder (λ (q : ℕ). q) (MayBecome o.rely) (length P.globals) m g (begins P draws) r
  begun_covers_among set P good g whole first e r universal done pass draws =
      let all = laws.top_stores 0 set.parts whole universal.1 universal.0 [] refl in
      let has = moves_keep V H m laws (first_values 0 P.globals) whole e first done [] (begun P draws).store
      (universal.1, all) (first_lead P.globals good []) in
      passes_cover o m laws set (length P.globals) g (noted 0 e None) first r pass (begins P draws) has

  -- so values, notes and verdicts hold in them
  pub covered_among : (P : Program) (g : Node) (r : PassResult V) (T : List Site) (values : List V)
      (notes : List (ℕ × ℕ × V)) (verdicts : List (ℕ × Bool)) (flagged : Option ℕ) →
      ((draws : List ℤ) → CoversUnder (λ (q : ℕ). q) (MayBecome o.rely) (length P.globals) m g (begins P draws) r) → AreCounted T r.entries →
      IsSolution m r values verdicts flagged → ((q place : ℕ) (v : V) → Contains notes (q, place, v) ↔ Contains r.entries (recorded q place v)) →
      HoldsUnder o m P g values notes verdicts
  covered_among P g r T values notes verdicts flagged covers counted solves noted_so = record {
    stores = stores;
    proved = proved;
    unreached = unreached;
    gives = gives;
  }
    where
      stores : (q : ℕ) (draws : List ℤ) (a : Trace ℕ) (t : State) → RunsUnder o P g draws (to_point q) a → MayBecome o.rely a.state t →
          (v : V) × (slice_get values q ≡ Some v) × m.gamma v t.store × (m.dims v ≡ length t.store)
      stores q draws a t goes becomes =
          let (v, found, has) = (covers draws).finds (stop (to_point q)) a goes t becomes in
          (v, (solves.is_value q v).1 found, has.1, sym (laws.sized v t.store has.0 has.1))

      proved : (q : ℕ) (draws : List ℤ) (a : Trace ℕ) → Contains verdicts (q, true) → RunsUnder o P g draws (to_failure q) a → ⊥
      proved q draws a listed goes =
          let (v, t, found, has) = (covers draws).finds (stop (to_failure q)) a goes in
          let (u, seen, so) = solves.is_verdict q true listed in
          let few : failing_at q r.entries ≤ 1 = rw (counted.checks q) (asserts_few (slice_get T q)) in
          let own = subst (λ (x : V). Has m x t.store) (one_failing V q v u r.entries few found seen) has in
          laws.partless u own.0 (so.0 refl) t.store own.1

      unreached : (q : ℕ) (v : V) (draws : List ℤ) (a : Trace ℕ) → slice_get values q ≡ Some v → IsUnreachable m v → RunsUnder o P g draws (to_point q) a → ⊥
      unreached q v draws a there is goes =
          let (w, found, has) = (covers draws).finds (stop (to_point q)) a goes a.state (record { store = none a.state.store; waiting = refl; draws = refl }) in
          let own = subst (λ (x : V). Has m x a.state.store) (sym (same_Some v w (sym there ∙ (solves.is_value q w).1 found))) has in
          laws.partless v own.0 is a.state.store own.1

      gives : (q place : ℕ) (draws : List ℤ) (a : Trace ℕ) → place < length P.globals → WritesUnder o P g draws q place a →
          (v : V) × Contains notes (q, place, v) × m.gamma v a.state.store
      gives q place draws a low gift_there =
          let (v, found, has) = (covers draws).finds (after_write q place) a gift_there low in (v, (noted_so q place v).1 found, has.1)
