-- The accesses of a thread's own tree are those of the instrumented one; flags of accesses come after those of the
-- iteration.
use Rattle.std.proofs.Common.{◌≡◌, ◌∙◌, ◌⊎◌, ℕ, List, Bool, Option, None, Some, refl, ap, sym, subst, inl, inr}
use Rattle.std.proofs.lemmas.Option.{none-some}
use Rattle.lra_threads_analysis.specs.Crates.lra_analysis_spec.Operations.{exact_operations, lossy_operations, straining_operations}
use Rattle.lra_threads_analysis.specs.Crates.lra_operations.CheckedOperations.{OpAtPoint, accessing_ops}
use Rattle.lra_threads_analysis.specs.Crates.{lra_analysis_spec.Accesses.JudgesAccesses, lra_analysis_spec.Accesses.OpInside, lra_analysis_spec.Instrumented.instrumented}
use Rattle.lra_threads_analysis.specs.Crates.{lra_analysis_spec.Judging.Finding, lra_analysis_spec.Judging.Finds, lra_analysis_spec.Judging.first_flagged, lra_base.declared.refusals.Place.Place}
use Rattle.lra_threads_analysis.specs.Crates.{lra_box.Abstraction.box_abstraction, lra_box.Content.BoxContent, lra_box.Laws.box_laws, lra_operations.Tree.Node, lra_program.Accesses.op_accesses_any}
use Rattle.lra_threads_analysis.proofs.Crates.{lra_analysis_spec.FlagLaws.flag_stays, lra_analysis_spec.OneAccess.accesses_written, lra_analysis_spec.OneAccess.accesses_strained}
use Rattle.lra_threads_instrument.proofs.InstrumentedTrees.{asks_opened}

abbrev Told : Type 0
Told = List (ℕ × List (Place × Bool))

pub judged_own : (n : ℕ) (g h : Node) (values : List BoxContent) (before last : Option ℕ) (inside : Told) → h ≡ instrumented n g
    → JudgesAccesses box_abstraction (lossy_operations box_abstraction) h values before inside last
    → JudgesAccesses box_abstraction (lossy_operations box_abstraction) g values before inside last
judged_own n g h values before last inside opens judged =
    let same : accessing_ops None h ≡ accessing_ops None g = ap (accessing_ops None) opens ∙ asks_opened op_accesses_any None n g in
    subst (λ (asked : List OpAtPoint). Finds (lossy_operations box_abstraction) (OpInside box_abstraction (lossy_operations box_abstraction)) asked values
    before inside last) same
    judged

-- flags ------------------------------------------------------------------------------------------------------------

none_first : {A : Type 0} (before last : Option ℕ) (js : List (Finding A)) → last ≡ first_flagged before js → last ≡ None → before ≡ None
none_first None last js is none = refl
none_first (Some q) last js is none = absurd (none-some q (sym none ∙ is ∙ flag_stays q js))

module _ (g : Node) (values : List BoxContent) (before last : Option ℕ) (inside : Told)
    (judged : JudgesAccesses box_abstraction (lossy_operations box_abstraction) g values before inside last) where
  pub none_before : last ≡ None → before ≡ None
  none_before none = none_first before last judged.found judged.flags none

  pub accessed_written : last ≡ None → JudgesAccesses box_abstraction (exact_operations box_abstraction) g values None inside None
  accessed_written none =
      let so = accesses_written box_abstraction box_laws g values before inside last none judged in
      subst (λ (f : Option ℕ). JudgesAccesses box_abstraction (exact_operations box_abstraction) g values None inside f) none
      (subst (λ (f : Option ℕ). JudgesAccesses box_abstraction (exact_operations box_abstraction) g values f inside last) (none_before none) so)

  -- a first flag stands where the iteration has its own, or where judging accesses exceeds a limit after one without a
  -- flag
  pub by_flag : (q : ℕ) → last ≡ Some q
      → (before ≡ Some q) ⊎ ((before ≡ None) × JudgesAccesses box_abstraction (straining_operations box_abstraction) g values None inside (Some q))
  by_flag q some = go before refl
    where
      strained : JudgesAccesses box_abstraction (straining_operations box_abstraction) g values before inside last
      strained = accesses_strained box_abstraction box_laws g values before inside last judged

      go : (o : Option ℕ) → before ≡ o
          → (before ≡ Some q) ⊎ ((before ≡ None) × JudgesAccesses box_abstraction (straining_operations box_abstraction) g values None inside (Some q))
      go None none = inr (
        none,
        subst (λ (f : Option ℕ). JudgesAccesses box_abstraction (straining_operations box_abstraction) g values None inside f) some
            (subst (λ (f : Option ℕ). JudgesAccesses box_abstraction (straining_operations box_abstraction) g values f inside last) none strained),
      )
      go (Some p) first =
          let stays : last ≡ Some p = judged.flags ∙ ap (λ (f : Option ℕ). first_flagged f judged.found) first ∙ flag_stays p judged.found in
          inl (first ∙ sym stays ∙ some)
