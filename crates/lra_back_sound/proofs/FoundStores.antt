-- What is found by going back: the last heads are inductive along paths backwards, have the seed's stores, and the
-- values that are found have what both heads and forward values have.
use Rattle.std.proofs.Common.{◌≡◌, ℕ, suc, ℤ, List, [], ◌∷◌, ◌++◌, Option, None, Some, zero, false, length, inl, inr, sym, ap, ◌∙◌, subst, refl}
use Rattle.std.proofs.{lemmas.Bool.eq-eqb, lemmas.List.append-nil, lemmas.Option.same_Some, lemmas.Option.none-some, lemmas.Option.slice_get_within}
use Rattle.std.specs.{List.flat_map, Prelude.slice_get, Prelude.cond, Prelude.Contains}
use Rattle.lra_back_sound.proofs.Crates.lra_linear_spec.Membership.{contains_head, contains_tail}
use Rattle.lra_back_sound.proofs.Crates.{lra_analysis_spec.Covers.stays_has, lra_analysis_spec.Keeps.moves_keep, lra_path_disjuncts.SideSteps.leads_then, lra_path_disjuncts.SideSteps.disjuncts_lead}
use Rattle.lra_back_sound.specs.Crates.lra_path_segments.Segments.{Segment, comes_to, violates, does}
use Rattle.lra_back_sound.specs.Crates.lra_paths.Paths.{actions_between_in, live_of}
use Rattle.lra_back_sound.specs.Crates.{lra_analysis_spec.MovesOf.guard, lra_analysis_spec.Pass.noted, lra_domain.Abstraction.Abstraction, lra_domain.Abstraction.worse, lra_domain.Actions.Action}
use Rattle.lra_back_sound.specs.Crates.{lra_domain.Backward.BackwardAbstraction, lra_domain.Changes.AllCanBeMade, lra_domain.Gammas.InGamma, lra_domain.Gammas.InHeadGamma, lra_domain.Laws.Laws}
use Rattle.lra_back_sound.specs.Crates.{lra_domain.Moves.LeadsAll, lra_domain.Moves.SomeLeads, lra_operations.Tree.Node, lra_path_disjuncts.Disjuncts.disjuncts, lra_path_disjuncts.Disjuncts.written}
use Rattle.lra_back_sound.specs.Crates.{lra_program.Program.Cond, lra_program.Sites.Site, lra_program.Step.test, lra_program.declared.program.GlobalVariable.GlobalVariable}
use Rattle.lra_back.specs.BackwardAnalysis.{AreWide, BackwardAnalysis, PathsFit, task_of}
use Rattle.lra_back.specs.{Operations.lossy_back_operations, Rounds.AreBackwardValues, Rounds.Task, Rounds.seed_at}
use Rattle.lra_back_sound.proofs.{LastRound.AreLast, LastRound.IsStable, LastRound.heads_are_last, NextValues.NextHas, NextValues.SomeHas, NextValues.next_has}

-- one of the paths
path_that_leads : (paths : List (List Action)) (s t : List ℤ) → SomeLeads paths s t → (path : List Action) × Contains paths path × LeadsAll path s t
path_that_leads [] s t led = absurd led
path_that_leads (path ∷ paths) s t led = elim led [
  | inl one ↦ (path, contains_head path paths, one)
  | inr later ↦ let (way, there, leads) = path_that_leads paths s t later in (way, contains_tail path way paths there, leads)
]

-- a path to where the condition is false is one of the condition's sides
denial_leads : (live base : ℕ) (c : Cond) (s t : List ℤ) → SomeLeads (written live (does (test base c false) ∷ [])) s t
    → SomeLeads (disjuncts (guard live base false c)) s t
denial_leads live base c s t led =
    let (u, leads, ends) = leads_then s t (disjuncts (guard live base false c)) ([] ∷ []) led in
    elim ends [ inl same ↦ subst (λ v. SomeLeads (disjuncts (guard live base false c)) s v) (sym same) leads | inr none ↦ absurd none ]

module _ {V H : Type 0} (m : Abstraction V H) (b : BackwardAbstraction V) (laws : Laws m) where
  -- values ---------------------------------------------------------------------------------------------------------------

  pub met_has : (q : ℕ) (f : Option ℕ) (heads : List H) (forward : List V) (g : Option ℕ) (values : List V) →
      AreBackwardValues (lossy_back_operations m b) q f heads forward g values
      → (i : ℕ) (h : H) (x : V) (s : List ℤ) → slice_get heads i ≡ Some h → slice_get forward i ≡ Some x → InHeadGamma m h s → InGamma m x s
      → (v : V) × (slice_get values i ≡ Some v) × InGamma m v s
  met_has q f [] [] g values met i h x s at there own ahead = absurd (none-some h at)
  met_has q f [] (y ∷ forward) g values met i h x s at there own ahead = absurd met
  met_has q f (k ∷ heads) [] g values met i h x s at there own ahead = absurd met
  met_has q f (k ∷ heads) (y ∷ forward) g values (v, w, c, d, more, valued, met, later, same) i h x s at there own ahead =
      let (found, place, has) = by i at there (λ j a t. met_has (suc q) (noted q (worse c d) f) heads forward g more later j h x s a t own ahead) in
      (found, ap (λ vs. slice_get vs i) same ∙ place, has)
    where
      by : (i : ℕ) → slice_get (k ∷ heads) i ≡ Some h → slice_get (y ∷ forward) i ≡ Some x
          → ((j : ℕ) → slice_get heads j ≡ Some h → slice_get forward j ≡ Some x → (z : V) × (slice_get more j ≡ Some z) × InGamma m z s)
          → (z : V) × (slice_get (w ∷ more) i ≡ Some z) × InGamma m z s
      by zero at there on =
          let held : InHeadGamma m k s = subst (λ z. InHeadGamma m z s) (sym (same_Some k h at)) own in
          let fits : InGamma m y s = subst (λ z. InGamma m z s) (sym (same_Some y x there)) ahead in
          (w, refl, (met.0.formed, met.0.stores s (valued.0.stores s held.1) fits.1))
      by (suc j) at there on = on j at there

  -- heads ----------------------------------------------------------------------------------------------------------------

  module _ (globals : List GlobalVariable) (sites : List Site) (g : Node) (forward : List V) (f : Option ℕ) (p : ℕ) (values : List V) (flag : Option ℕ)
      (z : BackwardAnalysis (lossy_back_operations m b) globals sites g forward f p values flag) where
    abbrev task : Task V
    task = task_of globals sites g forward p z.seed

    -- the last head of the point has the store
    abbrev pub IsHeld : ℕ → List ℤ → Type 0
    IsHeld q s = (h : H) × (slice_get z.last q ≡ Some h) × InHeadGamma m h s

    last_heads : AreLast m b task (length forward) z.last
    last_heads = heads_are_last m b task (length forward) (noted p z.exactness f) z.first z.rounds_flag z.last z.started z.rounds

    stable_holds : (q : ℕ) (r : IsStable m b task last_heads.mode z.last q) (s : List ℤ) → InGamma m r.next s → IsHeld q s
    stable_holds q r s own = (
      r.head,
      r.head_at,
      stays_has m laws r.head r.next last_heads.mode (last_heads.formed q r.head r.head_at)
          (laws.answers_yes r.head r.next last_heads.mode r.stays.0) s own,
    )

    next_at : (q : ℕ) (r : IsStable m b task last_heads.mode z.last q) → NextHas m b laws (task.paths q) r.value (seed_at task q) z.last r.next
    next_at q r = next_has m b laws (task.paths q) r.value (seed_at task q) z.last r.exactness r.next r.is_next

    -- from which a path leads to a store of a head
    pub held_before : AreWide m sites forward → PathsFit globals sites g → (q r : ℕ) (at behind : Site) (x : V) (s t : List ℤ) → slice_get sites q ≡ Some at
        → slice_get sites r ≡ Some behind → slice_get forward q ≡ Some x → InGamma m x s →
        SomeLeads (actions_between_in globals sites g (suc q) (comes_to r)) s t
        → IsHeld r t
        → IsHeld q s
    held_before wide fit q r at behind x s t here there value own led (h, place, held) =
        let (path, among, leads) = path_that_leads (actions_between_in globals sites g (suc q) (comes_to r)) s t led in
        let long : at.live ≡ length s = sym (laws.sized x s own.0 own.1 ∙ (wide.1 q at x here value).0) in
        let made : AllCanBeMade path (length s) = subst (λ n. AllCanBeMade path n) long (fit q r at behind path here there among).0 in
        let turn = last_heads.stable q (slice_get_within forward q x value) in
        let ahead : InGamma m turn.value s = subst (λ y. InGamma m y s) (same_Some x turn.value (sym value ∙ turn.value_at)) own in
        stable_holds q turn s ((next_at q turn).led r h s place (ahead, (path, t, among, made, leads, held)))

    -- the seed's
    held_seed : (s : List ℤ) → InGamma m z.seed s → IsHeld p s
    held_seed s own =
        let turn = last_heads.stable p (slice_get_within forward p z.at_assertion z.is_there) in
        let there : seed_at task p ≡ Some z.seed = ap (λ y. cond y (Some z.seed) None) (eq-eqb p p refl) in
        stable_holds p turn s ((next_at p turn).seeded s (subst (λ o. SomeHas m o s) (sym there) own))

    -- from which a path leads to where the assertion is false
    pub held_denied : AreWide m sites forward → (at : Site) (x : V) (s t : List ℤ) → slice_get sites p ≡ Some at → slice_get forward p ≡ Some x → InGamma m x s
        → SomeLeads (actions_between_in globals sites g (suc p) (violates p)) s t → IsHeld p t
    held_denied wide at x s t here value own led =
        let one : SomeLeads (written (live_of (slice_get sites p)) (does (test z.base z.condition false) ∷ []) ++ []) s t =
        subst (λ (segments : List Segment). SomeLeads (flat_map (λ (segment : Segment). written (live_of (slice_get sites p)) segment.to_goal.ops) segments) s
        t)
        z.asserted led in
        let leads = denial_leads (live_of (slice_get sites p)) z.base z.condition s t
        (subst (λ paths. SomeLeads paths s t) (append-nil (written (live_of (slice_get sites p)) (does (test z.base z.condition false) ∷ []))) one) in
        let few : live_of (slice_get sites p) ≡ m.dims x = ap live_of here ∙ sym (wide.1 p at x here value).0 in
        let same : x ≡ z.at_assertion = same_Some x z.at_assertion (sym value ∙ z.is_there) in
        let there : InGamma m z.at_assertion s = subst (λ y. InGamma m y s) same own in
        let live : live_of (slice_get sites p) ≡ m.dims z.at_assertion = few ∙ ap m.dims same in
        held_seed t (moves_keep V H m laws (guard (m.dims z.at_assertion) z.base false z.condition) z.at_assertion z.exactness z.seed z.violated s t there
        ((disjuncts_lead (guard (m.dims z.at_assertion) z.base false z.condition) s t).1
        (subst (λ n. SomeLeads (disjuncts (guard n z.base false z.condition)) s t) live leads)))

    -- the value that is found has each store of the head that the forward value has
    pub found_has : (q : ℕ) (x : V) (s : List ℤ) → slice_get forward q ≡ Some x → InGamma m x s → IsHeld q s →
        (v : V) × (slice_get values q ≡ Some v) × InGamma m v s
    found_has q x s value own (h, place, held) = met_has 0 z.rounds_flag z.last forward flag values z.met q h x s place value held own
