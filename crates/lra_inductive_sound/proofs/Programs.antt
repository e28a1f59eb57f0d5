-- What is reported of an iteration over a program is inductive along its paths.
use Rattle.std.proofs.Common.{◌≡◌, ℕ, suc, List, ◌++◌, length, Bool, true, Option, Some, None, refl, sym, ap, ◌∙◌, subst}
use Rattle.std.proofs.{lemmas.Bool.and_parts, lemmas.Bool.eqb-true, lemmas.Option.same_Some}
use Rattle.std.specs.{List.Contains, Prelude.nat_eq, Prelude.◌&&◌, Prelude.slice_get}
use Rattle.lra_inductive_sound.proofs.Crates.{lra_linear_spec.ListPlaces.flat_map_from, lra_linear_spec.Membership.filter_from, lra_transfer.OperationWidths.globals_dims}
use Rattle.lra_inductive_sound.specs.Crates.lra_path_segments.Segments.{Goal, comes_to, violates, GoalSegment, Segment, enter, inside}
use Rattle.lra_inductive_sound.specs.Crates.{lra_analysis_spec.Analysis.IsSolution, lra_analysis_spec.MovesOf.first_values, lra_analysis_spec.Pass.PassResult, lra_analysis_spec.Pass.noted}
use Rattle.lra_inductive_sound.specs.Crates.{lra_domain.Abstraction.Abstraction, lra_domain.Actions.Action, lra_domain.Laws.Laws, lra_operations.Tree.Node, lra_path_disjuncts.Disjuncts.disjuncts}
use Rattle.lra_inductive_sound.specs.Crates.{lra_path_disjuncts.Disjuncts.written, lra_program.Program.Program, lra_program.Sites.Site, lra_program.Sites.sites_of}
use Rattle.lra_paths.specs.Paths.{same_goal, live_of, started, first_segments, next_segments, actions_between}
use Rattle.lra_paths.proofs.SourceSteps.{alike}
use Rattle.lra_inductive_sound.specs.Inductive.{IsAtGoal, FailOnce, ValuesAreInductive, IsGoalValue, IsInductiveThrough}
use Rattle.lra_inductive_sound.specs.Points.{PointsOf, LeadsBy, KeepPoints}
use Rattle.lra_inductive_sound.proofs.{Changes.split_leads, Changes.made_keep, Members.pairs_from, Trees.tree_closed}

module _ (V H X : Type 0) (m : Abstraction V H) (o : PointsOf V H X) (keep : KeepPoints m o) where
  module _ (r : PassResult V) (values : List V) (verdicts : List (ℕ × Bool)) (flagged : Option ℕ) (solves : IsSolution m r values verdicts flagged)
      (once : FailOnce r) where
    at_goal : (goal : Goal) (w : V) (y : X) → IsGoalValue r goal w → o.on w y → IsAtGoal o values verdicts goal y
    at_goal (comes_to q) w y met h = (w, (solves.is_value q w).1 met, h)
    at_goal (violates q) w y met h = λ proved.
        let (u, seen, so) = solves.is_verdict q true proved in
        keep.partless u (so.0 refl) y (subst (λ (x : V). o.on x y) (once q w u met seen) h)

    at_same : (a b : Goal) (w : V) (y : X) → same_goal a b ≡ true → IsGoalValue r a w → o.on w y → IsAtGoal o values verdicts b y
    at_same a b w y same met h = subst (λ (g : Goal). IsAtGoal o values verdicts g y) (alike a b same) (at_goal a w y met h)

    -- from the value of the first globals on, by what closes the tree
    from_first : (P : Program) (g : Node) (first : V) → m.dims first ≡ length P.globals → IsInductiveThrough m o g first r
        → (goal : Goal) (way : GoalSegment) → Contains (first_segments g goal) way
        → (actions : List Action) (x y : X) → Contains (written (length P.globals) way.ops) actions → o.on first x → LeadsBy o actions x y
        → IsAtGoal o values verdicts goal y
    from_first P g first wide closed goal way there actions x y written_so h led =
        let (entered, same) = filter_from (λ (l : GoalSegment). same_goal l.goal goal) (enter g) way there in
        let (w, met, keeps) = closed.enters way entered in
        at_same way.goal goal w y same met
        (keeps.points actions x y (subst (λ (n : ℕ). Contains (written n way.ops) actions) (sym wide) written_so) h led)

    from_next : (P : Program) (g : Node) (first : V) → IsInductiveThrough m o g first r → (p : ℕ) (v : V) (live : ℕ) → slice_get values p ≡ Some v
        → m.dims v ≡ live → (goal : Goal) (s : Segment) → Contains (next_segments g p goal) s
        → (actions : List Action) (x y : X) → Contains (written live s.to_goal.ops) actions → o.on v x → LeadsBy o actions x y
        → IsAtGoal o values verdicts goal y
    from_next P g first closed p v live is wide goal s there actions x y written_so h led =
        let (gone, both) = filter_from (λ (l : Segment). nat_eq l.source p && same_goal l.to_goal.goal goal) (inside g) s there in
        let (here, same) = and_parts (nat_eq s.source p) (same_goal s.to_goal.goal goal) both in
        let (u, found, (w, met, keeps)) = closed.goes s gone in
        let own : u ≡ v =
        same_Some u v (sym ((solves.is_value s.source u).1 found) ∙ ap (λ (q : ℕ). slice_get values q) (eqb-true s.source p here) ∙ is) in
        at_same s.to_goal.goal goal w y same met
        (keeps.points actions x y (subst (λ (n : ℕ). Contains (written n s.to_goal.ops) actions) (sym (ap (λ (z : V). m.dims z) own ∙ wide)) written_so)
        (subst (λ (z : V). o.on z x) (sym own) h) led)

pub values_closed : {V H X : Type 0} (m : Abstraction V H) (o : PointsOf V H X) → Laws m → KeepPoints m o → ValuesAreInductive m o
values_closed {V} {H} {X} m o laws keep set P g r values verdicts flagged narrow (whole, begins, e, universal, begun, pass) solves wide once =
    let closed = tree_closed V H X m o keep set narrow g (noted 0 e None) begins r pass in
    let dims = globals_dims V H m P.globals whole e begins begun (laws.top_dims 0 set.parts whole universal.0) in
    record { first = first closed dims; next = next closed }
  where
    first : IsInductiveThrough m o g begins r → m.dims begins ≡ length P.globals → (goal : Goal) (actions : List Action) →
        Contains (actions_between P g 0 goal) actions
        → (x y : X) → o.bare x → LeadsBy o actions x y → IsAtGoal o values verdicts goal y
    first closed dims goal actions there x y bare led =
        let (way, among, sided) = flat_map_from (λ (l : GoalSegment). started P.globals l.ops) (first_segments g goal) actions there in
        let (i, j, a, b, same) = pairs_from (λ (k l : List Action). l ++ k) (disjuncts (first_values 0 P.globals)) (written (length P.globals) way.ops)
        actions sided in
        let (z, to, on) = split_leads V H X o i j x y (subst (λ (l : List Action). LeadsBy o l x y) (sym same) led) in
        let has = made_keep V H X o m keep (first_values 0 P.globals) whole e begins begun i x z a (keep.begun set.parts whole universal.1 universal.0 x bare)
        to in
        from_first V H X m o keep r values verdicts flagged solves once P g begins dims closed goal way among j z y b has on

    next : IsInductiveThrough m o g begins r → (p : ℕ) (s : Site) (v : V) (goal : Goal) (actions : List Action) → slice_get (sites_of P) p ≡ Some s
        → slice_get values p ≡ Some v → Contains (actions_between P g (suc p) goal) actions → (x y : X) → o.on v x → LeadsBy o actions x y
        → IsAtGoal o values verdicts goal y
    next closed p s v goal actions site is there x y h led =
        let (l, among, sided) = flat_map_from (λ (k : Segment). written (live_of (slice_get (sites_of P) p)) k.to_goal.ops) (next_segments g p goal) actions
        there in
        from_next V H X m o keep r values verdicts flagged solves once P g begins closed p v (live_of (slice_get (sites_of P) p)) is
        (wide p v is s site ∙ sym (ap live_of site)) goal l among actions x y sided h led
