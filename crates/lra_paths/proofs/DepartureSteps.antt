-- Segments from one source: what comes into the table leaves the paths of those before, and all of them together are
-- those that lead from the source.
use Rattle.std.proofs.Common.{◌≡◌, ◌≤◌, ◌<◌, ℕ, zero, suc, ◌+◌, List, [], ◌∷◌, ◌++◌, length, map, take, Option, Some, None, Bool, true, false, inl, inr, refl, sym, ap, ◌∙◌, subst, arith, append-nil}
use Rattle.std.proofs.{Common.append_assoc, Common.get_or, Common.◌&&◌, lemmas.Bool.cases_lt, lemmas.Grind.flat_map-append, lemmas.List.map-append, lemmas.List.take_more}
use Rattle.std.specs.{List.flat_map, List.filter, Prelude.slice_get, Prelude.cond, Prelude.nat_eq}
use Rattle.lra_paths.specs.Crates.lra_domain.Moves.{Moves, stay, first_then}
use Rattle.lra_paths.specs.Crates.lra_path_segments.Segments.{SegmentStep, Goal, each_then, enter, inside, GoalSegment, Segment}
use Rattle.lra_paths.specs.Crates.lra_path_segments.TreeSegmentViews.{goal_view, seen, tree_segment_view}
use Rattle.lra_paths.specs.Crates.lra_path_segments.TreeSegments.{AreSegmentsOf, entered, met, TreeSegment, tree_segment, End, exits, reaches}
use Rattle.lra_paths.specs.Crates.{lra_analysis_spec.MovesOf.first_values, lra_domain.Actions.Action, lra_program.Sites.Site, lra_program.declared.program.GlobalVariable.GlobalVariable}
use Rattle.lra_operations.specs.Tree.{Node}
use Rattle.lra_path_disjuncts.specs.Disjuncts.{disjuncts, written, greatest_paths}
use Rattle.lra_path_disjuncts.specs.{SegmentMoves.segment_moves, Tables.IsTable, Tables.Has, Tables.Grows, Tables.moves_at, declared.tables.MovesEntry.MovesEntry}
use Rattle.lra_paths.specs.Paths.{live_of, same_goal, started, actions_between_in, AreFewFrom, HasTooManyIn}
use Rattle.lra_paths.specs.Sources.{ArePlaced, all_departing, departing, ending, to_goal, to_goal_by, first_from, live_from, point_from, same_point, AreFewTo, AreManyTo, IsDeparture, IsSource, Adds}
use Rattle.lra_paths.specs.{declared.paths.Departure.Departure, declared.sources.Source.Source, declared.sources.SourceSegment.SourceSegment}
use Rattle.lra_paths.specs.Crates.lra_path_segments.declared.segments.Goal as declared
use Rattle.lra_paths.specs.Crates.lra_path_segments.declared.segments.TreeSegment as declared_stretch
use Rattle.lra_paths.proofs.Crates.lra_path_segments.FlatSteps.{flat_same, flat_filter, flat_flat, both_same}
use Rattle.lra_path_disjuncts.proofs.{GuardSteps.still_in, GuardSteps.still_at, GuardSteps.grows_on, TableSteps.has_at, TableSteps.within, SegmentMoveSteps.segment_disjuncts}

-- one list ---------------------------------------------------------------------------------------------------------------

-- nothing first
pub after_nothing : (xs : List (List Action)) → each_then (disjuncts stay) xs ≡ xs
after_nothing [] = refl
after_nothing (x ∷ xs) = ap (λ w. x ∷ w) (after_nothing xs)

picked : (a : Bool) (x y : List (List Action)) → x ≡ y → cond a x [] ≡ cond a y [] ++ []
picked true x y same = same ∙ sym (append-nil y)
picked false x y same = refl

picked_both : (a b : Bool) (x y : List (List Action)) → x ≡ y → cond a (cond b x []) [] ≡ cond (a && b) y [] ++ []
picked_both true b x y same = picked b x y same
picked_both false b x y same = refl

module _ (before : Moves) (live : ℕ) (goal : Goal) (writes : List SegmentStep → List (List Action))
    (same : (ops : List SegmentStep) → each_then (disjuncts before) (disjuncts (segment_moves live ops)) ≡ writes ops) where
  from_start_at : (p : Option ℕ) (ops : List SegmentStep) (e : End) → departing before live None goal (tree_segment p ops e)
      ≡ flat_map (λ way. cond (same_goal way.goal goal) (writes way.ops) []) (entered (tree_segment p ops e))
  from_start_at None ops (exits h) = refl
  from_start_at None ops (reaches g) = picked (same_goal g goal) (each_then (disjuncts before) (disjuncts (segment_moves live ops))) (writes ops) (same ops)
  from_start_at (Some p) ops e = refl

  from_start_by : (s : TreeSegment) → departing before live None goal s ≡ flat_map (λ way. cond (same_goal way.goal goal) (writes way.ops) []) (entered s)
  from_start_by s = from_start_at s.source s.ops s.end

  pub all_from_start : (ss : List TreeSegment) → all_departing before live None ss goal ≡ flat_map (λ way. writes way.ops)
      (filter (λ way. same_goal way.goal goal) (flat_map entered ss))
  all_from_start ss =
      flat_same (departing before live None goal) (λ s. flat_map (λ way. cond (same_goal way.goal goal) (writes way.ops) []) (entered s)) from_start_by ss
      ∙ sym (flat_flat (λ way. cond (same_goal way.goal goal) (writes way.ops) []) entered ss)
      ∙ sym (flat_filter (λ way. same_goal way.goal goal) (λ way. writes way.ops) (flat_map entered ss))

  from_point_at : (q : ℕ) (p : Option ℕ) (ops : List SegmentStep) (e : End) → departing before live (Some q) goal (tree_segment p ops e) ≡ flat_map
      (λ segment. cond (nat_eq segment.source q && same_goal segment.to_goal.goal goal) (writes segment.to_goal.ops) []) (met (tree_segment p ops e))
  from_point_at q None ops e = refl
  from_point_at q (Some p) ops (exits h) = both_same (nat_eq p q) []
  from_point_at q (Some p) ops (reaches g) = picked_both (nat_eq p q) (same_goal g goal) (each_then (disjuncts before) (disjuncts (segment_moves live ops)))
      (writes ops) (same ops)

  from_point_by : (q : ℕ) (s : TreeSegment) → departing before live (Some q) goal s ≡ flat_map
      (λ segment. cond (nat_eq segment.source q && same_goal segment.to_goal.goal goal) (writes segment.to_goal.ops) []) (met s)
  from_point_by q s = from_point_at q s.source s.ops s.end

  pub all_from_point : (q : ℕ) (ss : List TreeSegment) → all_departing before live (Some q) ss goal ≡ flat_map (λ segment. writes segment.to_goal.ops)
      (filter (λ segment. nat_eq segment.source q && same_goal segment.to_goal.goal goal) (flat_map met ss))
  all_from_point q ss =
      flat_same (departing before live (Some q) goal)
      (λ s. flat_map (λ segment. cond (nat_eq segment.source q && same_goal segment.to_goal.goal goal) (writes segment.to_goal.ops) []) (met s))
      (from_point_by q) ss
      ∙ sym (flat_flat (λ segment. cond (nat_eq segment.source q && same_goal segment.to_goal.goal goal) (writes segment.to_goal.ops) []) met ss)
      ∙ sym (flat_filter (λ segment. nat_eq segment.source q && same_goal segment.to_goal.goal goal) (λ segment. writes segment.to_goal.ops) (flat_map met ss))

-- all segments from a source are those that lead from it
pub all_lead : (globals : List GlobalVariable) (sites : List Site) (p : ℕ) (ss : List TreeSegment) (g : Node) → AreSegmentsOf ss g → (goal : Goal)
    → all_departing (first_from globals p) (live_from globals sites p) (point_from p) ss goal ≡ actions_between_in globals sites g p goal
all_lead globals sites zero ss g are goal =
    all_from_start (first_values 0 globals) (length globals) goal (started globals)
    (λ ops. ap (each_then (disjuncts (first_values 0 globals))) (segment_disjuncts (length globals) ops)) ss
    ∙ ap (λ ways. flat_map (λ (way : GoalSegment). started globals way.ops) (filter (λ way. same_goal way.goal goal) ways)) are.enters
all_lead globals sites (suc q) ss g are goal =
    let live = live_of (slice_get sites q) in
    all_from_point stay live goal (written live)
    (λ ops. after_nothing (disjuncts (segment_moves live ops)) ∙ segment_disjuncts live ops) q ss
    ∙ ap (λ segments. flat_map (λ (segment : Segment). written live segment.to_goal.ops)
    (filter (λ segment. nat_eq segment.source q && same_goal segment.to_goal.goal
    goal) segments)) are.reaches

-- tables -----------------------------------------------------------------------------------------------------------------

module _ (es fs : List MovesEntry) (grows : Grows es fs) where
  pub still_placed : (ws : List SourceSegment) → ArePlaced es ws → ArePlaced fs ws
  still_placed [] are = tt
  still_placed (w ∷ ws) (here, are) = (still_in es fs grows w.place here, still_placed ws are)

  pub still_to : (goal : Goal) (ws : List SourceSegment) → ArePlaced es ws → to_goal fs ws goal ≡ to_goal es ws goal
  still_to goal [] are = refl
  still_to goal (w ∷ ws) (here, are) =
      ap (λ p. cond (same_goal (goal_view w.goal) goal) (disjuncts p) [] ++ to_goal fs ws goal) (still_at es fs grows w.place here)
      ∙ ap (λ u. to_goal_by es goal w ++ u) (still_to goal ws are)

placed_last : (es : List MovesEntry) (ws : List SourceSegment) (w : SourceSegment) → ArePlaced es ws → w.place < length es → ArePlaced es (ws ++ w ∷ [])
placed_last es [] w are here = (here, tt)
placed_last es (x ∷ ws) w (first, are) here = (first, placed_last es ws w are here)

-- nothing comes
pub adds_none : (s : Source) (paths : Goal → List (List Action)) → IsSource s → ((goal : Goal) → paths goal ≡ []) → Adds s s paths
adds_none s paths is none = record {
  is = is;
  grows = λ i p has. has;
  more = λ goal. sym (ap (λ u. to_goal s.entries.items s.segments.items goal ++ u) (none goal) ∙ append-nil (to_goal s.entries.items s.segments.items goal));
}

-- one segment more
pub adds_one : (s t : Source) (fs : List MovesEntry) (goal : declared.Goal) (before way place live : ℕ) (ops : List SegmentStep) → IsSource s
    → before < length s.entries.items → Grows s.entries.items fs → Has fs way (segment_moves live ops) → IsTable t.entries.items → Grows fs t.entries.items
    → Has t.entries.items place (first_then (moves_at fs before) (moves_at fs way)) →
    t.segments.items ≡ s.segments.items ++ record { goal = goal; place = place } ∷ []
    → Adds s t (λ g. ending (moves_at s.entries.items before) live g ops (reaches (goal_view goal)))
adds_one s t fs goal before way place live ops is less one has table two put more =
    let es = s.entries.items in
    let gs = t.entries.items in
    let grows = grows_on es fs gs one two in
    let newest : SourceSegment = record { goal = goal; place = place } in
    let moves : moves_at gs place ≡ first_then (moves_at es before) (segment_moves live ops) =
    has_at gs place (first_then (moves_at fs before) (moves_at fs way)) put
    ∙ ap (λ p. first_then p (moves_at fs way)) (still_at es fs one before less)
    ∙ ap (first_then (moves_at es before)) (has_at fs way (segment_moves live ops) has) in
    record {
      is = record {
        table = table;
        placed = subst (ArePlaced gs) (sym more) (placed_last gs s.segments.items newest (still_placed es gs grows s.segments.items is.placed)
            (within gs place (first_then (moves_at fs before) (moves_at fs way)) put));
      };
      grows = grows;
      more = λ g. ap (λ ws. to_goal gs ws g) more ∙ flat_map-append (to_goal_by gs g) s.segments.items (newest ∷ [])
          ∙ ap (λ u. u ++ (to_goal_by gs g newest ++ [])) (still_to es gs grows g s.segments.items is.placed)
          ∙ ap (λ u. to_goal es s.segments.items g ++ u) (append-nil (to_goal_by gs g newest))
          ∙ ap (λ p. to_goal es s.segments.items g ++ cond (same_goal (goal_view goal) g) (disjuncts p) []) moves;
    }

-- a segment more
pub adds_next : (s t u : Source) (before live : ℕ) (point : Option ℕ) (xs : List declared_stretch.TreeSegment) (i : ℕ) (x : declared_stretch.TreeSegment)
    → i < length xs → x ≡ get_or xs i x → before < length s.entries.items
    → Adds s t (all_departing (moves_at s.entries.items before) live point (seen (take i xs)))
    → Adds t u (λ g. departing (moves_at t.entries.items before) live point g (tree_segment_view x))
    → Adds s u (all_departing (moves_at s.entries.items before) live point (seen (take (i + 1) xs)))
adds_next s t u before live point xs i x inside at less one two =
    let es = s.entries.items in
    let first = moves_at es before in
    let last = tree_segment_view x in
    let same : moves_at t.entries.items before ≡ first = still_at es t.entries.items one.grows before less in
    let longer : seen (take (i + 1) xs) ≡ seen (take i xs) ++ last ∷ [] =
    ap seen (take_more xs i x inside) ∙ ap (λ z. seen (take i xs ++ z ∷ [])) (sym at) ∙ map-append tree_segment_view (take i xs) (x ∷ []) in
    record {
      is = two.is;
      grows = grows_on es t.entries.items u.entries.items one.grows two.grows;
      more = λ g. two.more g ∙ ap (λ p. to_goal t.entries.items t.segments.items g ++ departing p live point g last) same
          ∙ ap (λ w. w ++ departing first live point g last) (one.more g)
          ∙ append_assoc (to_goal es s.segments.items g) (all_departing first live point (seen (take i xs)) g) (departing first live point g last)
          ∙ ap (λ w. to_goal es s.segments.items g ++ w) (ap (λ w. all_departing first live point (seen (take i xs)) g ++ w)
          (sym (append-nil (departing first live point g last)))
          ∙ sym (flat_map-append (departing first live point g) (seen (take i xs)) (last ∷ []))
          ∙ ap (λ ss. all_departing first live point ss g) (sym longer));
    }

-- all of them, from where they begin
pub from_leads : (globals : List GlobalVariable) (sites : List Site) (p : ℕ) (d : Departure) (s t : Source) (xs ways : List declared_stretch.TreeSegment)
    → IsDeparture globals sites p s.entries.items d → s.segments.items ≡ [] → xs ≡ ways
    → Adds s t (all_departing (moves_at s.entries.items d.before) d.live d.point (seen xs)) → (g : Node) → AreSegmentsOf (seen ways) g → (goal : Goal)
    → to_goal t.entries.items t.segments.items goal ≡ actions_between_in globals sites g p goal
from_leads globals sites p d s t xs ways is none same adds g are goal =
    let first = first_from globals p in
    let ss = seen xs in
    adds.more goal ∙ ap (λ ws. to_goal s.entries.items ws goal ++ all_departing (moves_at s.entries.items d.before) d.live d.point ss goal) none
    ∙ ap (λ m. all_departing m d.live d.point ss goal) (has_at s.entries.items d.before first is.first)
    ∙ ap (λ n. all_departing first n d.point ss goal) is.live
    ∙ ap (λ q. all_departing first (live_from globals sites p) q ss goal) is.point
    ∙ all_lead globals sites p ss g (subst (λ ws. AreSegmentsOf (seen ws) g) (sym same) are) goal

-- sources, one after the other -------------------------------------------------------------------------------------------

module _ (globals : List GlobalVariable) (sites : List Site) (g : Node) where
  pub few_before_next : (n : ℕ) → ((earlier : ℕ) → earlier < n → AreFewFrom globals sites g earlier) → AreFewFrom globals sites g n
      → (earlier : ℕ) → earlier < n + 1 → AreFewFrom globals sites g earlier
  few_before_next n before here earlier less = elim (cases_lt earlier n) [
    | inl sooner ↦ before earlier sooner
    | inr later ↦ let same : n ≡ earlier = omega (arith, less, later) in subst (AreFewFrom globals sites g) same here
  ]

  module _ (n : ℕ) (s : Source) (leads : (goal : Goal) → to_goal s.entries.items s.segments.items goal ≡ actions_between_in globals sites g n goal) where
    pub few_from : AreFewTo s.entries.items s.segments.items → AreFewFrom globals sites g n
    few_from few goal = subst (λ xs. length xs ≤ greatest_paths) (leads goal) (few goal)

    pub many_from : AreManyTo s.entries.items s.segments.items → n ≤ length sites → ((earlier : ℕ) → earlier < n → AreFewFrom globals sites g earlier)
        → HasTooManyIn globals sites g n
    many_from (goal, many) source first = record {
      source = source;
      goal = goal;
      many = subst (λ xs. greatest_paths < length xs) (leads goal) many;
      first = first;
    }
