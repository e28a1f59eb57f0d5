-- The tree of a program begins with a point: the one segment from its start leads there, and none leads past it.
use Rattle.std.proofs.Common.{◌≡◌, ℕ, ◌≤◌, List, [], ◌∷◌, ◌++◌, map, filter, flat_map, length, Some, Bool, true, false, cond, ◌⊎◌, inl, inr, refl, sym, ap, ◌∙◌, subst, arith, append-nil}
use Rattle.std.proofs.{lemmas.Bool.eqb-true, lemmas.Bool.eq-eqb, lemmas.Option.same_Some}
use Rattle.std.specs.Prelude.{◌≢◌, nat_eq, slice_get}
use Rattle.lra_back_sound.specs.Crates.lra_operations.Inlined.{InlineState, InlineStmt, InlineItems, InlineLoop, as_nothing, as_block, as_absent, as_assign, as_write, as_write_call, as_call, as_if}
use Rattle.lra_back_sound.specs.Crates.lra_operations.Inlined.{as_loop, as_for, as_break, as_continue, as_return, as_return_value, as_return_call, as_end, as_end_value, as_end_call, as_assert}
use Rattle.lra_back_sound.specs.Crates.lra_operations.Inlined.{as_assume, as_switch, as_none, as_declaration, as_array, as_statement, is_loop}
use Rattle.lra_back_sound.specs.Crates.lra_path_segments.Segments.{SegmentStep, comes_to, GoalSegment, each_then, then_way, then_ways, through, enter}
use Rattle.lra_back_sound.specs.Crates.lra_paths.Paths.{same_goal, started, actions_between}
use Rattle.lra_back_sound.specs.Crates.{lra_analysis_spec.Analysis.IsUnreachable, lra_analysis_spec.MovesOf.first_values, lra_domain.Abstraction.Abstraction, lra_operations.Agree.IsInlinedTree}
use Rattle.lra_back_sound.specs.Crates.{lra_operations.Tree.normal, lra_operations.Tree.Node, lra_operations.Tree.point, lra_operations.Tree.seq, lra_path_disjuncts.Disjuncts.disjuncts}
use Rattle.lra_back_sound.specs.Crates.{lra_program.Program.Stmt, lra_program.Program.BlockItems, lra_program.Program.Program, lra_program.Sites.Site, lra_program.Sites.sites_of}
use Rattle.lra_back_sound.proofs.Crates.{lra_path_disjuncts.SideLists.sides_some, lra_path_segments.FlatSteps.flat_none}
use Rattle.lra_back_sound.specs.Fitting.{IsFirst, OnePointIsFirst, NothingLeftAtFirst}

-- beginnings of trees ----------------------------------------------------------------------------------------------------

-- with nothing done
abbrev way_to : ℕ → GoalSegment
way_to q = record { ops = []; goal = comes_to q }

-- the tree reaches no point, and does nothing
record IsIdle (g : Node) : Type 0 where
  enters : enter g ≡ []
  ends : through g normal ≡ [] ∷ []

-- it reaches this point first, and doesn't end before
record StopsAt (g : Node) (q : ℕ) : Type 0 where
  enters : enter g ≡ way_to q ∷ []
  ends : through g normal ≡ []

none_then : (ways : List GoalSegment) → then_ways [] ways ≡ []
none_then ways = flat_none (λ (way : GoalSegment). map (then_way way) []) (λ way. refl) ways

none_through : (ys : List (List SegmentStep)) → each_then [] ys ≡ []
none_through ys = flat_none (λ (y : List SegmentStep). map (λ x. x ++ y) []) (λ y. refl) ys

idle_both : (a b : Node) → IsIdle a → IsIdle b → IsIdle (seq a b)
idle_both a b x y = record {
  enters = ap (λ ways. ways ++ then_ways (through a normal) (enter b)) x.enters ∙ ap (then_ways (through a normal)) y.enters;
  ends = ap (λ xs. each_then xs (through b normal)) x.ends ∙ ap (each_then ([] ∷ [])) y.ends;
}

stops_in_first : (a b : Node) (q : ℕ) → StopsAt a q → StopsAt (seq a b) q
stops_in_first a b q x = record {
  enters = ap (λ xs. enter a ++ then_ways xs (enter b)) x.ends ∙ ap (λ ways. enter a ++ ways) (none_then (enter b)) ∙ append-nil (enter a) ∙ x.enters;
  ends = ap (λ xs. each_then xs (through b normal)) x.ends ∙ none_through (through b normal);
}

stops_in_next : (a b : Node) (q : ℕ) → IsIdle a → StopsAt b q → StopsAt (seq a b) q
stops_in_next a b q x y = record {
  enters = ap (λ ways. ways ++ then_ways (through a normal) (enter b)) x.enters ∙ ap (λ xs. then_ways xs (enter b)) x.ends
      ∙ ap (then_ways ([] ∷ [])) y.enters;
  ends = ap (each_then (through a normal)) y.ends;
}

-- at one of these points
module _ (T : List Site) where
  abbrev Stops : Node → Type 0
  Stops g = (q : ℕ) × (s : Site) × (slice_get T q ≡ Some s) × StopsAt g q

  abbrev Begins : Node → Type 0
  Begins g = IsIdle g ⊎ Stops g

  at_point : (q : ℕ) (s : Site) → slice_get T q ≡ Some s → Stops (point q)
  at_point q s is = (q, s, is, record { enters = refl; ends = refl })

  in_first : (a b : Node) → Stops a → Stops (seq a b)
  in_first a b x = (x.0, x.1, x.2, stops_in_first a b x.0 x.3)

  behind_point : (q : ℕ) (b : Node) (s : Site) → slice_get T q ≡ Some s → Stops (seq (point q) b)
  behind_point q b s is = in_first (point q) b (at_point q s is)

  in_either : (a b : Node) → Begins a → Stops b → Stops (seq a b)
  in_either a b (inl x) y = (y.0, y.1, y.2, stops_in_next a b y.0 x y.3)
  in_either a b (inr x) y = in_first a b x

  in_sequence : (a b : Node) → Begins a → Begins b → Begins (seq a b)
  in_sequence a b (inl x) (inl y) = inl (idle_both a b x y)
  in_sequence a b (inl x) (inr y) = inr (in_either a b (inl x) y)
  in_sequence a b (inr x) y = inr (in_first a b x)

-- trees of programs -------------------------------------------------------------------------------------------------------

loop_stops : {P : Program} {T : List Site} {spot : InlineState} {r : ℕ} {s : Stmt} {g : Node} {q : ℕ} → InlineLoop P T spot r s g q → Stops T g
loop_stops (is_loop i d e) = (_, _, i, record { enters = refl; ends = refl })

mutual
  one_begins : {P : Program} {T : List Site} {spot : InlineState} {s : Stmt} {g : Node} {q : ℕ} → InlineStmt P T spot s g q → Begins T g
  one_begins (as_nothing i) = inr (at_point _ _ _ i)
  one_begins (as_block d i) = inr (in_either _ _ _ (all_begin d) (behind_point _ _ _ _ i))
  one_begins as_absent = inl (record { enters = refl; ends = refl })
  one_begins (as_assign i d) = inr (behind_point _ _ _ _ i)
  one_begins (as_write i) = inr (behind_point _ _ _ _ i)
  one_begins (as_write_call i d) = inr (behind_point _ _ _ _ i)
  one_begins (as_call i d) = inr (behind_point _ _ _ _ i)
  one_begins (as_if i d e) = inr (behind_point _ _ _ _ i)
  one_begins (as_loop d) = inr (loop_stops d)
  one_begins (as_for d e) = inr (in_either _ _ _ (all_begin d) (in_first _ _ _ (loop_stops e)))
  one_begins (as_break i k j) = inr (behind_point _ _ _ _ j)
  one_begins (as_continue i k j) = inr (behind_point _ _ _ _ j)
  one_begins (as_return i k j) = inr (behind_point _ _ _ _ j)
  one_begins (as_return_value i k j) = inr (behind_point _ _ _ _ j)
  one_begins (as_return_call i k j d) = inr (behind_point _ _ _ _ j)
  one_begins (as_end i j) = inr (behind_point _ _ _ _ j)
  one_begins (as_end_value i j) = inr (behind_point _ _ _ _ j)
  one_begins (as_end_call i j d) = inr (behind_point _ _ _ _ j)
  one_begins (as_assert i) = inr (behind_point _ _ _ _ i)
  one_begins (as_assume i) = inr (behind_point _ _ _ _ i)
  one_begins (as_switch i d) = inr (behind_point _ _ _ _ i)

  all_begin : {P : Program} {T : List Site} {spot : InlineState} {s : BlockItems} {g : Node} {n q : ℕ} → InlineItems P T spot s g n q → Begins T g
  all_begin as_none = inl (record { enters = refl; ends = refl })
  all_begin (as_declaration i j e) = inr (in_first _ _ _ (behind_point _ _ _ _ i))
  all_begin (as_array i e) = inr (in_first _ _ _ (behind_point _ _ _ _ i))
  all_begin (as_statement d e) = in_sequence _ _ _ (one_begins d) (all_begin e)

graph_stops : (P : Program) (g : Node) → IsInlinedTree P g → Stops (sites_of P) g
graph_stops P g is = subst (Stops (sites_of P)) (sym is.parts)
    (in_either (sites_of P) is.body (point is.last) (all_begin is.inlined) (at_point (sites_of P) is.last _ is.ends))

-- paths -------------------------------------------------------------------------------------------------------------------

some_made : {A B : Type 0} (f : A → B) (xs : List A) → 1 ≤ length xs → (map f xs ++ []) ++ [] ≢ []
some_made f [] h e = absurd (omega (arith, h))
some_made f (x ∷ xs) h e = absurd (let no : f x ∷ ((map f xs ++ []) ++ []) ≡ [] = e in cc)

module _ (P : Program) (g : Node) (q : ℕ) (stops : StopsAt g q) where
  abbrev Started : Bool → List GoalSegment
  Started b = cond b (way_to q ∷ []) []

  lead_so : (r : ℕ) (b : Bool) → nat_eq q r ≡ b → actions_between P g 0 (comes_to r) ≡ flat_map (λ (way : GoalSegment). started P.globals way.ops) (Started b)
  lead_so r b e =
      ap (λ ways. flat_map (λ (way : GoalSegment). started P.globals way.ops) (filter (λ (way : GoalSegment). same_goal way.goal (comes_to r)) ways))
      stops.enters
      ∙ ap (λ c. flat_map (λ (way : GoalSegment). started P.globals way.ops) (Started c)) e

  lead_there : actions_between P g 0 (comes_to q) ≢ []
  lead_there none = some_made (λ x. x ++ []) (disjuncts (first_values 0 P.globals)) (sides_some (first_values 0 P.globals))
      (sym (lead_so q true (eq-eqb q q refl)) ∙ none)

  lead_nowhere_else : (r : ℕ) (b : Bool) → nat_eq q r ≡ b → actions_between P g 0 (comes_to r) ≢ [] → r ≡ q
  lead_nowhere_else r true e some = sym (eqb-true q r e)
  lead_nowhere_else r false e some = absurd (some (lead_so r false e))

  first_stop : (s : Site) → slice_get (sites_of P) q ≡ Some s → IsFirst P g q
  first_stop s is = record { site = (s, is); leads = lead_there; alone = λ r some. lead_nowhere_else r (nat_eq q r) refl some }

pub one_first : OnePointIsFirst
one_first P g is = let x = graph_stops P g is in (x.0, first_stop P g x.0 x.3 x.1 x.2)

pub nothing_left : {V H : Type 0} (m : Abstraction V H) → NothingLeftAtFirst m
nothing_left m P g q values v first is = (
  λ nothing. nothing q v is first.leads,
  λ left r u there some.
      let same = ap (slice_get values) (sym (first.alone r some)) ∙ there in
      subst (IsUnreachable m) (same_Some v u (sym is ∙ same)) left,
)
