-- A pass covers the runs of the program's own tree: under interference over the tree that is instrumented for it, and alone
-- over the tree itself. At a loop's head it has what others make of what comes there; that they may act on that once more
-- isn't asked of it.
use Rattle.std.proofs.Common.{◌≡◌, ◌∙◌, ◌≢◌, ◌<◌, inl, inr, ℕ, zero, suc, ◌-◌, ℤ, List, ◌∷◌, [], Option, None, Some, Bool, true, false, refl, subst, sym, ap, ap₂, arith}
use Rattle.std.proofs.{lemmas.Bool.Decides.nat_tests, lemmas.Bool.lt-ltb, lemmas.List.Elements.Contains-append_left, lemmas.List.Elements.Contains-append_right, lemmas.Option.same_Some}
use Rattle.std.specs.{List.Contains, List.list_any, Prelude.◌||◌, Prelude.◌⊎◌, Prelude.if◌then◌else◌, Prelude.nat_lt}
use Rattle.lra_interference_sound.proofs.Crates.lra_linear_spec.Membership.{contains_head, contains_tail}
use Rattle.lra_interference_sound.specs.Crates.lra_domain.Interference.{Interference, none}
use Rattle.lra_interference_sound.specs.Crates.lra_operations.Traces.{Stop, by_jump, to_point, to_failure, to_end, StopsAtPoint, TrailRounds, Performs, Finds, VisitsAndTests, RunsUpTo}
use Rattle.lra_interference_sound.specs.Crates.lra_operations.Tree.{Exit, Node, empty, point, probe, act, check, seq, choose, iterate, catch, leave, select, Arms, no_arms, entry, arm, entries_of}
use Rattle.lra_interference_sound.specs.Crates.lra_operations.declared.probes.Probe.TheVariants.{InterferencePoint, RecordWrite}
use Rattle.lra_interference_sound.specs.Crates.lra_program.Step.{State, Op, run_op, test}
use Rattle.lra_interference_sound.specs.Crates.{lra_base.CaseLabels.is_same_case, lra_base.declared.case_labels.CaseLabel.CaseLabel, lra_base.declared.case_labels.CaseLabel.TheVariants.Default}
use Rattle.lra_interference_sound.specs.Crates.{lra_domain.Abstraction.Abstraction, lra_domain.Actions.Within, lra_domain.Laws.Laws, lra_domain.declared.Exactness.Exactness}
use Rattle.lra_interference_sound.specs.Crates.{lra_linear_spec.declared.ConKind.ConKind, lra_operations.declared.probes.Probe.Probe, lra_program.Program.Expr, lra_program.Program.Cond}
use Rattle.lra_interference_sound.specs.Crates.{lra_program.Traces.Trace, lra_program.Traces.NoChange, lra_program.WrittenVariables.written_variable, lra_systems.LinearSystems.LinearSystem}
use Rattle.lra_analysis_spec.specs.Pass.{PassEntry, value, failing, recorded, PassResult, noted, goes_on, in_turn, jumps_caught, jumps, Filters, LoopRoundFrom, AscendingIteration, DescendingIteration}
use Rattle.lra_analysis_spec.specs.{Instrumented.with_recording, Instrumented.instrumented, Instrumented.instrumented_arms, Operations.lossy_operations, Pass.Absorption, Pass.Transformer, Pass.PassUnder}
use Rattle.lra_analysis_spec.specs.{Pass.nothing_absorbed, Pass.Pass, UnderInterference.LossyPass}
use Rattle.lra_analysis_spec.specs.{Pass.ArmsPassUnder, Pass.MatchesNone, Pass.ComesOut, Plan.Plan, Plan.Widening, Plan.mode_at, UnderInterference.absorbed}
use Rattle.lra_analysis_spec.proofs.Sound.{left_jump, right_jump, jump_there, behind_normal, jumps_same, behind_entries, behind_jump, joined_caught, enters_has, out_has, comes_running, comes_other}
use Rattle.lra_analysis_spec.proofs.Sound.{Runs, Waits, enters_running, waits_on}
use Rattle.lra_interference_sound.proofs.Crates.lra_operations.TraceLaws as trees
use Rattle.lra_analysis_spec.proofs.{Covers.Covers, Covers.Has, Covers.HeadHas, Covers.covered_has, Covers.stays_has, Keeps.changes_keep}
use Rattle.lra_interference_sound.specs.CoversUnder.{Moment, stop, after_write, Happens, ArmsHappen, Owes, CoversUnder, BodyCovers, ArmsCoverUnder, MayBecome, PassesCoverUnder}

-- the tree that is passed ----------------------------------------------------------------------------------------------

-- under interference others may act before this tree, and after it
abbrev others_before : Bool → ℕ → Node → Node
others_before false q g = g
others_before true q g = seq (probe q InterferencePoint) g

abbrev others_after : Bool → ℕ → Node → Node
others_after false q g = g
others_after true q g = seq g (probe q InterferencePoint)

abbrev mutual
  -- instrumented, if it is passed under interference; else others act nowhere
  pub passed_tree : Bool → ℕ → Node → Node
  passed_tree among n empty = empty
  passed_tree among n (point q) = others_before among q (point q)
  passed_tree among n (probe q what) = probe q what
  passed_tree among n (act q op) = with_recording n q (written_variable op) (act q op)
  passed_tree among n (check q base c) = check q base c
  passed_tree among n (seq a b) = seq (passed_tree among n a) (passed_tree among n b)
  passed_tree among n (choose q base c a b) = choose q base c (passed_tree among n a) (passed_tree among n b)
  passed_tree among n (iterate q base c a) = others_before among q (iterate q base c (others_after among q (passed_tree among n a)))
  passed_tree among n (catch q k a) = catch q k (passed_tree among n a)
  passed_tree among n (leave live k) = leave live k
  passed_tree among n (select q base e arms) = select q base e (passed_arms among n arms)

  pub passed_arms : Bool → ℕ → Arms → Arms
  passed_arms among n no_arms = no_arms
  passed_arms among n (entry l arms) = entry l (passed_arms among n arms)
  passed_arms among n (arm a arms) = arm (passed_tree among n a) (passed_arms among n arms)

mutual
  pub passed_among : (n : ℕ) (g : Node) → passed_tree true n g ≡ instrumented n g
  passed_among n empty = refl
  passed_among n (point q) = refl
  passed_among n (probe q what) = refl
  passed_among n (act q op) = refl
  passed_among n (check q base c) = refl
  passed_among n (seq a b) = ap₂ seq (passed_among n a) (passed_among n b)
  passed_among n (choose q base c a b) = ap₂ (choose q base c) (passed_among n a) (passed_among n b)
  passed_among n (iterate q base c a) = ap (λ g. others_before true q (iterate q base c (others_after true q g))) (passed_among n a)
  passed_among n (catch q k a) = ap (catch q k) (passed_among n a)
  passed_among n (leave live k) = refl
  passed_among n (select q base e arms) = ap (select q base e) (arms_among n arms)

  arms_among : (n : ℕ) (arms : Arms) → passed_arms true n arms ≡ instrumented_arms n arms
  arms_among n no_arms = refl
  arms_among n (entry l arms) = ap (entry l) (arms_among n arms)
  arms_among n (arm a arms) = ap₂ arm (passed_among n a) (arms_among n arms)

none_below : (x : ℕ) → nat_lt x 0 ≡ false
none_below x = grind (arith, nat_tests)

unrecorded : (q : ℕ) (to : Option ℕ) (g : Node) → with_recording 0 q to g ≡ g
unrecorded q None g = refl
unrecorded q (Some x) g = rw (none_below x) refl

mutual
  pub passed_alone : (g : Node) → passed_tree false 0 g ≡ g
  passed_alone empty = refl
  passed_alone (point q) = refl
  passed_alone (probe q what) = refl
  passed_alone (act q op) = unrecorded q (written_variable op) (act q op)
  passed_alone (check q base c) = refl
  passed_alone (seq a b) = ap₂ seq (passed_alone a) (passed_alone b)
  passed_alone (choose q base c a b) = ap₂ (choose q base c) (passed_alone a) (passed_alone b)
  passed_alone (iterate q base c a) = ap (iterate q base c) (passed_alone a)
  passed_alone (catch q k a) = ap (catch q k) (passed_alone a)
  passed_alone (leave live k) = refl
  passed_alone (select q base e arms) = ap (select q base e) (arms_alone arms)

  arms_alone : (arms : Arms) → passed_arms false 0 arms ≡ arms
  arms_alone no_arms = refl
  arms_alone (entry l arms) = ap (entry l) (arms_alone arms)
  arms_alone (arm a arms) = ap₂ arm (passed_alone a) (arms_alone arms)

-- labels are as they were
same_entries : (among : Bool) (n : ℕ) (arms : Arms) → entries_of (passed_arms among n arms) ≡ entries_of arms
same_entries among n no_arms = refl
same_entries among n (entry l arms) = ap (λ ls. l ∷ ls) (same_entries among n arms)
same_entries among n (arm g arms) = same_entries among n arms

-- what runs meet, form by form -----------------------------------------------------------------------------------------

module _ {A : Type 0} (name : ℕ → A) (may : State → State → Type 0) where
  -- once round a loop
  abbrev Round : ℕ → ℕ → Cond → Node → Trace A → Trace A → Type 0
  Round q base c g u v = (w : Trace A) × VisitsAndTests name may q base c true u w × RunsUpTo name may g w to_end v

  abbrev AtPoint : ℕ → Moment → Type 0
  AtPoint q (stop z) = StopsAtPoint q z
  AtPoint q (after_write p x) = ⊥

  seq_happens : (g h : Node) (a : Trace A) (i : Moment) (b : Trace A) → Happens name may (seq g h) a i b
      → Happens name may g a i b ⊎ ((m : Trace A) × RunsUpTo name may g a to_end m × Happens name may h m i b)
  seq_happens g h a (stop z) b is = is
  seq_happens g h a (after_write p x) b is = is

  choose_happens : (q base : ℕ) (c : Cond) (g h : Node) (a : Trace A) (i : Moment) (b : Trace A) → Happens name may (choose q base c g h) a i b
      → ((m : Trace A) × Performs (test base c true) a m × Happens name may g m i b) ⊎ ((m : Trace A) × Performs (test base c false) a m × Happens name may h m i b)
  choose_happens q base c g h a (stop z) b is = is
  choose_happens q base c g h a (after_write p x) b is = is

  loop_happens : (q base : ℕ) (c : Cond) (g : Node) (a : Trace A) (i : Moment) (b : Trace A) → Happens name may (iterate q base c g) a i b
      → (k : ℕ) × (m : Trace A) × TrailRounds (Round q base c g) k a m ×
      ((AtPoint q i × (b ≡ m)) ⊎ ((w : Trace A) × VisitsAndTests name may q base c true m w × Happens name may g w i b))
  loop_happens q base c g a (stop z) b is = is
  loop_happens q base c g a (after_write p x) b (k, m, rounds, w, tests, rest) = (k, m, rounds, inr (w, tests, rest))

  select_happens : (q base : ℕ) (e : Expr) (arms : Arms) (a : Trace A) (i : Moment) (b : Trace A) → Happens name may (select q base e arms) a i b
      → (l : CaseLabel) × (m : Trace A) × Finds base e arms a l m × ArmsHappen name may l false arms m i b
  select_happens q base e arms a (stop z) b is = is
  select_happens q base e arms a (after_write p x) b is = is

  none_happens : (l : CaseLabel) (met : Bool) (a : Trace A) (i : Moment) (b : Trace A) → ArmsHappen name may l met no_arms a i b → ⊥
  none_happens l met a (stop z) b is = is
  none_happens l met a (after_write p x) b is = is

  entry_happens : (l k : CaseLabel) (met : Bool) (arms : Arms) (a : Trace A) (i : Moment) (b : Trace A) → ArmsHappen name may l met (entry k arms) a i b
      → ArmsHappen name may l (met || is_same_case l k) arms a i b
  entry_happens l k met arms a (stop z) b is = is
  entry_happens l k met arms a (after_write p x) b is = is

  missed_happens : (l : CaseLabel) (g : Node) (arms : Arms) (a : Trace A) (i : Moment) (b : Trace A) → ArmsHappen name may l false (arm g arms) a i b
      → ArmsHappen name may l false arms a i b
  missed_happens l g arms a (stop z) b is = is
  missed_happens l g arms a (after_write p x) b is = is

  arm_happens : (l : CaseLabel) (g : Node) (arms : Arms) (a : Trace A) (i : Moment) (b : Trace A) → ArmsHappen name may l true (arm g arms) a i b
      → Happens name may g a i b ⊎ ((m : Trace A) × RunsUpTo name may g a to_end m × ArmsHappen name may l true arms m i b)
  arm_happens l g arms a (stop z) b is = is
  arm_happens l g arms a (after_write p x) b is = is

-- what a part of a pass has, the whole has ------------------------------------------------------------------------------

module _ {V H : Type 0} (m : Abstraction V H) (may : State → State → Type 0) (n : ℕ) where
  owed_left : (x y : PassResult V) (v : V) (f : Option ℕ) (i : Moment) (s : State) → Owes m may n x i s → Owes m may n (in_turn x y v f) i s
  owed_left x y v f (stop (by_jump k)) s o = (o.0, left_jump k x y v f o.0 o.1, o.2)
  owed_left x y v f (stop (to_point p)) s o = λ t l. let r = o t l in (r.0, Contains-append_left x.entries y.entries (value p r.0) r.1, r.2)
  owed_left x y v f (stop (to_failure p)) s o = (o.0, o.1, Contains-append_left x.entries y.entries (failing p o.0) o.2, o.3)
  owed_left x y v f (after_write p z) s o = λ l. let r = o l in (r.0, Contains-append_left x.entries y.entries (recorded p z r.0) r.1, r.2)

  owed_right : (x y : PassResult V) (v : V) (f : Option ℕ) (i : Moment) (s : State) → Owes m may n y i s → Owes m may n (in_turn x y v f) i s
  owed_right x y v f (stop (by_jump k)) s o = (o.0, right_jump k x y v f o.0 o.1, o.2)
  owed_right x y v f (stop (to_point p)) s o = λ t l. let r = o t l in (r.0, Contains-append_right x.entries y.entries (value p r.0) r.1, r.2)
  owed_right x y v f (stop (to_failure p)) s o = (o.0, o.1, Contains-append_right x.entries y.entries (failing p o.0) o.2, o.3)
  owed_right x y v f (after_write p z) s o = λ l. let r = o l in (r.0, Contains-append_right x.entries y.entries (recorded p z r.0) r.1, r.2)

  -- a loop's value at its point stands before what its last round finds
  owed_behind_top : (z : PassResult V) (top : PassEntry V) (out : V) (f : Option ℕ) (i : Moment) (s : State) → Owes m may n z i s
      → Owes m may n (record z { entries = top ∷ z.entries; normal = out; flag = f }) i s
  owed_behind_top z top out f (stop (by_jump k)) s o = (o.0, jumps_same k z top out f o.0 o.1, o.2)
  owed_behind_top z top out f (stop (to_point p)) s o = λ t l. let r = o t l in (r.0, contains_tail top (value p r.0) z.entries r.1, r.2)
  owed_behind_top z top out f (stop (to_failure p)) s o = (o.0, o.1, contains_tail top (failing p o.0) z.entries o.2, o.3)
  owed_behind_top z top out f (after_write p x) s o = λ l. let r = o l in (r.0, contains_tail top (recorded p x r.0) z.entries r.1, r.2)

  -- what isn't caught goes on
  abbrev GoesPast : Exit → Moment → Type 0
  GoesPast k (stop z) = z ≢ by_jump k
  GoesPast k (after_write p x) = Unit {0}

  owed_past : (k : Exit) (x : PassResult V) (w : V) (f : Option ℕ) (i : Moment) (s : State) → GoesPast k i → Owes m may n x i s →
      Owes m may n (jumps_caught k x w f) i s
  owed_past k x w f (stop (by_jump j)) s other o = (o.0, behind_jump k j x w f (λ same. other (ap by_jump same)) o.0 o.1, o.2)
  owed_past k x w f (stop (to_point p)) s other o =
      λ t l. let r = o t l in (r.0, subst (λ (es : List (PassEntry V)). Contains es (value p r.0)) (sym (behind_entries k x w f)) r.1, r.2)
  owed_past k x w f (stop (to_failure p)) s other o =
      (o.0, o.1, subst (λ (es : List (PassEntry V)). Contains es (failing p o.0)) (sym (behind_entries k x w f)) o.2, o.3)
  owed_past k x w f (after_write p y) s other o =
      λ l. let r = o l in (r.0, subst (λ (es : List (PassEntry V)). Contains es (recorded p y r.0)) (sym (behind_entries k x w f)) r.1, r.2)

  module _ {A : Type 0} (name : ℕ → A) where
    caught_happens : (q : ℕ) (k : Exit) (g : Node) (a : Trace A) (i : Moment) (b : Trace A) → Happens name may (catch q k g) a i b → GoesPast k i × Happens name may g a i b
    caught_happens q k g a (stop z) b is = is
    caught_happens q k g a (after_write p x) b is = (tt, is)

-- the pass ------------------------------------------------------------------------------------------------------------

-- what others may do to a state, and what a pass adds for them: that a value has, too; alone they do nothing
pub record Admits {V H : Type 0} (among : Bool) (m : Abstraction V H) (may : State → State → Type 0) (admission : Absorption V) : Type 0 where
  pub nothing : (s : State) → may s s
  pub taken : (v : V) (e : Exactness) (w : V) → admission v e w → (s t : State) → Has m v s.store → may s t → Has m w t.store
  pub alone : among ≡ false → (s t : State) → may s t → t ≡ s

module _ {A V H : Type 0} (name : ℕ → A) (may : State → State → Type 0) (n : ℕ) (among : Bool) (m : Abstraction V H) (laws : Laws m) (admission : Absorption V)
    (admits : Admits among m may admission) (set : Plan) where
  abbrev Passed : Node → Transformer V
  Passed g = PassUnder V H (lossy_operations m) admission set g

  abbrev Good : Node → Trace A → PassResult V → Type 0
  Good g a r = CoversUnder name may n m g a r

  -- what others make of a state is in the value after
  entering : (q : ℕ) (f : Option ℕ) (v : V) (x : PassResult V) → Passed (probe q InterferencePoint) f v x → (s t : State) → Has m v s.store → may s t → Has m x.normal t.store
  entering q f v x (w, e, taken, is) s t h l =
      subst (λ (y : PassResult V). Has m y.normal t.store) (sym is) (admits.taken v e w taken s t h l)

  -- what others make of a state that comes to the value
  abbrev HasAfter : V → V → Type 0
  HasAfter v w = (s t : State) → Has m v s.store → may s t → Has m w t.store

  alone_has : among ≡ false → (v : V) → HasAfter v v
  alone_has quiet v s t h l = subst (λ (u : State). Has m v u.store) (sym (admits.alone quiet s t l)) h

  -- before a point or a loop, and at the end of its body
  enters_tree : (b : Bool) → among ≡ b → (q : ℕ) (g : Node) (f : Option ℕ) (v : V) (r : PassResult V) → Passed (others_before b q g) f v r
      → (x y : PassResult V) × HasAfter v x.normal × Passed g x.flag x.normal y × (r ≡ in_turn x y y.normal y.flag)
  enters_tree false is q g f v r pass = (goes_on [] v f, r, alone_has is v, pass, refl)
  enters_tree true is q g f v r (x, y, one, two, same) = (x, y, entering q f v x one, two, same)

  leaves_tree : (b : Bool) → among ≡ b → (q : ℕ) (g : Node) (f : Option ℕ) (v : V) (r : PassResult V) → Passed (others_after b q g) f v r
      → (x : PassResult V) × Passed g f v x × HasAfter x.normal r.normal × ((i : Moment) (s : State) → Owes m may n x i s → Owes m may n r i s)
  leaves_tree false is q g f v r pass = (r, pass, alone_has is r.normal, λ i s o. o)
  leaves_tree true is q g f v r (x, y, one, two, same) = (
    x,
    one,
    λ s t h l. subst (λ (z : PassResult V). Has m z.normal t.store) (sym same) (entering q x.flag x.normal y two s t h l),
    λ i s o. subst (λ (z : PassResult V). Owes m may n z i s) (sym same) (owed_left m may n x y y.normal y.flag i s o),
  )

  -- leaves
  quiet_empty : (a : Trace A) (r : PassResult V) (i : Moment) (b : Trace A) → Happens name may empty a i b → Owes m may n r i b.state
  quiet_empty a r (stop z) b is = absurd is
  quiet_empty a r (after_write p x) b is = absurd is

  quiet_aside : (q : ℕ) (what : Probe) (a : Trace A) (r : PassResult V) (i : Moment) (b : Trace A) → Happens name may (probe q what) a i b → Owes m may n r i b.state
  quiet_aside q what a r (stop z) b is = absurd is
  quiet_aside q what a r (after_write p x) b is = absurd is

  stays_there : (q : ℕ) (what : Probe) (v : V) (a : Trace A) (r : PassResult V) → Has m r.normal a.state.store → Good (probe q what) a r
  stays_there q what v a r h = record { ends = λ b e. subst (λ (z : Trace A). Has m r.normal z.state.store) (sym e) h; finds = quiet_aside q what a r }

  point_owed : (q : ℕ) (a : Trace A) (w : V) (f : Option ℕ) → ((t : State) → may a.state t → Has m w t.store) → (i : Moment) (b : Trace A) → Happens name may (point q) a i b
      → Owes m may n (goes_on (value q w ∷ []) w f) i b.state
  point_owed q a w f has (stop (by_jump k)) b is = absurd is.0
  point_owed q a w f has (stop (to_point p)) b is =
      λ t l. (w, subst (λ (x : ℕ). Contains (value q w ∷ []) (value x w)) (sym is.0) (contains_head (value q w) []), has t (subst (λ (z : Trace A). may z.state t) is.1 l))
  point_owed q a w f has (stop (to_failure p)) b is = absurd is.0
  point_owed q a w f has (after_write p x) b is = absurd is

  check_owed : (q base : ℕ) (c : Cond) (a : Trace A) (u w : V) (f : Option ℕ) → ((t : State) → run_op (test base c false) a.state ≡ Some t → Has m u t.store)
      → (i : Moment) (b : Trace A) → Happens name may (check q base c) a i b → Owes m may n (goes_on (failing q u ∷ []) w f) i b.state
  check_owed q base c a u w f has (stop (by_jump k)) b is = absurd is.0
  check_owed q base c a u w f has (stop (to_point p)) b is = absurd is.0
  check_owed q base c a u w f has (stop (to_failure p)) b (at, same, t, ran) =
      (u, t, subst (λ (x : ℕ). Contains (failing q u ∷ []) (failing x u)) (sym at) (contains_head (failing q u) []), has t ran)
  check_owed q base c a u w f has (after_write p x) b is = absurd is

  leave_owed : (live : ℕ) (k : Exit) (a : Trace A) (v w : V) (f : Option ℕ) → Has m v a.state.store → (i : Moment) (b : Trace A)
      → Happens name may (leave live k) a i b → Owes m may n (jumps k v w f) i b.state
  leave_owed live k a v w f h (stop z) b (at, same) = subst (λ (y : Stop). Owes m may n (jumps k v w f) (stop y) b.state) (sym at)
      (v, jump_there k v w f, subst (λ (y : Trace A). Has m v y.state.store) (sym same) h)
  leave_owed live k a v w f h (after_write p x) b is = absurd is

  -- a change that gives nothing to be noted
  ungiven : (q : ℕ) (op : Op) (a : Trace A) (r : PassResult V) → ((x : ℕ) → written_variable op ≡ Some x → x < n → ⊥) → (i : Moment) (b : Trace A)
      → Happens name may (act q op) a i b → Owes m may n r i b.state
  ungiven q op a r never (stop z) b is = absurd is
  ungiven q op a r never (after_write p x) b is = λ l. absurd (never x is.1 l)

  given_owed : (q : ℕ) (op : Op) (a : Trace A) (k : ℕ) (w : V) (f : Option ℕ) → written_variable op ≡ Some k →
      ((b : Trace A) → Performs op a b → Has m w b.state.store)
      → (i : Moment) (b : Trace A) → Happens name may (act q op) a i b → Owes m may n (goes_on (recorded q k w ∷ []) w f) i b.state
  given_owed q op a k w f same has (stop z) b is = absurd is
  given_owed q op a k w f same has (after_write p x) b (at, gives, ran) =
      λ l. (
        w,
        subst (λ (i : ℕ). Contains (recorded q k w ∷ []) (recorded i x w)) (sym at)
            (subst (λ (y : ℕ). Contains (recorded q k w ∷ []) (recorded q y w)) (same_Some k x (sym same ∙ gives)) (contains_head (recorded q k w) [])),
        has b ran,
      )

  noting : (q : ℕ) (op : Op) (k : ℕ) → written_variable op ≡ Some k → (few : Bool) → nat_lt k n ≡ few → (f : Option ℕ) (v : V) (r : PassResult V)
      → Passed (if few then seq (act q op) (probe q (RecordWrite k)) else act q op) f v r → (a : Trace A) → Has m v a.state.store → Good (act q op) a r
  noting q op k same true less f v r (x, y, (w, e, done, one), two, is) a h =
      let has : (b : Trace A) → Performs op a b → Has m x.normal b.state.store =
      λ b ran. subst (λ (z : PassResult V). Has m z.normal b.state.store) (sym one) (changes_keep V H m laws op v e w done a.state b.state h ran.0) in
      subst (Good (act q op) a) (sym (is ∙ ap (λ (z : PassResult V). in_turn x z z.normal z.flag) two)) (record {
        ends = has;
        finds = λ i b d. owed_right m may n x (goes_on (recorded q k x.normal ∷ []) x.normal x.flag) x.normal x.flag i b.state (given_owed q op a k x.normal x.flag same has i b d);
      })
  noting q op k same false less f v r (w, e, done, is) a h = subst (Good (act q op) a) (sym is) (record {
    ends = λ b ran. changes_keep V H m laws op v e w done a.state b.state h ran.0;
    finds = ungiven q op a (goes_on [] w (noted q e f))
        (λ x gives l. absurd (let no : false ≡ true = sym less ∙ lt-ltb k n (subst (λ (y : ℕ). y < n) (sym (same_Some k x (sym same ∙ gives))) l) in cc));
  })

  acted : (q : ℕ) (op : Op) (to : Option ℕ) → written_variable op ≡ to → (f : Option ℕ) (v : V) (r : PassResult V) →
      Passed (with_recording n q to (act q op)) f v r
      → (a : Trace A) → Has m v a.state.store → Good (act q op) a r
  acted q op None same f v r (w, e, done, is) a h = subst (Good (act q op) a) (sym is) (record {
    ends = λ b ran. changes_keep V H m laws op v e w done a.state b.state h ran.0;
    finds = ungiven q op a (goes_on [] w (noted q e f)) (λ x gives l. absurd (let no : None ≡ Some x = sym same ∙ gives in cc));
  })
  acted q op (Some k) same f v r pass a h = noting q op k same (nat_lt k n) refl f v r pass a h

  -- loops
  abbrev ValueAt : V → Trace A → Type 0
  ValueAt v a = (t : State) → may a.state t → Has m v t.store

  abbrev HeadAt : H → Trace A → Type 0
  HeadAt h a = (t : State) → may a.state t → HeadHas m h t.store

  module _ (q base : ℕ) (c : Cond) (g : Node) (body : Transformer V)
      (inside : (f : Option ℕ) (v : V) (r : PassResult V) → body f v r → (a : Trace A) → Has m v a.state.store → BodyCovers name may n m g a r) where
    tested : (wanted : Bool) (v : V) (e : Exactness) (w : V) → Filters (lossy_operations m) base c wanted v e w → (a b : Trace A) → ValueAt v a → VisitsAndTests name may q base c wanted a b
        → Has m w b.state.store
    tested wanted v e w on a b k (p, passes, performs) = changes_keep V H m laws (test base c wanted) v e w on p.state b.state (k p.state passes.0) performs.0

    round_keeps : (f : Option ℕ) (v : V) (r : PassResult V) → LoopRoundFrom V H (lossy_operations m) q base c body f v r → (a b : Trace A) → ValueAt v a → Round name may q base c g a b
        → ValueAt r.normal b
    round_keeps f v r (w, e, x, on, pass, is) a b k (u, tests, goes) t l =
        subst (λ (y : PassResult V). Has m y.normal t.store) (sym is) ((inside (noted q e f) w x pass u (tested true v e w on a u k tests)).ends b goes t l)

    -- a head that has all that its first one had, and what others make of what a round leads to
    grows_keeps : (widening : Widening) (left : ℕ) (f : Option ℕ) (h : H) (later : List H) (v : V) (r : PassResult V)
        → AscendingIteration V H (lossy_operations m) q base c body widening left f h later v r
        → (last : H) × Within (HeadHas m h) (HeadHas m last) × Within (HeadHas m last) (Has m v)
        × ((a b : Trace A) → HeadAt last a → Round name may q base c g a b → HeadAt last b)
        × ((i : Option ℕ) × LoopRoundFrom V H (lossy_operations m) q base c body i v r)
    grows_keeps widening left f h [] v r ((e, valued, turn), stays) = (
      h,
      λ st k. k,
      λ st k. (valued.0.formed, valued.0.stores st k.1),
      λ a b k one t l. stays_has m laws h r.normal (mode_at widening left) (k one.1.0.state one.1.1.0).0 (laws.answers_yes h r.normal (mode_at widening left) stays.0) t.store
          (round_keeps (noted q e f) v r turn a b (λ u j. (valued.0.formed, valued.0.stores u.store (k u j).1)) one t l),
      (noted q e f, turn),
    )
    grows_keeps widening left f h (next ∷ later) v r (u, x, e, turn, grown, rest) =
        let i = grows_keeps widening (left - 1) (noted q e x.flag) next later v r rest in
        (i.0, λ st k. i.1 st (grown.0.formed, laws.old_stores h x.normal next k.0 grown.0.formed grown.0.both st k.1), i.2, i.3, i.4)

    -- narrowed, the value still has what others make of all that some rounds reach from the first one
    narrows_keeps : (more : ℕ) (first u : V) (x : PassResult V) (v : V) (r : PassResult V) →
        DescendingIteration V H (lossy_operations m) q base c body more first u x v r
        → (a : Trace A) → ValueAt first a
        → ((k : ℕ) (b : Trace A) → TrailRounds (Round name may q base c g) k a b → ValueAt u b)
        → ((i : Option ℕ) × LoopRoundFrom V H (lossy_operations m) q base c body i u x)
        → ((k : ℕ) (b : Trace A) → TrailRounds (Round name may q base c g) k a b → ValueAt v b) × ((i : Option ℕ) × LoopRoundFrom V H (lossy_operations m) q base c body i v r)
    narrows_keeps zero first u x v r (same, is) a k all turned = (
      λ j b rounds. subst (λ (y : V). ValueAt y b) (sym same) (all j b rounds),
      (
        turned.0,
        subst (λ (y : V). LoopRoundFrom V H (lossy_operations m) q base c body turned.0 y r) (sym same)
            (subst (λ (y : PassResult V). LoopRoundFrom V H (lossy_operations m) q base c body turned.0 u y) (sym is) turned.1),
      ),
    )
    narrows_keeps (suc more) first u x v r (next, y, e, joined, turn, rest) a k all turned =
        narrows_keeps more first next y v r rest a k reached (noted q e x.flag, turn)
      where
        reached : (j : ℕ) (b : Trace A) → TrailRounds (Round name may q base c g) j a b → ValueAt next b
        reached zero b is t l = covered_has m laws first next joined.0.formed joined.0.left t.store (k t (subst (λ (z : Trace A). may z.state t) is l))
        reached (suc j) b (w, before, one) t l =
            covered_has m laws x.normal next joined.0.formed joined.0.right t.store (round_keeps turned.0 u x turned.1 w b (all j w before) one t l)

    closed_rounds : (h : H) → ((a b : Trace A) → HeadAt h a → Round name may q base c g a b → HeadAt h b) → (a : Trace A) → HeadAt h a
        → (k : ℕ) (b : Trace A) → TrailRounds (Round name may q base c g) k a b → HeadAt h b
    closed_rounds h closed a k zero b is = subst (λ (z : Trace A). HeadAt h z) (sym is) k
    closed_rounds h closed a k (suc j) b (w, before, one) = closed w b (closed_rounds h closed a k j w before) one

    top_owed : (top : V) (z : PassResult V) (out : V) (f : Option ℕ) (i : Moment) (a b : Trace A) → AtPoint name may q i → b ≡ a → ValueAt top a
        → Owes m may n (record z { entries = value q top ∷ z.entries; normal = out; flag = f }) i b.state
    top_owed top z out f (stop (by_jump k)) a b at same has = absurd at
    top_owed top z out f (stop (to_point p)) a b at same has = λ t l. (
      top,
      subst (λ (x : ℕ). Contains (value q top ∷ z.entries) (value x top)) (sym at) (contains_head (value q top) z.entries),
      has t (subst (λ (y : Trace A). may y.state t) same l),
    )
    top_owed top z out f (stop (to_failure p)) a b at same has = absurd at
    top_owed top z out f (after_write p x) a b at same has = absurd at

    -- the loop itself, from what others make of what comes there
    loop_covers : (f : Option ℕ) (v : V) (r : PassResult V) (rows : LinearSystem ConKind) (h : H) (later : List H) (u top out : V) (s t : PassResult V)
        (e : Exactness)
        → (lossy_operations m).started v rows h → AscendingIteration V H (lossy_operations m) q base c body set.widening set.delay f h later u s
        → DescendingIteration V H (lossy_operations m) q base c body set.narrow v u s top t → Filters (lossy_operations m) base c false top e out
        → r ≡ record t { normal = out; flag = noted q e t.flag }
        → (a : Trace A) → ValueAt v a → Good (iterate q base c g) a r
    loop_covers f v r rows h later u top out s t e started grown narrowed off is a k =
        let i = grows_keeps set.widening set.delay f h later u s grown in
        let begun : HeadAt i.0 a = λ w l. i.1 w.store (started.0.formed, started.0.stores w.store (k w l).1) in
        let all : (j : ℕ) (b : Trace A) → TrailRounds (Round name may q base c g) j a b → ValueAt u b =
        λ j b rounds w l. i.2 w.store (closed_rounds i.0 i.3 a begun j b rounds w l) in
        let k_top = narrows_keeps set.narrow v u s top t narrowed a k all i.4 in
        let (w, x, z, on, pass, turned) = k_top.1.1 in
        let last : (p b : Trace A) → ValueAt top p → VisitsAndTests name may q base c true p b → BodyCovers name may n m g b z =
        λ p b has tests. inside (noted q x k_top.1.0) w z pass b (tested true top x w on p b has tests) in
        subst (Good (iterate q base c g) a) (sym (is ∙ ap (λ (y : PassResult V). record y { normal = out; flag = noted q e t.flag }) turned)) (record {
          ends = λ b (j, p, rounds, tests). tested false top e out off p b (k_top.0 j p rounds) tests;
          finds = λ y b d. let (j, p, rounds, rest) = loop_happens name may q base c g a y b d in elim rest [
            | inl l ↦ top_owed top z out (noted q e t.flag) y p b l.0 l.1 (k_top.0 j p rounds)
            | inr l ↦ owed_behind_top m may n z (value q top) out (noted q e t.flag) y b.state ((last p l.0 (k_top.0 j p rounds) l.1).finds y b l.2)
          ];
        })

  -- others act at a body's end
  body_covers : (q : ℕ) (g : Node) →
      ((f : Option ℕ) (v : V) (r : PassResult V) → Passed (passed_tree among n g) f v r → (a : Trace A) → Has m v a.state.store → Good g a r)
      → (f : Option ℕ) (v : V) (r : PassResult V) → Passed (others_after among q (passed_tree among n g)) f v r → (a : Trace A) → Has m v a.state.store → BodyCovers name may n m g a r
  body_covers q g inside f v r pass a h =
      let (x, one, ends, owed) = leaves_tree among refl q (passed_tree among n g) f v r pass in
      let i = inside f v x one a h in
      record { ends = λ b goes t l. ends b.state t (i.ends b goes) l; finds = λ k b d. owed k b.state (i.finds k b d) }

  mutual
    pub covers_among : (g : Node) (f : Option ℕ) (v : V) (r : PassResult V) → Passed (passed_tree among n g) f v r → (a : Trace A) → Has m v a.state.store →
        Good g a r
    covers_among empty f v r is a h = subst (Good empty a) (sym is) (record {
      ends = λ b e. subst (λ (z : Trace A). Has m v z.state.store) (sym e) h;
      finds = quiet_empty a (goes_on [] v f);
    })
    covers_among (point q) f v r pass a h =
        let (x, y, has, two, is) = enters_tree among refl q (point q) f v r pass in
        subst (Good (point q) a) (sym (is ∙ ap (λ (z : PassResult V). in_turn x z z.normal z.flag) two)) (record {
          ends = λ b d. has a.state b.state h d.0;
          finds = λ i b d. owed_right m may n x (goes_on (value q x.normal ∷ []) x.normal x.flag) x.normal x.flag i b.state
              (point_owed q a x.normal x.flag (λ t l. has a.state t h l) i b d);
        })
    covers_among (probe q InterferencePoint) f v r pass a h =
        stays_there q InterferencePoint v a r (entering q f v r pass a.state a.state h (admits.nothing a.state))
    covers_among (probe q (RecordWrite place)) f v r is a h =
        stays_there q (RecordWrite place) v a r (subst (λ (z : PassResult V). Has m z.normal a.state.store) (sym is) h)
    covers_among (act q op) f v r pass a h = acted q op (written_variable op) refl f v r pass a h
    covers_among (check q base c) f v r (u, w, d, e, off, on, is) a h = subst (Good (check q base c) a) (sym is) (record {
      ends = λ b ran. changes_keep V H m laws (test base c true) v e w on a.state b.state h ran.0;
      finds = check_owed q base c a u w (noted q e (noted q d f)) (λ t ran. changes_keep V H m laws (test base c false) v d u off a.state t h ran);
    })
    covers_among (seq g k) f v r (x, y, one, two, is) a h =
        let i = covers_among g f v x one a h in
        let j : (b : Trace A) → RunsUpTo name may g a to_end b → Good k b y = λ b goes. covers_among k x.flag x.normal y two b (i.ends b goes) in
        subst (Good (seq g k) a) (sym is) (record {
          ends = λ b d. (j d.0 d.1).ends b d.2;
          finds = λ z b d. elim (seq_happens name may g k a z b d) [
            | inl l ↦ owed_left m may n x y y.normal y.flag z b.state (i.finds z b l)
            | inr l ↦ owed_right m may n x y y.normal y.flag z b.state ((j l.0 l.1).finds z b l.2)
          ];
        })
    covers_among (choose q base c g k) f v r (on, off, w, d, e, i, x, y, is_on, one, is_off, two, joined, is) a h =
        let j : (b : Trace A) → Performs (test base c true) a b → Good g b x =
        λ b ran. covers_among g (noted q d f) on x one b (changes_keep V H m laws (test base c true) v d on is_on a.state b.state h ran.0) in
        let l : (b : Trace A) → Performs (test base c false) a b → Good k b y =
        λ b ran. covers_among k (noted q e x.flag) off y two b (changes_keep V H m laws (test base c false) v e off is_off a.state b.state h ran.0) in
        subst (Good (choose q base c g k) a) (sym is) (record {
          ends = λ b p. elim p [
            | inl p ↦ covered_has m laws x.normal w joined.0.formed joined.0.left b.state.store ((j p.0 p.1).ends b p.2)
            | inr p ↦ covered_has m laws y.normal w joined.0.formed joined.0.right b.state.store ((l p.0 p.1).ends b p.2)
          ];
          finds = λ z b p. elim (choose_happens name may q base c g k a z b p) [
            | inl p ↦ owed_left m may n x y w (noted q i y.flag) z b.state ((j p.0 p.1).finds z b p.2)
            | inr p ↦ owed_right m may n x y w (noted q i y.flag) z b.state ((l p.0 p.1).finds z b p.2)
          ];
        })
    covers_among (iterate q base c g) f v r pass a h =
        let body = others_after among q (passed_tree among n g) in
        let (x, y, has, (head, later, u, top, out, s, t, e, started, grown, narrowed, off, same), is) = enters_tree among refl q (iterate q base c body) f v r pass in
        let i = loop_covers q base c g (Passed body) (body_covers q g (covers_among g)) x.flag x.normal y _ head later u top out s t e
        started grown narrowed off same a (λ b l. has a.state b h l) in
        subst (Good (iterate q base c g) a) (sym is)
        (record { ends = i.ends; finds = λ z b d. owed_right m may n x y y.normal y.flag z b.state (i.finds z b d) })
    covers_among (catch q k g) f v r (w, e, x, one, joined, is) a h =
        let i = covers_among g f v x one a h in
        let j = joined_caught V H m laws k x e w joined in
        subst (Good (catch q k g) a) (sym is) (record {
          ends = λ b d. subst (λ (y : V). Has m y b.state.store) (sym (behind_normal k x w (noted q e x.flag)))
              (elim d [ inl l ↦ j.0 b.state.store (i.ends b l) | inr l ↦ let o = i.finds (stop (by_jump k)) b l in j.1 o.0 o.1 b.state.store o.2 ]);
          finds = λ z b d. let p = caught_happens m may n name q k g a z b d in owed_past m may n k x w (noted q e x.flag) z b.state p.0 (i.finds z b p.1);
        })
    covers_among (leave live k) f v r (w, nothing, is) a h = subst (Good (leave live k) a) (sym is) (record {
      ends = λ b d. absurd d;
      finds = leave_owed live k a v w f h;
    })
    covers_among (select q base e arms) f v r (other, x, left, pass) a h =
        let labels = entries_of arms in
        let d = list_any (is_same_case Default) labels in
        let passed : ArmsPassUnder V H (lossy_operations m) admission set q base e d v other (passed_arms among n arms) (noted q x f) None r =
        subst (λ (ls : List CaseLabel). ArmsPassUnder V H (lossy_operations m) admission set q base e (list_any (is_same_case Default) ls) v other (passed_arms among n arms)
        (noted q x f) None r) (same_entries among n arms) pass in
        let unmatched : MatchesNone (lossy_operations m) base e labels v x other =
        subst (λ (ls : List CaseLabel). MatchesNone (lossy_operations m) base e ls v x other) (same_entries among n arms) left in
        let inside : (l : CaseLabel) (b : Trace A) → Finds base e arms a l b → ArmsCoverUnder name may n m l false arms b r =
        λ l b ((z, got, same, is), met). arms_cover q base e d v other arms (noted q x f) None r passed l false b tt
        (subst (λ (st : List ℤ). Waits V H m laws base e d v other l false labels st)
        (sym (ap (λ (y : State). y.store) same))
        (subst (λ (y : CaseLabel). Waits V H m laws base e d v other y false labels a.state.store) (sym is) (
          λ k y u enters alike.
              enters_has V H m laws base e a.state z b.state.draws got labels k v other x y u unmatched h enters alike,
          λ never. out_has V H m laws base e a.state z b.state.draws got labels v other x unmatched h never,
        ))) in
        record {
          ends = λ b d. (inside d.0 d.1 d.2).ends b d.3;
          finds = λ i b d. let p = select_happens name may q base e arms a i b d in (inside p.0 p.1 p.2).finds i b p.3;
        }

    arms_cover : (q base : ℕ) (e : Expr) (d : Bool) (v other : V) (arms : Arms) (f : Option ℕ) (running : Option V) (r : PassResult V)
        → ArmsPassUnder V H (lossy_operations m) admission set q base e d v other (passed_arms among n arms) f running r →
        (l : CaseLabel) (met : Bool) (a : Trace A)
        → Runs V H m laws met running a.state.store
        → Waits V H m laws base e d v other l met (entries_of arms) a.state.store
        → ArmsCoverUnder name may n m l met arms a r
    arms_cover q base e d v other no_arms f running r (w, x, out, is) l met a runs waits =
        subst (ArmsCoverUnder name may n m l met no_arms a) (sym is) (record {
          ends = λ b same. subst (λ (z : Trace A). Has m w z.state.store) (sym same) (comes_behind met running d runs waits out);
          finds = λ i b d. absurd (none_happens name may l met a i b d);
        })
      where
        comes_behind : (met : Bool) (to : Option V) (d : Bool) → Runs V H m laws met to a.state.store
            → Waits V H m laws base e d v other l met [] a.state.store
            → ComesOut (lossy_operations m) d to other x w → Has m w a.state.store
        comes_behind true None d runs waits out = absurd runs
        comes_behind true (Some u) d runs waits out =
            comes_running V H m laws d u other x w out a.state.store runs
        comes_behind false to d runs waits out =
            let (undefaulted, has) = waits.1 refl in
            comes_other V H m laws to other x w (subst (λ (b : Bool). ComesOut (lossy_operations m) b to other x w) undefaulted out)
            a.state.store has
    arms_cover q base e d v other (entry k arms) f running r (u, w, x, y, enters, joins, rest) l met a runs waits =
        let i = arms_cover q base e d v other arms (noted q y (noted q x f)) (Some w) r rest l (met || is_same_case l k) a
        (enters_running V H m laws base e d v other l k (entries_of arms) a.state.store met (is_same_case l k) running x y u w refl
        enters joins runs waits)
        (waits_on V H m laws base e d v other l k (entries_of arms) a.state.store met (is_same_case l k) refl waits) in
        record { ends = i.ends; finds = λ z b p. i.finds z b (entry_happens name may l k met arms a z b p) }
    arms_cover q base e d v other (arm g arms) f running r (w, x, y, from, one, rest, is) l false a runs waits =
        let i = arms_cover q base e d v other arms x.flag (Some x.normal) y rest l false a tt waits in
        subst (ArmsCoverUnder name may n m l false (arm g arms) a) (sym is) (record {
          ends = i.ends;
          finds = λ z b p. owed_right m may n x y y.normal y.flag z b.state (i.finds z b (missed_happens name may l g arms a z b p));
        })
    arms_cover q base e d v other (arm g arms) f None r pass l true a runs waits = absurd runs
    arms_cover q base e d v other (arm g arms) f (Some u) r (w, x, y, from, one, rest, is) l true a runs waits =
        let i = covers_among g f w x one a (subst (λ (z : V). Has m z a.state.store) (sym from) runs) in
        let j : (b : Trace A) → RunsUpTo name may g a to_end b → ArmsCoverUnder name may n m l true arms b y =
        λ b goes. arms_cover q base e d v other arms x.flag (Some x.normal) y rest l true b (i.ends b goes) tt in
        subst (ArmsCoverUnder name may n m l true (arm g arms) a) (sym is) (record {
          ends = λ b p. (j p.0 p.1).ends b p.2;
          finds = λ z b p. elim (arm_happens name may l g arms a z b p) [
            | inl k ↦ owed_left m may n x y y.normal y.flag z b.state (i.finds z b k)
            | inr k ↦ owed_right m may n x y y.normal y.flag z b.state ((j k.0 k.1).finds z b k.2)
          ];
        })

pub passes_cover : {V H : Type 0} (o : Interference V) (m : Abstraction V H) → Laws m → PassesCoverUnder o m
passes_cover {V} {H} o m laws set n g f v r pass a h =
    covers_among (λ (q : ℕ). q) (MayBecome o.rely) n true m laws (absorbed o m) (record {
      nothing = λ s. record { store = none s.store; waiting = refl; draws = refl };
      taken = λ v e w taken s t h l. (taken.0.formed, taken.0.stores s.store t.store h.1 l.store);
      alone = λ no s t l. absurd cc;
    }) set g f v r (subst (λ (x : Node). LossyPass o m set x f v r) (sym (passed_among n g)) pass) a h

alone_covers : {V H : Type 0} (m : Abstraction V H) → Laws m → (set : Plan) (g : Node) (f : Option ℕ) (v : V) (r : PassResult V) →
    Pass V H (lossy_operations m) set g f v r → (a : Trace ℕ) → Has m v a.state.store → CoversUnder (λ (q : ℕ). q) NoChange 0 m g a r
alone_covers {V} {H} m laws set g f v r pass a h =
    covers_among (λ (q : ℕ). q) NoChange 0 false m laws nothing_absorbed (record {
      nothing = λ s. refl;
      taken = λ v e w same s t h l. subst (λ (x : V). Has m x t.store) (sym same.0) (subst (λ (u : State). Has m v u.store) (sym l) h);
      alone = λ no s t l. l;
    }) set g f v r (subst (λ (x : Node). Pass V H (lossy_operations m) set x f v r) (sym (passed_alone g)) pass) a h

-- from one of its value's stores, a pass of a program that runs alone covers the tree's runs
pub pass_covers : {V H : Type 0} (m : Abstraction V H) → Laws m → (set : Plan) (g : Node) (f : Option ℕ) (v : V) (r : PassResult V) →
    Pass V H (lossy_operations m) set g f v r
    → (s : State) → Has m v s.store → Covers m g s r
pass_covers m laws set g f v r pass s h =
    let a : Trace ℕ = record { state = s; events = [] } in
    let covers = alone_covers m laws set g f v r pass a h in
    record {
      ends = λ t e. let x = trees.goes_on (λ (q : ℕ). q) g a t e in covers.ends (record { state = t; events = x.0 }) x.1;
      leaves = λ k t e. let x = trees.jumps_on (λ (q : ℕ). q) g k a t e in covers.finds (stop (by_jump k)) (record { state = t; events = x.0 }) x.1;
      comes = λ p t e. let x = trees.comes_on (λ (q : ℕ). q) g p a t e in covers.finds (stop (to_point p)) (record { state = t; events = x.0 }) x.1 t refl;
      fails = λ p e. let x = trees.fails_on (λ (q : ℕ). q) g p a e in covers.finds (stop (to_failure p)) x.0 x.1;
    }
