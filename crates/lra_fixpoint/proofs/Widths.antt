-- The value that an iteration has at a point has a dimension for each variable that lives there.
use Rattle.std.proofs.Common.{◌≡◌, ◌↔◌, ◌<◌, ℕ, zero, suc, ◌-◌, ◌++◌, List, [], ◌∷◌, length, Option, Some, None, Bool, true, false, inl, inr, sym, ap, ◌∙◌, subst}
use Rattle.std.specs.{List.AllByRecursion, List.Contains, Prelude.slice_get}
use Rattle.lra_fixpoint.proofs.Crates.lra_transfer.OperationWidths.{leaves_dims, changes_dims, value_dims, globals_dims}
use Rattle.lra_fixpoint.proofs.Crates.{lra_analysis_spec.Caps.all_both, lra_linear_spec.Membership.contains_none, lra_linear_spec.Membership.contains_cases}
use Rattle.lra_fixpoint.specs.Crates.lra_analysis_spec.Pass.{AreJoined, PassEntry, value, failing, recorded, PassResult, noted, jumps, first_of_call, values_behind, jumps_caught, Transformer}
use Rattle.lra_fixpoint.specs.Crates.lra_analysis_spec.Pass.{LoopRoundFrom, AscendingIteration, DescendingIteration, Absorption, nothing_absorbed, PassUnder, ArmsPassUnder, MatchesNone, Enters}
use Rattle.lra_fixpoint.specs.Crates.lra_analysis_spec.Pass.{JoinsRunning, ComesOut, RunsFrom}
use Rattle.lra_fixpoint.specs.Crates.lra_base.declared.case_labels.CaseLabel.TheVariants.{Case, Default}
use Rattle.lra_fixpoint.specs.Crates.{lra_analysis_spec.Analysis.LossyIteration, lra_analysis_spec.Analysis.IsSolution, lra_analysis_spec.Live.live_after_op, lra_analysis_spec.Live.live_after}
use Rattle.lra_fixpoint.specs.Crates.{lra_analysis_spec.Operations.lossy_operations, lra_analysis_spec.Plan.Plan, lra_analysis_spec.Plan.Widening, lra_analysis_spec.UnderInterference.absorbed}
use Rattle.lra_fixpoint.specs.Crates.{lra_base.declared.case_labels.CaseLabel.CaseLabel, lra_domain.Abstraction.Abstraction, lra_domain.Interference.Interference, lra_domain.Laws.Laws}
use Rattle.lra_fixpoint.specs.Crates.{lra_domain.declared.Exactness.Exactness, lra_program.Program.Expr, lra_program.Program.Cond, lra_program.Program.Program, lra_program.Sites.Site}
use Rattle.lra_operations.specs.Tree.{Exit, broken, continued, returned, Node, empty, probe, point, act, check, seq, choose, iterate, catch, leave, select, Arms, no_arms, entry, arm, entries_of}
use Rattle.lra_operations.specs.declared.probes.Probe.TheVariants.{InterferencePoint, RecordWrite}
use Rattle.lra_pass_stack.specs.Stack.{RunHas}
use Rattle.lra_fixpoint.specs.Lives.{LiveAt, ArmsHave, PointsHave, AreWide, NotesHave}

module _ (V H : Type 0) (m : Abstraction V H) where
  joined_dims : (v : V) (us : List V) (e : Exactness) (w : V) → AreJoined (lossy_operations m) v us e w → m.dims w ≡ m.dims v
  joined_dims v [] e w (same, exact) = ap (λ (x : V). m.dims x) same
  joined_dims v (u ∷ us) e w (x, c, d, one, rest, worst) = joined_dims x us d w rest ∙ one.2

  -- what joins has the dimensions of the whole
  last_joined : (v : V) (us : List V) (n : V) (e : Exactness) (w : V) → AreJoined (lossy_operations m) v (us ++ n ∷ []) e w → m.dims w ≡ m.dims n
  last_joined v [] n e w (x, c, d, one, (same, exact), worst) = ap (λ (y : V). m.dims y) same ∙ one.2 ∙ sym one.1
  last_joined v (u ∷ us) n e w (x, c, d, one, rest, worst) = last_joined x us n d w rest

  returned_dims : (rs : List V) (n : V) (e : Exactness) (w : V) → AreJoined (lossy_operations m) (first_of_call rs n).0 (first_of_call rs n).1 e w →
      m.dims w ≡ m.dims n
  returned_dims [] n e w is = joined_dims n [] e w is
  returned_dims (v ∷ vs) n e w is = last_joined v vs n e w is

  caught_dims : (k : Exit) (r : PassResult V) (e : Exactness) (w : V) → AreJoined (lossy_operations m) (values_behind k r).0 (values_behind k r).1 e w → m.dims w ≡ m.dims r.normal
  caught_dims broken r e w is = joined_dims r.normal r.breaks e w is
  caught_dims continued r e w is = joined_dims r.normal r.continues e w is
  caught_dims returned r e w is = returned_dims r.returns r.normal e w is

  -- a `switch`
  none_dims : (base : ℕ) (e : Expr) (labels : List CaseLabel) (v : V) (x : Exactness) (w : V) → MatchesNone (lossy_operations m) base e labels v x w
      → m.dims w ≡ m.dims v
  none_dims base e [] v x w (same, exact) = ap (λ (u : V). m.dims u) same
  none_dims base e (Case z ∷ labels) v x w (u, c, d, one, rest, worst) = none_dims base e labels u d w rest ∙ value_dims V H m base e z false v c u one
  none_dims base e (Default ∷ labels) v x w rest = none_dims base e labels v x w rest

  enters_dims : (base : ℕ) (e : Expr) (l : CaseLabel) (v other : V) (x : Exactness) (w : V) → Enters (lossy_operations m) base e l v other x w
      → m.dims other ≡ m.dims v → m.dims w ≡ m.dims v
  enters_dims base e (Case z) v other x w is wide = value_dims V H m base e z true v x w is
  enters_dims base e Default v other x w (same, exact) wide = ap (λ (u : V). m.dims u) same ∙ wide

  joins_dims : (o : Option V) (u : V) (x : Exactness) (w : V) (n : ℕ) → JoinsRunning (lossy_operations m) o u x w → RunHas m n o → m.dims u ≡ n → m.dims w ≡ n
  joins_dims None u x w n (same, exact) runs wide = ap (λ (y : V). m.dims y) same ∙ wide
  joins_dims (Some running) u x w n joined runs wide = joined.2 ∙ runs

  out_dims : (d : Bool) (o : Option V) (other : V) (x : Exactness) (w : V) (n : ℕ) → ComesOut (lossy_operations m) d o other x w → RunHas m n o →
      m.dims other ≡ n
      → m.dims w ≡ n
  out_dims true None other x w n (same, exact) runs wide = ap (λ (y : V). m.dims y) same ∙ wide
  out_dims false None other x w n (same, exact) runs wide = ap (λ (y : V). m.dims y) same ∙ wide
  out_dims true (Some running) other x w n (same, exact) runs wide = ap (λ (y : V). m.dims y) same ∙ runs
  out_dims false (Some running) other x w n joined runs wide = joined.2 ∙ runs

  from_dims : Laws m → (n cap : ℕ) (o : Option V) (w : V) → RunsFrom (lossy_operations m) n cap o w → RunHas m n o → m.dims w ≡ n
  from_dims laws n cap None w nothing runs = laws.bottom_dims n cap w nothing.0
  from_dims laws n cap (Some running) w same runs = ap (λ (y : V). m.dims y) same ∙ runs

  -- passes -----------------------------------------------------------------------------------------------------------

  module _ (T : List Site) where
    abbrev EntryHas : PassEntry V → Type 0
    EntryHas (value q v) = LiveAt T q (m.dims v)
    EntryHas (failing q v) = Unit {0}
    EntryHas (recorded q place v) = place < m.dims v

    -- the values at points have as many dimensions as variables live there, and the one that goes on has n
    pub record Wide (n : ℕ) (r : PassResult V) : Type 0 where
      pub normal : m.dims r.normal ≡ n
      pub entries : AllByRecursion EntryHas r.entries

    wide_is : (n : ℕ) (r s : PassResult V) → r ≡ s → Wide n s → Wide n r
    wide_is n r s is h = subst (λ (x : PassResult V). Wide n x) (sym is) h

    live_same : (q n k : ℕ) → k ≡ n → LiveAt T q n → LiveAt T q k
    live_same q n k e h = λ s there. e ∙ h s there

    behind_wide : (j : Exit) (r : PassResult V) (v : V) (f : Option ℕ) (n : ℕ) → m.dims v ≡ n → AllByRecursion EntryHas r.entries →
        Wide n (jumps_caught j r v f)
    behind_wide broken r v f n e h = record { normal = e; entries = h }
    behind_wide continued r v f n e h = record { normal = e; entries = h }
    behind_wide returned r v f n e h = record { normal = e; entries = h }

    jump_wide : (j : Exit) (v nothing : V) (f : Option ℕ) (n : ℕ) → m.dims nothing ≡ n → Wide n (jumps j v nothing f)
    jump_wide broken v nothing f n e = record { normal = e; entries = tt }
    jump_wide continued v nothing f n e = record { normal = e; entries = tt }
    jump_wide returned v nothing f n e = record { normal = e; entries = tt }

    -- of a loop at whose head n variables live
    module _ (q base : ℕ) (c : Cond) (body : Transformer V) (n : ℕ) (here : LiveAt T q n) (inside : (f : Option ℕ) (v : V) (r : PassResult V) → body f v r → m.dims v ≡ n → Wide n r) where
      round_wide : (f : Option ℕ) (v : V) (r : PassResult V) → LoopRoundFrom V H (lossy_operations m) q base c body f v r → m.dims v ≡ n → Wide n r
      round_wide f v r (w, e, s, on, turn, is) h =
          let x : Wide n s = inside (noted q e f) w s turn (leaves_dims V H m base c true v e w on ∙ h) in
          wide_is n r _ is (record { normal = x.normal; entries = (live_same q n (m.dims v) h here, x.entries) })

      -- the value and the result of the last round
      pub record Turned (v : V) (r : PassResult V) : Type 0 where
        pub top : m.dims v ≡ n
        pub result : Wide n r

      grows_wide : (widening : Widening) (left : ℕ) (f : Option ℕ) (h : H) (later : List H) (v : V) (r : PassResult V) →
          AscendingIteration V H (lossy_operations m) q base c body widening left f h later v r → m.head_dims h ≡ n →
          Turned v r
      grows_wide widening left f h [] v r ((e, valued, turn), stays) k =
          let top : m.dims v ≡ n = valued.1 ∙ k in
          record { top = top; result = round_wide (noted q e f) v r turn top }
      grows_wide widening left f h (next ∷ later) v r (u, s, e, turn, grown, rest) k = grows_wide widening (left - 1) (noted q e s.flag) next later v r rest (grown.2 ∙ k)

      narrows_wide : (more : ℕ) (first u : V) (s : PassResult V) (v : V) (r : PassResult V) → DescendingIteration V H (lossy_operations m) q base c body more first u s v r → m.dims first ≡ n →
          Turned u s → Turned v r
      narrows_wide zero first u s v r (same, is) k x = record { top = ap (λ (y : V). m.dims y) same ∙ x.top; result = wide_is n r s is x.result }
      narrows_wide (suc more) first u s v r (next, t, e, joined, turn, rest) k x =
          let top : m.dims next ≡ n = joined.2 ∙ k in
          narrows_wide more first next t v r rest k (record { top = top; result = round_wide (noted q e s.flag) next t turn top })

    module _ (admission : Absorption V) (keeps : (v : V) (e : Exactness) (w : V) → admission v e w → m.dims w ≡ m.dims v) (laws : Laws m) (set : Plan) where
      mutual
        pass_wide : (g : Node) (f : Option ℕ) (v : V) (r : PassResult V) (n : ℕ) → PassUnder V H (lossy_operations m) admission set g f v r
            → m.dims v ≡ n → PointsHave T g n → Wide (live_after g n) r
        pass_wide empty f v r n is h p = wide_is n r _ is (record { normal = h; entries = tt })
        pass_wide (probe here InterferencePoint) f v r n (w, e, admits, is) h p = wide_is n r _ is
            (record { normal = keeps v e w admits ∙ h; entries = tt })
        pass_wide (probe here (RecordWrite place)) f v r n is h p = wide_is n r _ is
            (record { normal = h; entries = (subst (λ (k : ℕ). place < k) (sym h) p, tt) })
        pass_wide (point q) f v r n is h p = wide_is n r _ is (record { normal = h; entries = (live_same q n (m.dims v) h p, tt) })
        pass_wide (act q op) f v r n (w, e, done, is) h p = wide_is (live_after_op op n) r _ is
            (record { normal = changes_dims V H m op v e w done ∙ ap (live_after_op op) h; entries = tt })
        pass_wide (check q base c) f v r n (u, w, d, e, off, on, is) h p = wide_is n r _ is
            (record { normal = leaves_dims V H m base c true v e w on ∙ h; entries = (tt, tt) })
        pass_wide (seq a b) f v r n (s, t, one, two, is) h p =
            let x = pass_wide a f v s n one h p.0 in
            let y = pass_wide b s.flag s.normal t (live_after a n) two x.normal p.1 in
            wide_is (live_after b (live_after a n)) r _ is (record { normal = y.normal; entries = all_both EntryHas s.entries t.entries x.entries y.entries })
        pass_wide (choose q base c a b) f v r n (on, off, w, d, e, i, s, t, is_on, one, is_off, two, joined, is) h p =
            let x = pass_wide a (noted q d f) on s n one (leaves_dims V H m base c true v d on is_on ∙ h) p.0 in
            let y = pass_wide b (noted q e s.flag) off t n two (leaves_dims V H m base c false v e off is_off ∙ h) p.1 in
            wide_is (live_after a n) r _ is (record { normal = joined.2 ∙ x.normal; entries = all_both EntryHas s.entries t.entries x.entries y.entries })
        pass_wide (iterate q base c a) f v r n (k, later, u, top, out, s, t, e, started, grown, narrowed, off, is) h p =
            let inside : (f' : Option ℕ) (v' : V) (r' : PassResult V) → PassUnder V H (lossy_operations m) admission set a f' v' r' → m.dims v' ≡ n →
            Wide n r' =
            λ f' v' r' turn d. subst (λ (j : ℕ). Wide j r') p.2 (pass_wide a f' v' r' n turn d p.1) in
            let x = grows_wide q base c (PassUnder V H (lossy_operations m) admission set a) n p.0 inside set.widening set.delay f k later u s grown
            (started.1 ∙ h) in
            let y = narrows_wide q base c (PassUnder V H (lossy_operations m) admission set a) n p.0 inside set.narrow v u s top t narrowed h x in
            wide_is n r _ is (record { normal = leaves_dims V H m base c false top e out off ∙ y.top; entries = y.result.entries })
        pass_wide (catch q k a) f v r n (w, e, s, one, joined, is) h p =
            let x = pass_wide a f v s n one h p in
            wide_is (live_after a n) r _ is (behind_wide k s w (noted q e s.flag) (live_after a n) (caught_dims k s e w joined ∙ x.normal) x.entries)
        pass_wide (leave l k) f v r n (w, nothing, is) h p = wide_is l r _ is (jump_wide k v w f l (laws.bottom_dims l set.parts w nothing.0))
        pass_wide (select q base e arms) f v r n (other, x, none, pass) h p =
            arms_wide q base e _ v other arms (noted q x f) None r n pass h (none_dims base e (entries_of arms) v x other none ∙ h) tt p

        arms_wide : (q base : ℕ) (e : Expr) (d : Bool) (v other : V) (arms : Arms) (f : Option ℕ) (o : Option V) (r : PassResult V) (n : ℕ)
            → ArmsPassUnder V H (lossy_operations m) admission set q base e d v other arms f o r
            → m.dims v ≡ n → m.dims other ≡ n → RunHas m n o → ArmsHave T arms n → Wide n r
        arms_wide q base e d v other no_arms f o r n (w, x, out, is) h k runs p = wide_is n r _ is
            (record { normal = out_dims d o other x w n out runs k; entries = tt })
        arms_wide q base e d v other (entry l arms) f o r n (u, w, x, y, enters, joins, rest) h k runs p =
            arms_wide q base e d v other arms (noted q y (noted q x f)) (Some w) r n rest h k
            (joins_dims o u y w n joins runs (enters_dims base e l v other x u enters (k ∙ sym h) ∙ h)) p
        arms_wide q base e d v other (arm a arms) f o r n (w, s, t, from, one, rest, is) h k runs p =
            let wide = from_dims laws n set.parts o w (subst (λ (i : ℕ). RunsFrom (lossy_operations m) i set.parts o w) h from) runs in
            let x : Wide n s = subst (λ (i : ℕ). Wide i s) p.1 (pass_wide a f w s n one wide p.0) in
            let y = arms_wide q base e d v other arms s.flag (Some s.normal) t n rest h k x.normal p.2 in
            wide_is n r _ is (record { normal = y.normal; entries = all_both EntryHas s.entries t.entries x.entries y.entries })

    entry_has : (xs : List (PassEntry V)) (x : PassEntry V) → AllByRecursion EntryHas xs → Contains xs x → EntryHas x
    entry_has [] x h there = absurd (contains_none x there)
    entry_has (y ∷ xs) x h there = elim (contains_cases y x xs there) [ inl same ↦ subst EntryHas same h.0 | inr later ↦ entry_has xs x h.1 later ]

-- each value that an iteration has at a point has as many dimensions as variables live there
pub values_wide : {V H : Type 0} (m : Abstraction V H) → Laws m → (T : List Site) (plan : Plan) (P : Program) (g : Node) (r : PassResult V) → PointsHave T g (length P.globals) →
    LossyIteration m plan P g r
    → (q : ℕ) (v : V) (s : Site) → Contains r.entries (value q v) → slice_get T q ≡ Some s → m.dims v ≡ s.live
values_wide {V} {H} m laws T plan P g r lives (none, first, e, universal, begun, pass) q v s found there =
    let n = length P.globals in
    let begins : m.dims first ≡ n = globals_dims V H m P.globals none e first begun (laws.top_dims 0 plan.parts none universal.0) in
    let wide = pass_wide V H m T nothing_absorbed (λ u c w same. ap (λ (y : V). m.dims y) same.0) laws plan g (noted 0 e None) first r n pass begins lives in
    entry_has V H m T r.entries (value q v) wide.entries found s there

module _ {V H : Type 0} (o : Interference V) (m : Abstraction V H) (laws : Laws m) (T : List Site) (plan : Plan)
    (g : Node) (f : Option ℕ) (first : V) (r : PassResult V) (n : ℕ)
    (pass : PassUnder V H (lossy_operations m) (absorbed o m) plan g f first r) (begins : m.dims first ≡ n) (lives : PointsHave T g n) where
  found_have : AllByRecursion (EntryHas V H m T) r.entries
  found_have = (pass_wide V H m T (absorbed o m) (λ u c w admits. admits.1) laws plan g f first r n pass begins lives).entries

  -- so have the values that are found
  pub found_wide : (values : List V) (verdicts : List (ℕ × Bool)) (flagged : Option ℕ) → IsSolution m r values verdicts flagged → AreWide m T values
  found_wide values verdicts flagged solves q v there = entry_has V H m T r.entries (value q v) found_have ((solves.is_value q v).0 there)

  -- and the value of each note has one for its variable
  pub notes_wide : (notes : List (ℕ × ℕ × V)) → ((q place : ℕ) (v : V) → Contains notes (q, place, v) ↔ Contains r.entries (recorded q place v))
      → NotesHave m notes
  notes_wide notes noted_so q place v there = entry_has V H m T r.entries (recorded q place v) found_have ((noted_so q place v).0 there)
