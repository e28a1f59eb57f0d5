-- What each operation of an iteration keeps, all its values have; so none has more parts than the options say.
use Rattle.std.proofs.Common.{◌≡◌, ℕ, zero, suc, ℤ, ◌-◌, ◌≤◌, ◌++◌, List, [], ◌∷◌, length, Option, None, Some, Bool, true, false, inl, inr, refl, sym, subst}
use Rattle.std.proofs.lemmas.Option.{slice_get_read}
use Rattle.std.specs.List.{AllByRecursion, Contains}
use Rattle.lra_analysis_spec.proofs.Crates.lra_linear_spec.Membership.{contains_none, contains_cases}
use Rattle.lra_analysis_spec.specs.Crates.lra_base.declared.case_labels.CaseLabel.TheVariants.{Case, Default}
use Rattle.lra_analysis_spec.specs.Crates.lra_program.Program.{Expr, Cond, Program}
use Rattle.lra_analysis_spec.specs.Crates.{lra_base.declared.case_labels.CaseLabel.CaseLabel, lra_linear_spec.declared.ConKind.ConKind, lra_systems.LinearSystems.LinearSystem}
use Rattle.lra_domain.specs.Moves.{Moves, stay, make, first_then, join_of}
use Rattle.lra_domain.specs.{Abstraction.Abstraction, Actions.Action, Interference.Interference, Laws.Laws, declared.Exactness.Exactness, declared.Mode.Mode}
use Rattle.lra_operations.specs.Tree.{Exit, broken, continued, returned, Node, empty, point, probe, act, check, seq, choose, iterate, catch, leave, select, Arms, no_arms, entry, arm, entries_of}
use Rattle.lra_operations.specs.declared.probes.Probe.TheVariants.{InterferencePoint, RecordWrite}
use Rattle.lra_analysis_spec.specs.Pass.{PassEntry, value, failing, recorded, PassResult, noted, goes_on, jumps, in_turn, first_of_call, values_behind, jumps_caught, AreJoined, Filters, Transformer}
use Rattle.lra_analysis_spec.specs.Pass.{LoopRoundFrom, AscendingIteration, DescendingIteration, Absorption, nothing_absorbed, PassUnder, ArmsPassUnder, Pass, ValueIs, MatchesNone, Enters}
use Rattle.lra_analysis_spec.specs.Pass.{JoinsRunning, ComesOut, RunsFrom}
use Rattle.lra_analysis_spec.specs.{Analysis.LossyIteration, Analysis.IsSolution, Moves.AreMade, MovesOf.guard, MovesOf.value_moves, MovesOf.moves_of, MovesOf.first_values, Operations.Operations}
use Rattle.lra_analysis_spec.specs.{Operations.lossy_operations, Plan.Plan, Plan.Widening, UnderInterference.absorbed, UnderInterference.IterationUnder, UnderInterference.LossyIterationUnder}

-- what has no operand has the property, and each operation keeps it, if this many parts are asked for
pub record Preserves {V H : Type 0} (ops : Operations V H) (parts : ℕ) (Good : V → Type 0) (Fine : H → Type 0) : Type 0 where
  pub void : (n : ℕ) (v : V) → ops.bottom n parts v → Good v
  pub changed : (step : Action) (v : V) (e : Exactness) (w : V) → ops.changed step v e w → Good v → Good w
  pub joined : (u v : V) (e : Exactness) (w : V) → ops.joined u v e w → Good u → Good v → Good w
  pub started : (v : V) (rows : LinearSystem ConKind) (h : H) → ops.started v rows h → Good v → Fine h
  pub grown : (h : H) (v : V) (mode : Mode) (e : Exactness) (next : H) → ops.grown h v mode e next → Fine h → Good v → Fine next
  pub valued : (h : H) (e : Exactness) (v : V) → ops.valued h e v → Fine h → Good v

pub all_both : {X : Type 0} (P : X → Type 0) (xs ys : List X) → AllByRecursion P xs → AllByRecursion P ys → AllByRecursion P (xs ++ ys)
all_both P [] ys h i = i
all_both P (x ∷ xs) ys h i = (h.0, all_both P xs ys h.1 i)

module _ (V H : Type 0) (ops : Operations V H) (set : Plan) (Good : V → Type 0) (Fine : H → Type 0) (keeps : Preserves ops set.parts Good Fine) where
  made_good : (p : Moves) (v : V) (e : Exactness) (w : V) → AreMade ops p v e w → Good v → Good w
  made_good stay v e w (same, exact) g = subst Good (sym same) g
  made_good (make step) v e w is g = keeps.changed step v e w is g
  made_good (first_then p q) v e w (x, c, d, one, two, worst) g = made_good q x d w two (made_good p v c x one g)
  made_good (join_of p q) v e w (x, y, c, d, i, one, two, joined, worst) g = keeps.joined x y i w joined (made_good p v c x one g) (made_good q v d y two g)

  leaves_good : (base : ℕ) (c : Cond) (wanted : Bool) (v : V) (e : Exactness) (w : V) → Filters ops base c wanted v e w → Good v → Good w
  leaves_good base c wanted v e w is g = made_good (guard (ops.dims v) base wanted c) v e w is g

  -- joins
  joined_good : (v : V) (us : List V) (e : Exactness) (w : V) → AreJoined ops v us e w → Good v → AllByRecursion Good us → Good w
  joined_good v [] e w (same, exact) g gs = subst Good (sym same) g
  joined_good v (u ∷ us) e w (x, c, d, one, rest, worst) g gs = joined_good x us d w rest (keeps.joined v u c x one g gs.0) gs.1

  returned_good : (rs : List V) (n : V) (e : Exactness) (w : V) → AreJoined ops (first_of_call rs n).0 (first_of_call rs n).1 e w → Good n → AllByRecursion Good rs → Good w
  returned_good [] n e w is g gs = joined_good n [] e w is g tt
  returned_good (v ∷ vs) n e w is g gs = joined_good v (vs ++ n ∷ []) e w is gs.0 (all_both Good vs (n ∷ []) gs.1 (g, tt))

  -- passes
  abbrev IsGood : PassEntry V → Type 0
  IsGood (value q v) = Good v
  IsGood (failing q v) = Good v
  IsGood (recorded q x v) = Good v

  pub record AreGood (r : PassResult V) : Type 0 where
    pub normal : Good r.normal
    pub breaks : AllByRecursion Good r.breaks
    pub continues : AllByRecursion Good r.continues
    pub returns : AllByRecursion Good r.returns
    pub entries : AllByRecursion IsGood r.entries

  same_good : (r s : PassResult V) → r ≡ s → AreGood s → AreGood r
  same_good r s is h = subst AreGood (sym is) h

  on_good : (xs : List (PassEntry V)) (v : V) (f : Option ℕ) → AllByRecursion IsGood xs → Good v → AreGood (goes_on xs v f)
  on_good xs v f h g = record { normal = g; breaks = tt; continues = tt; returns = tt; entries = h }

  both_good : (s t : PassResult V) (v : V) (f : Option ℕ) → AreGood s → AreGood t → Good v → AreGood (in_turn s t v f)
  both_good s t v f h i g = record {
    normal = g;
    breaks = all_both Good s.breaks t.breaks h.breaks i.breaks;
    continues = all_both Good s.continues t.continues h.continues i.continues;
    returns = all_both Good s.returns t.returns h.returns i.returns;
    entries = all_both IsGood s.entries t.entries h.entries i.entries;
  }

  jump_good : (k : Exit) (v nothing : V) (f : Option ℕ) → Good v → Good nothing → AreGood (jumps k v nothing f)
  jump_good broken v nothing f g n = record { normal = n; breaks = (g, tt); continues = tt; returns = tt; entries = tt }
  jump_good continued v nothing f g n = record { normal = n; breaks = tt; continues = (g, tt); returns = tt; entries = tt }
  jump_good returned v nothing f g n = record { normal = n; breaks = tt; continues = tt; returns = (g, tt); entries = tt }

  caught_good : (k : Exit) (r : PassResult V) (e : Exactness) (w : V) → AreJoined ops (values_behind k r).0 (values_behind k r).1 e w → AreGood r → Good w
  caught_good broken r e w is h = joined_good r.normal r.breaks e w is h.normal h.breaks
  caught_good continued r e w is h = joined_good r.normal r.continues e w is h.normal h.continues
  caught_good returned r e w is h = returned_good r.returns r.normal e w is h.normal h.returns

  behind_good : (k : Exit) (r : PassResult V) (v : V) (f : Option ℕ) → AreGood r → Good v → AreGood (jumps_caught k r v f)
  behind_good broken r v f h g = record { normal = g; breaks = tt; continues = h.continues; returns = h.returns; entries = h.entries }
  behind_good continued r v f h g = record { normal = g; breaks = h.breaks; continues = tt; returns = h.returns; entries = h.entries }
  behind_good returned r v f h g = record { normal = g; breaks = h.breaks; continues = h.continues; returns = tt; entries = h.entries }

  module _ (q base : ℕ) (c : Cond) (body : Transformer V) (inside : (f : Option ℕ) (v : V) (r : PassResult V) → body f v r → Good v → AreGood r) where
    round_good : (f : Option ℕ) (v : V) (r : PassResult V) → LoopRoundFrom V H ops q base c body f v r → Good v → AreGood r
    round_good f v r (w, e, s, on, turn, is) g =
        let h = inside (noted q e f) w s turn (leaves_good base c true v e w on g) in
        same_good r _ is (record { normal = h.normal; breaks = h.breaks; continues = h.continues; returns = h.returns; entries = (g, h.entries) })

    grows_good : (widening : Widening) (left : ℕ) (f : Option ℕ) (h : H) (later : List H) (v : V) (r : PassResult V) → AscendingIteration V H ops q base c body widening left f h later v r → Fine h →
        Good v × AreGood r
    grows_good widening left f h [] v r ((e, valued, turn), stays) fine =
        let g = keeps.valued h e v valued fine in
        (g, round_good (noted q e f) v r turn g)
    grows_good widening left f h (next ∷ later) v r (u, s, e, (d, valued, turn), grown, rest) fine =
        let inner = round_good (noted q d f) u s turn (keeps.valued h d u valued fine) in
        grows_good widening (left - 1) (noted q e s.flag) next later v r rest (keeps.grown h s.normal _ e next grown fine inner.normal)

    narrows_good : (more : ℕ) (first u : V) (s : PassResult V) (v : V) (r : PassResult V) → DescendingIteration V H ops q base c body more first u s v r → Good first → Good u → AreGood s →
        Good v × AreGood r
    narrows_good zero first u s v r (same, is) g k h = (subst Good (sym same) k, same_good r s is h)
    narrows_good (suc more) first u s v r (next, t, e, joined, turn, rest) g k h =
        let top = keeps.joined first s.normal e next joined g h.normal in
        narrows_good more first next t v r rest g top (round_good (noted q e s.flag) next t turn top)

  looked_for_good : (base : ℕ) (e : Expr) (z : ℤ) (wanted : Bool) (v : V) (x : Exactness) (w : V) → ValueIs ops base e z wanted v x w → Good v → Good w
  looked_for_good base e z wanted v x w is g = made_good (value_moves (ops.dims v) base wanted e z) v x w is g

  matches_good : (base : ℕ) (e : Expr) (labels : List CaseLabel) (v : V) (x : Exactness) (w : V) → MatchesNone ops base e labels v x w → Good v → Good w
  matches_good base e [] v x w (same, exact) g = subst Good (sym same) g
  matches_good base e (Case z ∷ labels) v x w (u, c, d, one, rest, worst) g = matches_good base e labels u d w rest (looked_for_good base e z false v c u one g)
  matches_good base e (Default ∷ labels) v x w rest g = matches_good base e labels v x w rest g

  enters_good : (base : ℕ) (e : Expr) (l : CaseLabel) (v other : V) (x : Exactness) (w : V) → Enters ops base e l v other x w → Good v → Good other → Good w
  enters_good base e (Case z) v other x w is g h = looked_for_good base e z true v x w is g
  enters_good base e Default v other x w (same, exact) g h = subst Good (sym same) h

  -- if something runs, it is good
  abbrev RunsGood : Option V → Type 0
  RunsGood None = Unit {0}
  RunsGood (Some u) = Good u

  joins_good : (o : Option V) (u : V) (x : Exactness) (w : V) → JoinsRunning ops o u x w → RunsGood o → Good u → Good w
  joins_good None u x w (same, exact) h g = subst Good (sym same) g
  joins_good (Some running) u x w joined h g = keeps.joined running u x w joined h g

  out_good : (d : Bool) (o : Option V) (other : V) (x : Exactness) (w : V) → ComesOut ops d o other x w → RunsGood o → Good other → Good w
  out_good d None other x w (same, exact) h g = subst Good (sym same) g
  out_good true (Some running) other x w (same, exact) h g = subst Good (sym same) h
  out_good false (Some running) other x w joined h g = keeps.joined running other x w joined h g

  from_good : (live : ℕ) (o : Option V) (w : V) → RunsFrom ops live set.parts o w → RunsGood o → Good w
  from_good live None w nothing h = keeps.void live w nothing
  from_good live (Some running) w same h = subst Good (sym same) h

  -- if others act, what comes after has the property, too
  module _ (admission : Absorption V) (admits : (v : V) (e : Exactness) (w : V) → admission v e w → Good v → Good w) where
    mutual
      pub pass_good_among : (tree : Node) (f : Option ℕ) (v : V) (r : PassResult V) → PassUnder V H ops admission set tree f v r → Good v → AreGood r
      pass_good_among empty f v r is g = same_good r _ is (on_good [] v f tt g)
      pass_good_among (point q) f v r is g = same_good r _ is (on_good (value q v ∷ []) v f (g, tt) g)
      pass_good_among (probe q InterferencePoint) f v r (w, e, admitted, is) g = same_good r _ is (on_good [] w (noted q e f) tt (admits v e w admitted g))
      pass_good_among (probe q (RecordWrite place)) f v r is g = same_good r _ is (on_good (recorded q place v ∷ []) v f (g, tt) g)
      pass_good_among (act q op) f v r (w, e, done, is) g = same_good r _ is (on_good [] w (noted q e f) tt (made_good (moves_of (ops.dims v) op) v e w done g))
      pass_good_among (check q base c) f v r (u, w, d, e, off, on, is) g =
          same_good r _ is (on_good (failing q u ∷ []) w (noted q e (noted q d f)) (leaves_good base c false v d u off g, tt)
          (leaves_good base c true v e w on g))
      pass_good_among (seq a b) f v r (s, t, one, two, is) g =
          let x = pass_good_among a f v s one g in
          let y = pass_good_among b s.flag s.normal t two x.normal in
          same_good r _ is (both_good s t t.normal t.flag x y y.normal)
      pass_good_among (choose q base c a b) f v r (on, off, w, d, e, i, s, t, holds, one, fails, two, joined, is) g =
          let x = pass_good_among a (noted q d f) on s one (leaves_good base c true v d on holds g) in
          let y = pass_good_among b (noted q e s.flag) off t two (leaves_good base c false v e off fails g) in
          same_good r _ is (both_good s t w (noted q i t.flag) x y (keeps.joined s.normal t.normal i w joined x.normal y.normal))
      pass_good_among (iterate q base c a) f v r (h, later, u, top, out, s, t, e, started, grown, narrowed, off, is) g =
          let x = grows_good q base c (PassUnder V H ops admission set a) (pass_good_among a) set.widening set.delay f h later u s grown (keeps.started v _ h started g) in
          let y = narrows_good q base c (PassUnder V H ops admission set a) (pass_good_among a) set.narrow v u s top t narrowed g x.0 x.1 in
          let z = y.1 in
          same_good r _ is (record {
            normal = leaves_good base c false top e out off y.0;
            breaks = z.breaks;
            continues = z.continues;
            returns = z.returns;
            entries = z.entries;
          })
      pass_good_among (catch q k a) f v r (w, e, s, one, joined, is) g =
          let x = pass_good_among a f v s one g in
          same_good r _ is (behind_good k s w (noted q e s.flag) x (caught_good k s e w joined x))
      pass_good_among (leave n k) f v r (w, nothing, is) g = same_good r _ is (jump_good k v w f g (keeps.void n w nothing))
      pass_good_among (select q base e arms) f v r (other, x, none, pass) g =
          arms_good_among q base e _ v other arms (noted q x f) None r pass g (matches_good base e (entries_of arms) v x other none g) tt

      arms_good_among : (q base : ℕ) (e : Expr) (d : Bool) (v other : V) (arms : Arms) (f : Option ℕ) (o : Option V) (r : PassResult V)
          → ArmsPassUnder V H ops admission set q base e d v other arms f o r
          → Good v → Good other → RunsGood o → AreGood r
      arms_good_among q base e d v other no_arms f o r (w, x, out, is) g h k = same_good r _ is (on_good [] w (noted q x f) tt (out_good d o other x w out k h))
      arms_good_among q base e d v other (entry l arms) f o r (u, w, x, y, enters, joins, rest) g h k =
          arms_good_among q base e d v other arms (noted q y (noted q x f)) (Some w) r rest g h
          (joins_good o u y w joins k (enters_good base e l v other x u enters g h))
      arms_good_among q base e d v other (arm a arms) f o r (w, s, t, from, one, rest, is) g h k =
          let x = pass_good_among a f w s one (from_good (ops.dims v) o w from k) in
          let y = arms_good_among q base e d v other arms s.flag (Some s.normal) t rest g h x.normal in
          same_good r _ is (both_good s t t.normal t.flag x y y.normal)

  pub pass_good : (tree : Node) (f : Option ℕ) (v : V) (r : PassResult V) → Pass V H ops set tree f v r → Good v → AreGood r
  pass_good = pass_good_among nothing_absorbed (λ v e w is g. subst Good (sym is.0) g)

  value_good : (xs : List (PassEntry V)) (q : ℕ) (v : V) → AllByRecursion IsGood xs → Contains xs (value q v) → Good v
  value_good [] q v h there = absurd (contains_none (value q v) there)
  value_good (x ∷ xs) q v h there = elim (contains_cases x (value q v) xs there) [ inl same ↦ subst IsGood same h.0 | inr later ↦ value_good xs q v h.1 later ]

  given_good : (xs : List (PassEntry V)) (q place : ℕ) (v : V) → AllByRecursion IsGood xs → Contains xs (recorded q place v) → Good v
  given_good [] q place v h there = absurd (contains_none (recorded q place v) there)
  given_good (x ∷ xs) q place v h there = elim (contains_cases x (recorded q place v) xs there) [ inl same ↦ subst IsGood same h.0 | inr later ↦ given_good xs q place v h.1 later ]

module _ {V H : Type 0} (m : Abstraction V H) (laws : Laws m) (set : Plan) (some : 1 ≤ set.parts) where
  caps_kept : Preserves (lossy_operations m) set.parts (λ v. m.capped v set.parts) (λ h. m.head_capped h set.parts)
  caps_kept = record {
    void = λ n v is. laws.bottom_capped n set.parts v some is.0;
    changed = λ step v e w h g. h.2 set.parts g;
    joined = λ u v e w h g k. h.3 set.parts (g, k);
    started = λ v rows h is g. is.2 set.parts g;
    grown = λ h v mode e next is f g. is.3 set.parts (f, g);
    valued = λ h e v is f. is.2 set.parts f;
  }

  -- the values that an iteration finds have the cap that the options say
  capped_entries : (admission : Absorption V) → ((v : V) (e : Exactness) (w : V) → admission v e w → m.capped v set.parts → m.capped w set.parts)
      → (P : Program) (tree : Node) (r : PassResult V) → IterationUnder (lossy_operations m) admission set P tree r
      → AllByRecursion (IsGood V H (lossy_operations m) set (λ x. m.capped x set.parts) (λ h. m.head_capped h set.parts) caps_kept) r.entries
  capped_entries admission admits P tree r (whole, first, e, universal, begun, pass) =
      let begins = made_good V H (lossy_operations m) set (λ x. m.capped x set.parts) (λ h. m.head_capped h set.parts) caps_kept (first_values 0 P.globals) whole e first begun
      (laws.top_capped 0 set.parts whole some universal.0) in
      (pass_good_among V H (lossy_operations m) set (λ x. m.capped x set.parts) (λ h. m.head_capped h set.parts) caps_kept admission admits tree (noted 0 e None) first r pass begins).entries

  capped_values : (r : PassResult V) (values : List V) (verdicts : List (ℕ × Bool)) (flagged : Option ℕ) → IsSolution m r values verdicts flagged
      → AllByRecursion (IsGood V H (lossy_operations m) set (λ x. m.capped x set.parts) (λ h. m.head_capped h set.parts) caps_kept) r.entries
      → (v : V) → Contains values v → m.capped v set.parts
  capped_values r values verdicts flagged solves all v there =
      value_good V H (lossy_operations m) set (λ x. m.capped x set.parts) (λ h. m.head_capped h set.parts) caps_kept r.entries there.0 v all
      ((solves.is_value there.0 v).0 (slice_get_read values (length values) there.0 v refl there.1 (sym there.2)))

  pub solved_capped : (P : Program) (tree : Node) (r : PassResult V) (values : List V) (verdicts : List (ℕ × Bool)) (flagged : Option ℕ) → LossyIteration m set P tree r →
      IsSolution m r values verdicts flagged
      → (v : V) → Contains values v → m.capped v set.parts
  solved_capped P tree r values verdicts flagged derived solves =
      capped_values r values verdicts flagged solves (capped_entries nothing_absorbed (λ v e w is g. subst (λ (x : V). m.capped x set.parts) (sym is.0) g) P tree r derived)

  -- among others, too, and so have those that are noted
  pub solved_capped_among : (o : Interference V) (P : Program) (tree : Node) (r : PassResult V) (values : List V) (verdicts : List (ℕ × Bool))
      (flagged : Option ℕ)
      → LossyIterationUnder o m set P tree r → IsSolution m r values verdicts flagged → (v : V) → Contains values v → m.capped v set.parts
  solved_capped_among o P tree r values verdicts flagged derived solves =
      capped_values r values verdicts flagged solves (capped_entries (absorbed o m) (λ v e w is g. is.2 set.parts g) P tree r derived)

  pub noted_capped : (o : Interference V) (P : Program) (tree : Node) (r : PassResult V) → LossyIterationUnder o m set P tree r
      → (q place : ℕ) (v : V) → Contains r.entries (recorded q place v) → m.capped v set.parts
  noted_capped o P tree r derived q place v there =
      given_good V H (lossy_operations m) set (λ x. m.capped x set.parts) (λ h. m.head_capped h set.parts) caps_kept r.entries q place v
      (capped_entries (absorbed o m) (λ v e w is g. is.2 set.parts g) P tree r derived) there

-- what a domain's operations give is held
module _ {V H : Type 0} (m : Abstraction V H) (set : Plan) where
  held_kept : Preserves (lossy_operations m) set.parts m.well_formed m.head_well_formed
  held_kept = record {
    void = λ n v is. is.1;
    changed = λ step v e w is fine. is.0.formed;
    joined = λ u v e w is fine too. is.0.formed;
    started = λ v rows h is fine. is.0.formed;
    grown = λ h v mode e next is fine too. is.0.formed;
    valued = λ h e v is fine. is.0.formed;
  }

  formed_entries : (admission : Absorption V) → ((v : V) (e : Exactness) (w : V) → admission v e w → m.well_formed v → m.well_formed w)
      → (P : Program) (tree : Node) (r : PassResult V) → IterationUnder (lossy_operations m) admission set P tree r
      → AllByRecursion (IsGood V H (lossy_operations m) set m.well_formed m.head_well_formed held_kept) r.entries
  formed_entries admission admits P tree r (whole, first, e, universal, begun, pass) =
      let begins = made_good V H (lossy_operations m) set m.well_formed m.head_well_formed held_kept (first_values 0 P.globals) whole e first begun
      universal.1 in
      (pass_good_among V H (lossy_operations m) set m.well_formed m.head_well_formed held_kept admission admits tree (noted 0 e None) first r pass
      begins).entries

  formed_values : (r : PassResult V) (values : List V) (verdicts : List (ℕ × Bool)) (flagged : Option ℕ) → IsSolution m r values verdicts flagged
      → AllByRecursion (IsGood V H (lossy_operations m) set m.well_formed m.head_well_formed held_kept) r.entries → (v : V) → Contains values v →
      m.well_formed v
  formed_values r values verdicts flagged solves all v there =
      value_good V H (lossy_operations m) set m.well_formed m.head_well_formed held_kept r.entries there.0 v all
      ((solves.is_value there.0 v).0 (slice_get_read values (length values) there.0 v refl there.1 (sym there.2)))

  pub solved_formed : (P : Program) (tree : Node) (r : PassResult V) (values : List V) (verdicts : List (ℕ × Bool)) (flagged : Option ℕ) → LossyIteration m set P tree r →
      IsSolution m r values verdicts flagged
      → (v : V) → Contains values v → m.well_formed v
  solved_formed P tree r values verdicts flagged derived solves =
      formed_values r values verdicts flagged solves (formed_entries nothing_absorbed (λ v e w is g. subst m.well_formed (sym is.0) g) P tree r derived)

  pub solved_formed_among : (o : Interference V) (P : Program) (tree : Node) (r : PassResult V) (values : List V) (verdicts : List (ℕ × Bool))
      (flagged : Option ℕ)
      → LossyIterationUnder o m set P tree r → IsSolution m r values verdicts flagged → (v : V) → Contains values v → m.well_formed v
  solved_formed_among o P tree r values verdicts flagged derived solves =
      formed_values r values verdicts flagged solves (formed_entries (absorbed o m) (λ v e w is g. is.0.formed) P tree r derived)

  pub noted_formed : (o : Interference V) (P : Program) (tree : Node) (r : PassResult V) → LossyIterationUnder o m set P tree r
      → (q place : ℕ) (v : V) → Contains r.entries (recorded q place v) → m.well_formed v
  noted_formed o P tree r derived q place v there =
      given_good V H (lossy_operations m) set m.well_formed m.head_well_formed held_kept r.entries q place v (formed_entries (absorbed o m) (λ v e w is g. is.0.formed) P tree r derived) there
