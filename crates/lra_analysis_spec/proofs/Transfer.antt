-- From an iteration by some operations to one by others, if each answer of the first that matters is one of the second.
use Rattle.std.proofs.Common.{◌≡◌, ℕ, zero, suc, ℤ, ◌-◌, List, [], ◌∷◌, Option, None, Some, Bool, true, false, refl, subst}
use Rattle.lra_analysis_spec.specs.Crates.lra_base.declared.case_labels.CaseLabel.TheVariants.{Case, Default}
use Rattle.lra_analysis_spec.specs.Crates.lra_systems.LinearSystems.{LinearSystem}
use Rattle.lra_analysis_spec.specs.Crates.{lra_base.declared.case_labels.CaseLabel.CaseLabel, lra_linear_spec.declared.ConKind.ConKind, lra_program.Program.Expr, lra_program.Program.Cond}
use Rattle.lra_domain.specs.{Abstraction.worse, Actions.Action, Moves.Moves, Moves.stay, Moves.make, Moves.first_then, Moves.join_of, declared.Exactness.Exactness, declared.Mode.Mode}
use Rattle.lra_operations.specs.Tree.{Exit, broken, continued, returned, Node, empty, point, probe, act, check, seq, choose, iterate, catch, leave, select, Arms, no_arms, entry, arm, entries_of}
use Rattle.lra_operations.specs.declared.probes.Probe.TheVariants.{InterferencePoint, RecordWrite}
use Rattle.lra_analysis_spec.specs.Pass.{PassResult, noted, jumps, values_behind, jumps_caught, AreJoined, Filters, Transformer, LoopRoundFrom, LoopRoundFromHead, AscendingIteration}
use Rattle.lra_analysis_spec.specs.Pass.{DescendingIteration, Absorption, PassUnder, ArmsPassUnder, ValueIs, MatchesNone, Enters, JoinsRunning, ComesOut, RunsFrom}
use Rattle.lra_analysis_spec.specs.{Moves.AreMade, MovesOf.guard, MovesOf.value_moves, MovesOf.moves_of, Operations.Operations, Plan.Plan, Plan.Widening, Plan.mode_at, Thresholds.loop_thresholds}

-- the answers that matter: with this exactness, with this flag
pub record Matters (Keeps : Exactness → Type 0) (Fine : Option ℕ → Type 0) : Type 0 where
  pub parts : (c d : Exactness) → Keeps (worse c d) → Keeps c × Keeps d
  pub before : (q : ℕ) (e : Exactness) (f : Option ℕ) → Fine (noted q e f) → Keeps e × Fine f

pub record Transfers {V H : Type 0} (Keeps : Exactness → Type 0) (a b : Operations V H) : Type 0 where
  pub changed : (step : Action) (v : V) (e : Exactness) (w : V) → Keeps e → a.changed step v e w → b.changed step v e w
  pub joined : (u v : V) (e : Exactness) (w : V) → Keeps e → a.joined u v e w → b.joined u v e w
  pub started : (v : V) (rows : LinearSystem ConKind) (h : H) → a.started v rows h → b.started v rows h
  pub stays : (h : H) (v : V) (mode : Mode) → a.stays h v mode → b.stays h v mode
  pub grown : (h : H) (v : V) (mode : Mode) (e : Exactness) (next : H) → Keeps e → a.grown h v mode e next → b.grown h v mode e next
  pub valued : (h : H) (e : Exactness) (v : V) → Keeps e → a.valued h e v → b.valued h e v
  pub void : (n cap : ℕ) (v : V) → a.bottom n cap v → b.bottom n cap v

-- the second operations, with the first ones' dimensions
abbrev pub aligned : {V H : Type 0} → Operations V H → Operations V H → Operations V H
aligned a b = record b { dims = a.dims }

pub behind_flag : {V : Type 0} (k : Exit) (r : PassResult V) (v : V) (f : Option ℕ) → (jumps_caught k r v f).flag ≡ f
behind_flag broken r v f = refl
behind_flag continued r v f = refl
behind_flag returned r v f = refl

pub jump_flag : {V : Type 0} (k : Exit) (v nothing : V) (f : Option ℕ) → (jumps k v nothing f).flag ≡ f
jump_flag broken v nothing f = refl
jump_flag continued v nothing f = refl
jump_flag returned v nothing f = refl

module _ (V H : Type 0) (a b : Operations V H) (Keeps : Exactness → Type 0) (Fine : Option ℕ → Type 0) (matters : Matters Keeps Fine) (moves : Transfers Keeps a b) where
  pub made : (p : Moves) (v : V) (e : Exactness) (w : V) → Keeps e → AreMade a p v e w → AreMade (aligned a b) p v e w
  made stay v e w k h = h
  made (make step) v e w k h = moves.changed step v e w k h
  made (first_then p q) v e w k (x, c, d, one, two, is) =
      let i = matters.parts c d (subst Keeps is k) in
      (x, c, d, made p v c x i.0 one, made q x d w i.1 two, is)
  made (join_of p q) v e w k (x, y, c, d, i, one, two, joined, is) =
      let j = matters.parts (worse c d) i (subst Keeps is k) in
      let l = matters.parts c d j.0 in
      (x, y, c, d, i, made p v c x l.0 one, made q v d y l.1 two, moves.joined x y i w j.1 joined, is)

  pub leaves : (base : ℕ) (c : Cond) (wanted : Bool) (v : V) (e : Exactness) (w : V) → Keeps e → Filters a base c wanted v e w → Filters (aligned a b) base c
      wanted v e w
  leaves base c wanted v e w k h = made (guard (a.dims v) base wanted c) v e w k h

  joins : (v : V) (us : List V) (e : Exactness) (w : V) → Keeps e → AreJoined a v us e w → AreJoined (aligned a b) v us e w
  joins v [] e w k h = h
  joins v (u ∷ us) e w k (m, c, d, one, rest, is) =
      let p = matters.parts c d (subst Keeps is k) in
      (m, c, d, moves.joined v u c m p.0 one, joins m us d w p.1 rest, is)

  module _ (q base : ℕ) (c : Cond) (body other : Transformer V) (follows : (f : Option ℕ) (v : V) (r : PassResult V) → Fine r.flag → body f v r → Fine f × other f v r) where
    round : (f : Option ℕ) (v : V) (r : PassResult V) → Fine r.flag → LoopRoundFrom V H a q base c body f v r → Fine f × LoopRoundFrom V H (aligned a b) q base c other f v r
    round f v r k (w, e, s, on, inside, is) =
        let i = follows (noted q e f) w s (subst (λ (x : PassResult V). Fine x.flag) is k) inside in
        let p = matters.before q e f i.0 in
        (p.1, (w, e, s, leaves base c true v e w p.0 on, i.1, is))

    from_head : (h : H) (f : Option ℕ) (v : V) (r : PassResult V) → Fine r.flag → LoopRoundFromHead V H a q base c body h f v r → Fine f × LoopRoundFromHead V H (aligned a b) q base c other h f v r
    from_head h f v r k (e, is, turn) =
        let i = round (noted q e f) v r k turn in
        let p = matters.before q e f i.0 in
        (p.1, (e, moves.valued h e v p.0 is, i.1))

    grows : (widening : Widening) (left : ℕ) (f : Option ℕ) (h : H) (later : List H) (v : V) (r : PassResult V) → Fine r.flag → AscendingIteration V H a q base c body widening left f h later v r
        → Fine f × AscendingIteration V H (aligned a b) q base c other widening left f h later v r
    grows widening left f h [] v r k (turn, stays) =
        let i = from_head h f v r k turn in
        (i.0, (i.1, moves.stays h r.normal (mode_at widening left) stays))
    grows widening left f h (next ∷ later) v r k (u, s, e, turn, grown, rest) =
        let j = grows widening (left - 1) (noted q e s.flag) next later v r k rest in
        let p = matters.before q e s.flag j.0 in
        let i = from_head h f u s p.1 turn in
        (i.0, (u, s, e, i.1, moves.grown h s.normal (mode_at widening left) e next p.0 grown, j.1))

    narrows : (more : ℕ) (first u : V) (s : PassResult V) (v : V) (r : PassResult V) → Fine r.flag → DescendingIteration V H a q base c body more first u s v r
        → Fine s.flag × DescendingIteration V H (aligned a b) q base c other more first u s v r
    narrows zero first u s v r k (same, is) = (subst (λ (x : PassResult V). Fine x.flag) is k, (same, is))
    narrows (suc more) first u s v r k (next, t, e, joined, turn, rest) =
        let j = narrows more first next t v r k rest in
        let i = round (noted q e s.flag) next t j.0 turn in
        let p = matters.before q e s.flag i.0 in
        (p.1, (next, t, e, moves.joined first s.normal e next p.0 joined, i.1, j.1))

  values : (base : ℕ) (e : Expr) (z : ℤ) (wanted : Bool) (v : V) (x : Exactness) (w : V) → Keeps x → ValueIs a base e z wanted v x w
      → ValueIs (aligned a b) base e z wanted v x w
  values base e z wanted v x w k h = made (value_moves (a.dims v) base wanted e z) v x w k h

  matches : (base : ℕ) (e : Expr) (labels : List CaseLabel) (v : V) (x : Exactness) (w : V) → Keeps x → MatchesNone a base e labels v x w
      → MatchesNone (aligned a b) base e labels v x w
  matches base e [] v x w k h = h
  matches base e (Case z ∷ labels) v x w k (m, c, d, one, rest, is) =
      let p = matters.parts c d (subst Keeps is k) in
      (m, c, d, values base e z false v c m p.0 one, matches base e labels m d w p.1 rest, is)
  matches base e (Default ∷ labels) v x w k h = matches base e labels v x w k h

  enters : (base : ℕ) (e : Expr) (l : CaseLabel) (v other : V) (x : Exactness) (w : V) → Keeps x → Enters a base e l v other x w
      → Enters (aligned a b) base e l v other x w
  enters base e (Case z) v other x w k h = values base e z true v x w k h
  enters base e Default v other x w k h = h

  runs_on : (o : Option V) (u : V) (x : Exactness) (w : V) → Keeps x → JoinsRunning a o u x w → JoinsRunning (aligned a b) o u x w
  runs_on None u x w k h = h
  runs_on (Some running) u x w k h = moves.joined running u x w k h

  comes_out : (d : Bool) (o : Option V) (other : V) (x : Exactness) (w : V) → Keeps x → ComesOut a d o other x w → ComesOut (aligned a b) d o other x w
  comes_out d None other x w k h = h
  comes_out true (Some running) other x w k h = h
  comes_out false (Some running) other x w k h = moves.joined running other x w k h

  runs_from : (live cap : ℕ) (o : Option V) (w : V) → RunsFrom a live cap o w → RunsFrom (aligned a b) live cap o w
  runs_from live cap None w h = moves.void live cap w h
  runs_from live cap (Some running) w h = h

  -- if others act, each answer of the first that matters is one of the second, too
  module _ (first second : Absorption V) (takes : (v : V) (e : Exactness) (w : V) → Keeps e → first v e w → second v e w) where
    mutual
      pub passes_among : (set : Plan) (g : Node) (f : Option ℕ) (v : V) (r : PassResult V) → Fine r.flag → PassUnder V H a first set g f v r
          → Fine f × PassUnder V H (aligned a b) second set g f v r
      passes_among set empty f v r k is = (subst (λ (x : PassResult V). Fine x.flag) is k, is)
      passes_among set (point q) f v r k is = (subst (λ (x : PassResult V). Fine x.flag) is k, is)
      passes_among set (probe q InterferencePoint) f v r k (w, e, h, is) =
          let p = matters.before q e f (subst (λ (x : PassResult V). Fine x.flag) is k) in
          (p.1, (w, e, takes v e w p.0 h, is))
      passes_among set (probe q (RecordWrite place)) f v r k is = (subst (λ (x : PassResult V). Fine x.flag) is k, is)
      passes_among set (act q op) f v r k (w, e, h, is) =
          let p = matters.before q e f (subst (λ (x : PassResult V). Fine x.flag) is k) in
          (p.1, (w, e, made (moves_of (a.dims v) op) v e w p.0 h, is))
      passes_among set (check q base c) f v r k (u, w, d, e, off, on, is) =
          let p = matters.before q e (noted q d f) (subst (λ (x : PassResult V). Fine x.flag) is k) in
          let o = matters.before q d f p.1 in
          (o.1, (u, w, d, e, leaves base c false v d u o.0 off, leaves base c true v e w p.0 on, is))
      passes_among set (seq x y) f v r k (s, t, one, two, is) =
          let j = passes_among set y s.flag s.normal t (subst (λ (z : PassResult V). Fine z.flag) is k) two in
          let i = passes_among set x f v s j.0 one in
          (i.0, (s, t, i.1, j.1, is))
      passes_among set (choose q base c x y) f v r k (on, off, w, d, e, i, s, t, yes_on, one, no_on, two, joined, is) =
          let p = matters.before q i t.flag (subst (λ (z : PassResult V). Fine z.flag) is k) in
          let j = passes_among set y (noted q e s.flag) off t p.1 two in
          let o = matters.before q e s.flag j.0 in
          let l = passes_among set x (noted q d f) on s o.1 one in
          let n = matters.before q d f l.0 in (
            n.1,
            (
              on,
              off,
              w,
              d,
              e,
              i,
              s,
              t,
              leaves base c true v d on n.0 yes_on,
              l.1,
              leaves base c false v e off o.0 no_on,
              j.1,
              moves.joined s.normal t.normal
                  i w p.0 joined,
              is,
            ),
          )
      passes_among set (iterate q base c x) f v r k (h, later, u, top, out, s, t, e, started, grown, narrowed, off, is) =
          let p = matters.before q e t.flag (subst (λ (z : PassResult V). Fine z.flag) is k) in
          let n = narrows q base c (PassUnder V H a first set x) (PassUnder V H (aligned a b) second set x) (passes_among set x) set.narrow v u s top t p.1 narrowed in
          let j = grows q base c (PassUnder V H a first set x) (PassUnder V H (aligned a b) second set x) (passes_among set x) set.widening set.delay f h later u s n.0 grown in (
            j.0,
            (
              h,
              later,
              u,
              top,
              out,
              s,
              t,
              e,
              moves.started v (loop_thresholds set.widening (a.dims v) base c x) h started,
              j.1,
              n.1,
              leaves base c false top e out
                  p.0 off,
              is,
            ),
          )
      passes_among set (catch q kind x) f v r k (w, e, s, one, joined, is) =
          let p = matters.before q e s.flag (subst Fine (behind_flag kind s w (noted q e s.flag)) (subst (λ (z : PassResult V). Fine z.flag) is k)) in
          let i = passes_among set x f v s p.1 one in
          (i.0, (w, e, s, i.1, joins (values_behind kind s).0 (values_behind kind s).1 e w p.0 joined, is))
      passes_among set (leave n kind) f v r k (w, nothing, is) =
          (subst Fine (jump_flag kind v w f) (subst (λ (z : PassResult V). Fine z.flag) is k), (w, moves.void n set.parts w nothing, is))
      passes_among set (select q base e arms) f v r k (other, x, none, pass) =
          let i = arms_pass set q base e _ v other arms (noted q x f) None r k pass in
          let p = matters.before q x f i.0 in
          (p.1, (other, x, matches base e (entries_of arms) v x other p.0 none, i.1))

      arms_pass : (set : Plan) (q base : ℕ) (e : Expr) (d : Bool) (v other : V) (arms : Arms) (f : Option ℕ) (o : Option V) (r : PassResult V) → Fine r.flag
          → ArmsPassUnder V H a first set q base e d v other arms f o r → Fine f × ArmsPassUnder V H (aligned a b) second set q base e d v other arms f o r
      arms_pass set q base e d v other no_arms f o r k (w, x, out, is) =
          let p = matters.before q x f (subst (λ (z : PassResult V). Fine z.flag) is k) in
          (p.1, (w, x, comes_out d o other x w p.0 out, is))
      arms_pass set q base e d v other (entry l arms) f o r k (u, w, x, y, entered, joined, rest) =
          let i = arms_pass set q base e d v other arms (noted q y (noted q x f)) (Some w) r k rest in
          let p = matters.before q y (noted q x f) i.0 in
          let n = matters.before q x f p.1 in
          (n.1, (u, w, x, y, enters base e l v other x u n.0 entered, runs_on o u y w p.0 joined, i.1))
      arms_pass set q base e d v other (arm g arms) f o r k (w, s, t, from, one, rest, is) =
          let j = arms_pass set q base e d v other arms s.flag (Some s.normal) t (subst (λ (z : PassResult V). Fine z.flag) is k) rest in
          let i = passes_among set g f w s j.0 one in
          (i.0, (w, s, t, runs_from (a.dims v) set.parts o w from, i.1, j.1, is))
