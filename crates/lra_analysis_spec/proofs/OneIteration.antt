-- The written iteration finds one value at each point: if each operation has one result, so has a pass.
use Rattle.std.proofs.Common.{◌≡◌, ◌∙◌, ℕ, zero, suc, ℤ, ◌-◌, List, [], ◌∷◌, Option, None, Some, Bool, true, false, refl, sym, subst}
use Rattle.lra_analysis_spec.specs.Crates.lra_base.declared.case_labels.CaseLabel.TheVariants.{Case, Default}
use Rattle.lra_analysis_spec.specs.Crates.lra_program.Program.{Expr, Cond, Program}
use Rattle.lra_analysis_spec.specs.Crates.{lra_base.declared.case_labels.CaseLabel.CaseLabel, lra_linear_spec.declared.ConKind.ConKind, lra_systems.LinearSystems.LinearSystem}
use Rattle.lra_domain.specs.Moves.{Moves, stay, make, first_then, join_of}
use Rattle.lra_domain.specs.{Abstraction.Abstraction, Actions.Action, Laws.SingleLaws, declared.Exactness.Exactness, declared.Mode.Mode}
use Rattle.lra_operations.specs.Tree.{Node, empty, point, probe, act, check, seq, choose, iterate, catch, leave, select, Arms, no_arms, entry, arm, entries_of}
use Rattle.lra_operations.specs.declared.probes.Probe.TheVariants.{InterferencePoint, RecordWrite}
use Rattle.lra_analysis_spec.specs.Pass.{PassResult, noted, values_behind, AreJoined, Filters, Transformer, LoopRoundFrom, LoopRoundFromHead, AscendingIteration, DescendingIteration, Pass, ArmsPass}
use Rattle.lra_analysis_spec.specs.Pass.{ValueIs, MatchesNone, Enters, JoinsRunning, ComesOut, RunsFrom}
use Rattle.lra_analysis_spec.specs.{Analysis.ExactIteration, Analysis.Iteration, Moves.AreMade, MovesOf.guard, MovesOf.value_moves, MovesOf.moves_of, MovesOf.first_values, Operations.Operations}
use Rattle.lra_analysis_spec.specs.{Operations.exact_operations, Plan.Plan, Plan.Widening, Plan.mode_at, Thresholds.loop_thresholds}

-- each operation has one exactness and one result; a head doesn't grow if it is stable
pub record Single {V H : Type 0} (ops : Operations V H) : Type 0 where
  pub universal : (n cap : ℕ) (v w : V) → ops.top n cap v → ops.top n cap w → v ≡ w
  pub void : (n cap : ℕ) (v w : V) → ops.bottom n cap v → ops.bottom n cap w → v ≡ w
  pub changed : (step : Action) (v : V) (e d : Exactness) (w x : V) → ops.changed step v e w → ops.changed step v d x → (e ≡ d) × (w ≡ x)
  pub joined : (u v : V) (e d : Exactness) (w x : V) → ops.joined u v e w → ops.joined u v d x → (e ≡ d) × (w ≡ x)
  pub started : (v : V) (rows : LinearSystem ConKind) (g h : H) → ops.started v rows g → ops.started v rows h → g ≡ h
  pub apart : (h : H) (v : V) (mode : Mode) (e : Exactness) (next : H) → ops.stays h v mode → ops.grown h v mode e next → ⊥
  pub grown : (h : H) (v : V) (mode : Mode) (e d : Exactness) (i j : H) → ops.grown h v mode e i → ops.grown h v mode d j → (e ≡ d) × (i ≡ j)
  pub valued : (h : H) (e d : Exactness) (v w : V) → ops.valued h e v → ops.valued h d w → (e ≡ d) × (v ≡ w)

pub defined_single : {V H : Type 0} (m : Abstraction V H) → SingleLaws m → Single (exact_operations m)
defined_single m laws = record {
  universal = laws.one_top;
  void = laws.one_bottom;
  changed = λ step v e d w x a b. (a.0 ∙ sym b.0, laws.one_transferred step v w x a.1 b.1);
  joined = λ u v e d w x a b. (a.0 ∙ sym b.0, laws.one_joined u v w x a.1 b.1);
  started = laws.one_started;
  apart = λ h v mode e next s g. g.1 s;
  grown = λ h v mode e d i j a b. (a.0 ∙ sym b.0, laws.one_grown h v mode i j a.2 b.2);
  valued = λ h e d v w a b. (a.0 ∙ sym b.0, laws.one_valued h v w a.1 b.1);
}

module _ (V H : Type 0) (ops : Operations V H) (single : Single ops) where
  pub one_made : (p : Moves) (v : V) (e d : Exactness) (w x : V) → AreMade ops p v e w → AreMade ops p v d x → (e ≡ d) × (w ≡ x)
  one_made stay v e d w x (a, b) (k, l) = (b ∙ sym l, a ∙ sym k)
  one_made (make step) v e d w x a b = single.changed step v e d w x a b
  one_made (first_then p q) v e d w x (m, a, b, one, two, is) (n, k, l, first, last, same) =
      let (y, z) = one_made p v a k m n one first in
      let (i, j) = one_made q m b l w x two (rw z last) in
      (is ∙ rw (y, i) refl ∙ sym same, j)
  one_made (join_of p q) v e d w x (m, n, a, b, c, one, two, joined, is) (o, r, k, l, i, first, last, added, same) =
      let (y, z) = one_made p v a k m o one first in
      let (t, u) = one_made q v b l n r two last in
      let (f, g) = single.joined m n c i w x joined (rw (z, u) added) in
      (is ∙ rw (y, t, f) refl ∙ sym same, g)

  pub one_left : (base : ℕ) (c : Cond) (wanted : Bool) (v : V) (e d : Exactness) (w x : V) → Filters ops base c wanted v e w → Filters ops base c wanted v d x →
      (e ≡ d) × (w ≡ x)
  one_left base c wanted v e d w x a b = one_made (guard (ops.dims v) base wanted c) v e d w x a b

  one_join : (us : List V) (v : V) (e d : Exactness) (w x : V) → AreJoined ops v us e w → AreJoined ops v us d x → (e ≡ d) × (w ≡ x)
  one_join [] v e d w x (a, b) (k, l) = (b ∙ sym l, a ∙ sym k)
  one_join (u ∷ us) v e d w x (m, a, b, one, rest, is) (n, k, l, two, others, same) =
      let (y, z) = single.joined v u a k m n one two in
      let (p, q) = one_join us m b l w x rest (subst (λ (t : V). AreJoined ops t us l x) (sym z) others) in
      (is ∙ rw (y, p) refl ∙ sym same, q)

  -- what a body gives is one thing
  abbrev IsOne : Transformer V → Type 0
  IsOne body = (f : Option ℕ) (v : V) (r s : PassResult V) → body f v r → body f v s → r ≡ s

  module _ (q base : ℕ) (c : Cond) (body : Transformer V) (one : IsOne body) where
    one_round : IsOne (LoopRoundFrom V H ops q base c body)
    one_round f v r s (w, e, a, on, inside, is) (x, d, b, off, within, same) =
        let (y, z) = one_left base c true v e d w x on off in
        let k = one (noted q e f) w a b inside (rw (y, z) within) in
        is ∙ rw k refl ∙ sym same

    one_from : (h : H) (f : Option ℕ) (v w : V) (r s : PassResult V) → LoopRoundFromHead V H ops q base c body h f v r → LoopRoundFromHead V H ops q base c body h f w s → (v ≡ w) × (r ≡ s)
    one_from h f v w r s (e, a, b) (d, k, l) =
        let (y, z) = single.valued h e d v w a k in
        (z, one_round (noted q e f) v r s b (rw (y, z) l))

    one_growth : (widening : Widening) (left : ℕ) (f : Option ℕ) (h : H) (later others : List H) (v w : V) (r s : PassResult V) → AscendingIteration V H ops q base c body widening left f h later v r
        → AscendingIteration V H ops q base c body widening left f h others w s → (v ≡ w) × (r ≡ s)
    one_growth widening left f h [] [] v w r s (a, b) (k, l) = one_from h f v w r s a k
    one_growth widening left f h [] (i ∷ others) v w r s (a, b) (u, t, e, k, l, m) =
        let (y, z) = one_from h f v u r t a k in
        absurd (single.apart h t.normal (mode_at widening left) e i (rw (← z) b) l)
    one_growth widening left f h (i ∷ later) [] v w r s (u, t, e, a, b, n) (k, l) =
        let (y, z) = one_from h f u w t s a k in
        absurd (single.apart h s.normal (mode_at widening left) e i l (rw (← z) b))
    one_growth widening left f h (i ∷ later) (j ∷ others) v w r s (u, t, e, a, b, n) (x, p, d, k, l, m) =
        let (y, z) = one_from h f u x t p a k in
        let (o, g) = single.grown h t.normal (mode_at widening left) e d i j b (rw z l) in
        one_growth widening (left - 1) (noted q e t.flag) i later others v w r s n (rw (z, o, g) m)

    one_narrowing : (more : ℕ) (first u : V) (s : PassResult V) (v w : V) (r t : PassResult V) → DescendingIteration V H ops q base c body more first u s v r →
        DescendingIteration V H ops q base c body more first u s w t
        → (v ≡ w) × (r ≡ t)
    one_narrowing zero first u s v w r t (a, b) (k, l) = (a ∙ sym k, b ∙ sym l)
    one_narrowing (suc more) first u s v w r t (next, i, e, joined, turn, rest) (other, j, d, added, round, last) =
        let (y, z) = single.joined first s.normal e d next other joined added in
        let k = one_round (noted q e s.flag) next i j turn (rw (y, z) round) in
        one_narrowing more first next i v w r t rest (rw (z, k) last)

  one_value : (base : ℕ) (e : Expr) (z : ℤ) (wanted : Bool) (v : V) (c d : Exactness) (w x : V) → ValueIs ops base e z wanted v c w
      → ValueIs ops base e z wanted v d x → (c ≡ d) × (w ≡ x)
  one_value base e z wanted v c d w x a b = one_made (value_moves (ops.dims v) base wanted e z) v c d w x a b

  one_match : (base : ℕ) (e : Expr) (labels : List CaseLabel) (v : V) (c d : Exactness) (w x : V) → MatchesNone ops base e labels v c w
      → MatchesNone ops base e labels v d x → (c ≡ d) × (w ≡ x)
  one_match base e [] v c d w x (a, b) (k, l) = (b ∙ sym l, a ∙ sym k)
  one_match base e (Case z ∷ labels) v c d w x (m, a, b, one, rest, is) (n, k, l, two, others, same) =
      let (y, i) = one_value base e z false v a k m n one two in
      let (p, q) = one_match base e labels m b l w x rest (subst (λ (t : V). MatchesNone ops base e labels t l x) (sym i) others) in
      (is ∙ rw (y, p) refl ∙ sym same, q)
  one_match base e (Default ∷ labels) v c d w x a b = one_match base e labels v c d w x a b

  one_enter : (base : ℕ) (e : Expr) (l : CaseLabel) (v other : V) (c d : Exactness) (w x : V) → Enters ops base e l v other c w
      → Enters ops base e l v other d x → (c ≡ d) × (w ≡ x)
  one_enter base e (Case z) v other c d w x a b = one_value base e z true v c d w x a b
  one_enter base e Default v other c d w x (a, b) (k, l) = (b ∙ sym l, a ∙ sym k)

  one_running : (o : Option V) (u : V) (c d : Exactness) (w x : V) → JoinsRunning ops o u c w → JoinsRunning ops o u d x → (c ≡ d) × (w ≡ x)
  one_running None u c d w x (a, b) (k, l) = (b ∙ sym l, a ∙ sym k)
  one_running (Some running) u c d w x a b = single.joined running u c d w x a b

  one_out : (has : Bool) (o : Option V) (other : V) (c d : Exactness) (w x : V) → ComesOut ops has o other c w → ComesOut ops has o other d x
      → (c ≡ d) × (w ≡ x)
  one_out has None other c d w x (a, b) (k, l) = (b ∙ sym l, a ∙ sym k)
  one_out true (Some running) other c d w x (a, b) (k, l) = (b ∙ sym l, a ∙ sym k)
  one_out false (Some running) other c d w x a b = single.joined running other c d w x a b

  one_start : (live cap : ℕ) (o : Option V) (w x : V) → RunsFrom ops live cap o w → RunsFrom ops live cap o x → w ≡ x
  one_start live cap None w x a b = single.void live cap w x a b
  one_start live cap (Some running) w x a b = a ∙ sym b

  mutual
    pub one_pass : (set : Plan) (g : Node) → IsOne (Pass V H ops set g)
    one_pass set empty f v r s is same = is ∙ sym same
    one_pass set (point q) f v r s is same = is ∙ sym same
    one_pass set (probe q InterferencePoint) f v r s (w, e, (a, b), is) (x, d, (k, l), same) = is ∙ rw (a ∙ sym k, b ∙ sym l) refl ∙ sym same
    one_pass set (probe q (RecordWrite place)) f v r s is same = is ∙ sym same
    one_pass set (act q op) f v r s (w, e, a, is) (x, d, b, same) =
        let (y, z) = one_made (moves_of (ops.dims v) op) v e d w x a b in is ∙ rw (y, z) refl ∙ sym same
    one_pass set (check q base c) f v r s (u, w, d, e, off, on, is) (x, y, i, j, off', on', same) =
        let (k, l) = one_left base c false v d i u x off off' in
        let (m, n) = one_left base c true v e j w y on on' in
        is ∙ rw (k, l, m, n) refl ∙ sym same
    one_pass set (seq a b) f v r s (i, j, one, two, is) (k, l, one', two', same) =
        let y = one_pass set a f v i k one one' in
        let z = one_pass set b i.flag i.normal j l two (rw y two') in
        is ∙ rw (y, z) refl ∙ sym same
    one_pass set (choose q base c a b) f v r s (on, off, w, d, e, i, x, y, when, one, else, two, joined, is)
        (on', off', w', d', e', i', x', y', when', one', else', two', joined', same) =
        let (k, l) = one_left base c true v d d' on on' when when' in
        let m = one_pass set a (noted q d f) on x x' one (rw (k, l) one') in
        let (n, o) = one_left base c false v e e' off off' else else' in
        let p = one_pass set b (noted q e x.flag) off y y' two (rw (n, o, m) two') in
        let (t, u) = single.joined x.normal y.normal i i' w w' joined (rw (m, p) joined') in
        is ∙ rw (m, p, t, u) refl ∙ sym same
    one_pass set (iterate q base c a) f v r s (h, later, u, top, out, x, y, e, started, grown, narrowed, off, is)
        (h', later', u', top', out', x', y', e', started', grown', narrowed', off', same) =
        let k = single.started v (loop_thresholds set.widening (ops.dims v) base c a) h h' started started' in
        let body = Pass V H ops set a in
        let (l, m) = one_growth q base c body (one_pass set a) set.widening set.delay f h later later' u u' x x' grown (rw k grown') in
        let (n, o) = one_narrowing q base c body (one_pass set a) set.narrow v u x top top' y y' narrowed (rw (l, m) narrowed') in
        let (p, t) = one_left base c false top e e' out out' off (rw n off') in
        is ∙ rw (o, p, t) refl ∙ sym same
    one_pass set (catch q kind a) f v r s (w, e, x, one, joined, is) (w', e', x', one', joined', same) =
        let k = one_pass set a f v x x' one one' in
        let (l, m) = one_join (values_behind kind x).1 (values_behind kind x).0 e e' w w' joined (rw k joined') in
        is ∙ rw (k, l, m) refl ∙ sym same
    one_pass set (leave n kind) f v r s (w, nothing, is) (w', nothing', same) =
        let k = single.void n set.parts w w' nothing nothing' in
        is ∙ rw k refl ∙ sym same
    one_pass set (select q base e arms) f v r s (other, x, none, pass) (other', x', none', pass') =
        let (k, l) = one_match base e (entries_of arms) v x x' other other' none none' in
        one_arms set q base e _ v other arms (noted q x f) None r s pass (rw (k, l) pass')

    one_arms : (set : Plan) (q base : ℕ) (e : Expr) (d : Bool) (v other : V) (arms : Arms) (f : Option ℕ) (o : Option V) (r s : PassResult V)
        → ArmsPass V H ops set q base e d v other arms f o r
        → ArmsPass V H ops set q base e d v other arms f o s → r ≡ s
    one_arms set q base e d v other no_arms f o r s (w, x, out, is) (w', x', out', same) =
        let (k, l) = one_out d o other x x' w w' out out' in is ∙ rw (k, l) refl ∙ sym same
    one_arms set q base e d v other (entry n arms) f o r s (u, w, x, y, enters, joins, rest) (u', w', x', y', enters', joins', rest') =
        let (k, l) = one_enter base e n v other x x' u u' enters enters' in
        let (i, j) = one_running o u y y' w w' joins (rw l joins') in
        one_arms set q base e d v other arms (noted q y (noted q x f)) (Some w) r s rest (rw (k, i, j) rest')
    one_arms set q base e d v other (arm a arms) f o r s (w, i, j, from, one, rest, is) (w', i', j', from', one', rest', same) =
        let z = one_start (ops.dims v) set.parts o w w' from from' in
        let y = one_pass set a f w i i' one (rw z one') in
        let n = one_arms set q base e d v other arms i.flag (Some i.normal) j j' rest (rw y rest') in
        is ∙ rw (y, n) refl ∙ sym same

  pub one_iteration : (set : Plan) (P : Program) (g : Node) (r s : PassResult V) → Iteration ops set P g r → Iteration ops set P g s → r ≡ s
  one_iteration set P g r s (none, first, e, universal, values, pass) (none', first', e', universal', values', pass') =
      let k = single.universal 0 set.parts none none' universal universal' in
      let (l, m) = one_made (first_values 0 P.globals) none e e' first first' values (rw k values') in
      one_pass set g (noted 0 e None) first r s pass (rw (l, m) pass')

pub one_written : {V H : Type 0} (m : Abstraction V H) → SingleLaws m → (set : Plan) (P : Program) (g : Node) (r s : PassResult V) → ExactIteration m set P g r → ExactIteration m set P g s → r ≡ s
one_written {V} {H} m laws set P g r s a b = one_iteration V H (exact_operations m) (defined_single m laws) set P g r s a b
