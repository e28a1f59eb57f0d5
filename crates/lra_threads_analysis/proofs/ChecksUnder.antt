-- What is asked at a point of a run among others, of the state that these left there, the thread's tree asks there.
use Rattle.std.proofs.Common.{◌≡◌, ◌∙◌, ℕ, ℤ, List, [], ◌∷◌, ◌++◌, Option, Some, None, length, drop, refl, ap, ap₂, sym, subst}
use Rattle.std.proofs.{Math.Seq.drop-length, Math.Seq.drop-append_seam, lemmas.List.append-nil, lemmas.Option.same_Some}
use Rattle.std.specs.Prelude.{slice_get}
use Rattle.lra_threads_analysis.specs.Crates.lra_operations.Agree.{IsInlinedTree, point_of, AreDistinct}
use Rattle.lra_threads_analysis.specs.Crates.lra_program.NextOperation.{CallOpIs, RvalueOpIs, WriteOpIs, DeclaratorOpIs, StmtOpIs, NextOpIs}
use Rattle.lra_threads_analysis.specs.Crates.lra_program.Program.{Element, Call, Rvalue, value, result, Stmt, absent, nothing, block, assign, write, call, if, loop, for, break, continue, return}
use Rattle.lra_threads_analysis.specs.Crates.lra_program.Program.{assert, assume, switch, Program}
use Rattle.lra_threads_analysis.specs.Crates.lra_program.Step.{State, Op, append, push, push_for, run_op, arguments_for, CallContext, Item, run, declare, declare_array, all, end_of, next_round, cases}
use Rattle.lra_threads_analysis.specs.Crates.lra_program.Step.{end_switch, end_for, return_frame, leave_call, receiver_of, return_target}
use Rattle.lra_threads_analysis.specs.Crates.lra_program.Value.{◌>>=◌, number, index_of, first_draw, Argument}
use Rattle.lra_threads_analysis.specs.Crates.{lra_base.declared.number_types.NumberType.NumberType, lra_interleavings.ThreadModular.NextOpIsThere, lra_operations.CheckedOperations.HoldsWithFresh}
use Rattle.lra_threads_analysis.specs.Crates.{lra_operations.TracesAgree.KeepsWidth, lra_operations.Tree.Node, lra_program.Receivers.variable_at, lra_program.Run.Point, lra_program.Sites.Site}
use Rattle.lra_threads_analysis.specs.Crates.{lra_program.Sites.sites_of, lra_program.Traces.Trace, lra_program.declared.receivers.Receiver.Receiver}
use Rattle.lra_threads_analysis.proofs.Crates.lra_inline_sound.NextOperations.{Question, Asks, all_in}
use Rattle.lra_threads_analysis.proofs.Crates.{lra_inline_sound.Reached.reached, lra_program.TypeLaws.bind_some}

-- others change the first of these states to the second, which is as long and has the same draws
module _ (before after : State) (long : length after.store ≡ length before.store) (draws : after.draws ≡ before.draws) where
  -- so what comes of the first, by new variables, becomes this
  abbrev pub changed : State → State
  changed s = record { store = after.store ++ drop (length before.store) s.store; arrays = after.arrays; waiting = after.waiting; draws = s.draws }

  abbrev stored : List ℤ → List ℤ → State
  stored xs ds = record after { store = after.store ++ xs; draws = ds }

  is_changed : changed before ≡ after
  is_changed =
      ap (λ (xs : List ℤ). stored xs before.draws) (drop-length before.store)
      ∙ ap₂ (λ (xs ds : List ℤ). let s : State = record after { store = xs; draws = ds } in s) (append-nil after.store) (sym draws)

  -- a new variable of the one state is one of the other
  abbrev with_new : State → ℤ → List ℤ → State
  with_new s z ds = record s { store = s.store ++ z ∷ []; draws = ds }

  new_there : (t : NumberType) (s u : State) → s.draws ≡ u.draws → (r : ℤ × List ℤ) (z : ℤ) → first_draw s.draws ≡ Some r → number t r.0 ≡ Some z
      → run_op (append t) u ≡ Some (with_new u z r.1)
  new_there t s u same r z drew fits =
      ap (λ (ds : List ℤ). run_op (append t) (record u { draws = ds })) (sym same)
      ∙ ap (λ (o : Option (ℤ × List ℤ)). o >>= λ (p : ℤ × List ℤ). number t p.0 >>= λ (y : ℤ). Some (with_new u y p.1)) drew
      ∙ ap (λ (o : Option ℤ). o >>= λ (y : ℤ). Some (with_new u y r.1)) fits

  is_new : (z : ℤ) (ds : List ℤ) → changed (with_new before z ds) ≡ with_new after z ds
  is_new z ds = ap (λ (xs : List ℤ). stored xs ds) (drop-append_seam before.store (z ∷ []))

  new_of : (t : NumberType) (s u : State) → run_op (append t) s ≡ Some u
      → (r : ℤ × List ℤ) × (z : ℤ) × (first_draw s.draws ≡ Some r) × (number t r.0 ≡ Some z) × (with_new s z r.1 ≡ u)
  new_of t s u ran =
      let (r, drew, rest) = bind_some (first_draw s.draws) (λ (p : ℤ × List ℤ). number t p.0 >>= λ (y : ℤ). Some (with_new s y p.1)) u ran in
      let (z, fits, is) = bind_some (number t r.0) (λ (y : ℤ). Some (with_new s y r.1)) u rest in
      (r, z, drew, fits, same_Some (with_new s z r.1) u is)

  pub new_before : (t : NumberType) (u : State) → run_op (append t) after ≡ Some u → (w : State) × (run_op (append t) before ≡ Some w) × (changed w ≡ u)
  new_before t u ran =
      let (r, z, drew, fits, is) = new_of t after u ran in
      (with_new before z r.1, new_there t after before draws r z drew fits, is_new z r.1 ∙ is)

  pub new_after : (t : NumberType) (w : State) → run_op (append t) before ≡ Some w → run_op (append t) after ≡ Some (changed w)
  new_after t w ran =
      let (r, z, drew, fits, is) = new_of t before w ran in
      new_there t before after (sym draws) r z drew fits ∙ ap (λ (u : State). Some u) (sym (is_new z r.1) ∙ ap changed is)

  -- what is asked of the state that others left is asked, by way of the change, of the one before
  module _ (Q : Op → State → Type 0) (P : Program) where
    abbrev Changed : Op → State → Type 0
    Changed op s = Q op (changed s)

    call_before : (gives : List Argument → Op) (c : Call) (u w : State) → changed w ≡ u → CallOpIs Q P gives c u → CallOpIs Changed P gives c w
    call_before gives c u w same (f, at, asks) = (f, at, subst (λ s. Q (gives (arguments_for f.parameters c.arguments)) s) (sym same) asks)

    value_before : (x : Receiver) (v : Rvalue) (h : CallContext) (u w : State) → changed w ≡ u → RvalueOpIs Q P x v h u → RvalueOpIs Changed P x v h w
    value_before x (value e) h u w same asks = subst (λ s. RvalueOpIs Q P x (value e) h s) (sym same) asks
    value_before x (result c) h u w same asks = call_before (push h.base) c u w same asks

    write_before : (x : Element) (v : Rvalue) (h : CallContext) → WriteOpIs Q P x v h after → WriteOpIs Changed P x v h before
    write_before x (value e) h asks = subst (λ s. WriteOpIs Q P x (value e) h s) (sym is_changed) asks
    write_before x (result c) h asks = call_before (push_for h.base x) c after before is_changed asks

    declared_before : (t : NumberType) (o : Option Rvalue) (h : CallContext) → DeclaratorOpIs Q P t o h after → DeclaratorOpIs Changed P t o h before
    declared_before t None h asks = asks
    declared_before t (Some e) h (u, ran, asks) =
        let (w, made, same) = new_before t u ran in
        (w, made, value_before (variable_at (length before.store) t) e h u w same (subst (λ n. RvalueOpIs Q P (variable_at n t) e h u) long asks))

    statement_before : (a : Stmt) (k : List Item) (h : CallContext) → StmtOpIs Q P a k h after → StmtOpIs Changed P a k h before
    statement_before absent k h asks = asks
    statement_before (nothing at) k h asks = asks
    statement_before (block body end) k h asks = asks
    statement_before (assign at x e) k h asks = value_before (variable_at (index_of h.base x.slot) x.number_type) e h after before is_changed asks
    statement_before (write at x e) k h asks = write_before x e h asks
    statement_before (call at c) k h asks = call_before (push h.base) c after before is_changed asks
    statement_before (if at c a b) k h asks = subst (λ s. StmtOpIs Q P (if at c a b) k h s) (sym is_changed) asks
    statement_before (loop at c a step) k h asks = subst (λ s. StmtOpIs Q P (loop at c a step) k h s) (sym is_changed) asks
    statement_before (for at init c a step) k h asks = asks
    statement_before (break at) k h asks = asks
    statement_before (continue at) k h asks = asks
    statement_before (return at None) k h asks = asks
    statement_before (return at (Some e)) k h asks = value_before (receiver_of P (return_target k)) e h after before is_changed asks
    statement_before (assert at c) k h asks = subst (λ s. StmtOpIs Q P (assert at c) k h s) (sym is_changed) asks
    statement_before (assume at c) k h asks = subst (λ s. StmtOpIs Q P (assume at c) k h s) (sym is_changed) asks
    statement_before (switch at e cs) k h asks = subst (λ s. StmtOpIs Q P (switch at e cs) k h s) (sym is_changed) asks

    pub top_before : (k : List Item) (h : CallContext) → NextOpIs Q P k h after → NextOpIs Changed P k h before
    top_before [] h asks = asks
    top_before (run a ∷ k) h asks = statement_before a k h asks
    top_before (declare d ∷ k) h asks = declared_before d.number_type d.rvalue h asks
    top_before (declare_array at a ∷ k) h asks = asks
    top_before (all a ∷ k) h asks = asks
    top_before (end_of at n ∷ k) h asks = asks
    top_before (next_round step again n ∷ k) h asks = asks
    top_before (cases cs ∷ k) h asks = asks
    top_before (end_switch n ∷ k) h asks = asks
    top_before (end_for n ∷ k) h asks = asks
    top_before (return_frame b ∷ k) h asks = asks
    top_before (leave_call ∷ k) h asks = asks

  -- and back
  pub met_after : (Q : Op → State → Type 0) (fresh : Option NumberType) (op : Op) → HoldsWithFresh (λ o s. Q o (changed s)) fresh op before
      → HoldsWithFresh Q fresh op after
  met_after Q None op meets = subst (λ s. Q op s) is_changed meets
  met_after Q (Some t) op (w, ran, meets) = (changed w, new_after t w ran, meets)

  -- the question by way of the change
  abbrev pub moved : Question → Question
  moved Q = record { asks = Q.asks; holds = λ op s. Q.holds op (changed s); asked = λ op s h. Q.asked op (changed s) h }

module _ (may : State → State → Type 0) (keeps : KeepsWidth may) (draws : (s t : State) → may s t → t.draws ≡ s.draws) (Q : Question) where
  pub asks_among : (P : Program) (g : Node) → AreDistinct (sites_of P) → IsInlinedTree P g → (number : ℕ) (s : Site) (drawn : List ℤ) (a : Trace Point)
      → slice_get (sites_of P) number ≡ Some s → NextOpIsThere may Q.holds P drawn (point_of s) a → Asks Q (all_in Q None g) number a.state
  asks_among P g distinct is number s drawn a at (n, c, xs, walk, on, becomes, asks, met) =
      let long = keeps c.state a.state becomes in
      let same = draws c.state a.state becomes in
      let other = moved c.state a.state long same Q in
      let hit = reached may keeps other P g is c xs (point_of s) drawn n walk on in
      let there = hit.asks None (top_before c.state a.state long same Q.holds P c.items c.here asks) in
      record {
        asked = there.asked;
        among = there.among;
        there = there.there ∙ distinct hit.number number _ s hit.site at on.path refl;
        holds = met_after c.state a.state long same Q.holds there.asked.fresh there.asked.op there.holds;
      }
