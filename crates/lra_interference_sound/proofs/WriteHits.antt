-- What is sought of a tree where a program's step from a point gives a variable a value: the tree gives it, on the same
-- trace.
use Rattle.std.proofs.Common.{◌≡◌, ℕ, suc, ◌+◌, List, [], ◌∷◌, length, Option, Some, None, Bool, true, false, inl, inr, refl, sym, ap, ◌∙◌, subst}
use Rattle.std.proofs.lemmas.Option.{same_Some, none-some}
use Rattle.lra_interference_sound.specs.Crates.lra_operations.Inlined.{InlineState, move, IsSiteWith, InlineStmt, InlineDeclarator, InlineLoop, InlineRvalue, as_nothing, as_block, as_absent}
use Rattle.lra_interference_sound.specs.Crates.lra_operations.Inlined.{as_assign, as_call, as_if, as_loop, as_for, as_break, as_continue, as_return, as_return_value, as_return_call, as_end}
use Rattle.lra_interference_sound.specs.Crates.lra_operations.Inlined.{as_end_value, as_end_call, as_assert, as_assume, as_switch, as_write, as_write_call, as_fresh, as_given, as_value, as_result}
use Rattle.lra_interference_sound.specs.Crates.lra_operations.Inlined.{is_loop, loop_node, return_node, switch_node}
use Rattle.lra_interference_sound.specs.Crates.lra_operations.Traces.{to_end, RunsUpTo, VisitsPoint}
use Rattle.lra_interference_sound.specs.Crates.lra_operations.Tree.{broken, continued, returned, Node, point, act, check, seq, choose, catch, iterate, leave, select}
use Rattle.lra_interference_sound.specs.Crates.lra_program.NextOperation.{RvalueOpIs, DeclaratorOpIs}
use Rattle.lra_interference_sound.specs.Crates.lra_program.Program.{Rvalue, value, result, Stmt, absent, nothing, block, assign, write, call, if, loop, for, break, continue, return, assert, assume}
use Rattle.lra_interference_sound.specs.Crates.lra_program.Program.{switch, Program}
use Rattle.lra_interference_sound.specs.Crates.lra_program.Step.{State, fill, store_value, havoc, store_element, truncate_to, test, Item, run, declare, declare_array, end_of, return_frame, Config}
use Rattle.lra_interference_sound.specs.Crates.lra_program.Step.{main_receiver, receiver_of}
use Rattle.lra_interference_sound.specs.Crates.{lra_base.declared.number_types.NumberType.NumberType, lra_operations.TracesAgree.KeepsWidth, lra_operations.TracesAgree.point_at}
use Rattle.lra_interference_sound.specs.Crates.{lra_program.Receivers.variable_at, lra_program.Run.label_on, lra_program.Run.Point, lra_program.Sites.Site, lra_program.Traces.TraceEvent}
use Rattle.lra_interference_sound.specs.Crates.{lra_program.Traces.visit, lra_program.Traces.Trace, lra_program.Value.index_of, lra_program.declared.receivers.Receiver.Receiver}
use Rattle.lra_interference_sound.proofs.Crates.lra_operations.ArmRows.{row_behind}
use Rattle.lra_analysis_spec.specs.Instrumented as opened
use Rattle.lra_inline_sound.proofs.Split.{trail, named, not_there, receiver_is, no_mark, IsClosed, IsThere, IsSought}
use Rattle.lra_inline_sound.proofs.{Landing.config, Landing.Matches, Shapes.tail_node}
use Rattle.lra_interleavings.specs.Writes.{OpWrites}
use Rattle.lra_interference_sound.proofs.TopWrites.{TopGives, no_end, tail_gives, row_gives, loop_gives, neither, asked_only, any_only}

module _ (may : State → State → Type 0) (gift : ℕ) (P : Program) (T : List Site) where
  abbrev pub Given : Node → Trace Point → ℕ → Trace Point → Type 0
  Given g a q b = opened.WritesVariable (point_at T) may g a q gift b

  -- if the configuration's step, from what others made of its state, gives the variable a value, the tree does
  pub record Hit (c : Config) (zs : List (TraceEvent Point)) (p : ℕ) (g : Node) (a : Trace Point) : Type 0 where
    pub number : ℕ
    pub leads : (s : State) (b : Trace Point) → may c.state s → TopGives gift b.state P c.items c.here s
        → b.events ≡ visit (record { path = c.here.path; label = p }) c.state ∷ zs → Given g a number b

  -- what is so of each write is so of the whole
  pub hit_as : (c : Config) (zs : List (TraceEvent Point)) (p : ℕ) (g h : Node) (a b : Trace Point) →
      ((q : ℕ) (d : Trace Point) → Given g a q d → Given h b q d)
      → Hit c zs p g a → Hit c zs p h b
  hit_as c zs p g h a b f x = record { number = x.number; leads = λ s d m t e. f x.number d (x.leads s d m t e) }

  pub hit_there : (c : Config) (zs : List (TraceEvent Point)) (p : ℕ) (spot : InlineState) (at : ℕ) (asserts : Bool) (is : List Item) (a : Trace Point)
      (g : Node)
      → label_on c.items ≡ Some p
      → IsSiteWith T spot at asserts → label_on is ≡ Some at
      → ((b d : Trace Point) → VisitsPoint (point_at T) may spot.next a b → TopGives gift d.state P is spot.frame.here b.state → d.events ≡ b.events
      → Given g a spot.next d)
      → (config is spot.frame.here a.state ≡ c) × (a.events ≡ zs) → Hit c zs p g a
  hit_there c zs p spot at asserts is a g on has lab f (e, i) = subst (λ ys. Hit c ys p g a) i
      (subst (λ (d : Config). label_on d.items ≡ Some p → Hit d a.events p g a) e (λ o. record {
        number = spot.next;
        leads = λ s d m t met. f (trail s (visit (point_at T spot.next) a.state ∷ a.events)) d (m, refl) t (met ∙ same (same_Some _ _ (sym lab ∙ o)));
      }) on)
    where
      same : at ≡ p → visit (record { path = spot.frame.here.path; label = p }) a.state ∷ a.events ≡ visit (point_at T spot.next) a.state ∷ a.events
      same o = ap (λ l. let r : Point = record { path = spot.frame.here.path; label = l } in visit r a.state ∷ a.events) (sym o) ∙
          ap (λ r. visit r a.state ∷ a.events) (sym (named T spot at asserts has))

  pub hit_seq : (c : Config) (zs : List (TraceEvent Point)) (p : ℕ) (g h : Node) (a : Trace Point) → Hit c zs p g a → Hit c zs p (seq g h) a
  hit_seq c zs p g h a x = hit_as c zs p g (seq g h) a a (λ q d z. inl z) x

  pub hit_then : (c : Config) (zs : List (TraceEvent Point)) (p : ℕ) (g h : Node) (a m : Trace Point) → RunsUpTo (point_at T) may g a to_end m → Hit c zs p h m
      → Hit c zs p (seq g h) a
  hit_then c zs p g h a m e x = hit_as c zs p h (seq g h) m a (λ q d z. inr (m, e, z)) x

module _ (may : State → State → Type 0) (keeps : KeepsWidth may) (gift : ℕ) (P : Program) (T : List Site) (c : Config) (zs : List (TraceEvent Point)) (p : ℕ)
    (on : label_on c.items ≡ Some p) where
  abbrev H : Node → Trace Point → Type 0
  H g a = Hit may gift P T c zs p g a

  abbrev B : Node → Trace Point → ℕ → Trace Point → Type 0
  B g a q b = opened.WritesVariable (point_at T) may g a q gift b

  abbrev There : List Item → InlineState → Trace Point → Type 0
  There is spot a = IsThere may P T c zs H is spot a

  hit_of : (g h : Node) (a b : Trace Point) → ((q : ℕ) (d : Trace Point) → B g a q d → B h b q d) → H g a → H h b
  hit_of g h a b f x = hit_as may gift P T c zs p g h a b f x

  closed : IsClosed may T H
  closed = record {
    first = λ g h a x. hit_seq may gift P T c zs p g h a x;
    second = λ g h a m e x. hit_then may gift P T c zs p g h a m e x;
    on_true = λ q base b g h a m o x. hit_of g (choose q base b g h) m a (λ r d y. inl (m, o, y)) x;
    on_false = λ q base b g h a m o x. hit_of h (choose q base b g h) m a (λ r d y. inr (m, o, y)) x;
    caught = λ q j g a x. hit_of g (catch q j g) a a (λ r d y. y) x;
    in_round = λ q base b g a m o x. hit_of g (iterate q base b g) m a (λ r d y. (0, a, refl, m, o, y)) x;
    in_loop = λ q base b g h a m round x. hit_of (loop_node q base b g h) (loop_node q base b g h) m a
        (λ r d y. loop_gives (point_at T) may q base b g h gift a m r d round y) x;
    selected = λ q base e arms l a m found x. hit_of (row_behind l arms) (select q base e arms) m a
        (λ r d y. (l, m, found, row_gives (point_at T) may gift l arms m r d y)) x;
  }

  values_given : (spot : InlineState) (r : ℕ) (x : Receiver) (v : Rvalue) (g : Node) (q : ℕ) → InlineRvalue P T spot r x v g q → (u d : Trace Point)
      → RvalueOpIs (OpWrites gift d.state) P x v spot.frame.here u.state → d.events ≡ u.events → B g u spot.next d
  values_given _ _ _ _ _ _ (as_value {s = spot} {x = x} {e = v}) u d o z = (refl, o.0, (o.1, z))
  values_given _ _ _ _ _ _ (as_result {s = spot} {r = r} {x = x} {c = b} {g = g} {q = q'} c) u d o z = absurd (none-some gift o.2.0)

  declared_given : (spot : InlineState) (r : ℕ) (t : NumberType) (o : Option Rvalue) (g : Node) (q : ℕ) → InlineDeclarator P T spot r t o g q →
      (u d : Trace Point)
      → length u.state.store ≡ spot.live → DeclaratorOpIs (OpWrites gift d.state) P t o spot.frame.here u.state → d.events ≡ u.events → B g u spot.next d
  declared_given _ _ _ _ _ _ (as_fresh {s = spot} {t = t}) u d l o z = absurd o
  declared_given _ _ _ _ _ _ (as_given {s = spot} {r = r} {t = t} {e = b} {g = g} {q = q'} c) u d l (m, is, o) z =
      let o' = subst (λ n. RvalueOpIs (OpWrites gift d.state) P (variable_at n t) b spot.frame.here m) l o in
      inr (trail m u.events, (is, refl), values_given (move spot (suc spot.live) spot.next) r (variable_at spot.live t) b g q' c (trail m u.events) d o' z)

  -- an item with a point of its own: what is given is given after the point
  at_point : (spot : InlineState) (at : ℕ) (asserts : Bool) (i : Item) (g : Node) (k : List Item) (a : Trace Point) → IsSiteWith T spot at asserts
      → length a.state.store ≡ spot.live → label_on (i ∷ k) ≡ Some at
      → ((b d : Trace Point) → length b.state.store ≡ spot.live → TopGives gift d.state P (i ∷ k) spot.frame.here b.state → d.events ≡ b.events →
      B g b spot.next d)
      → There (i ∷ k) spot a → H (seq (point spot.next) g) a
  at_point spot at asserts i g k a has l lab top r = hit_there may gift P T c zs p spot at asserts (i ∷ k) a (seq (point spot.next) g) on has lab
      (λ b d m v e. inr (b, m, top b d (keeps a.state b.state m.0 ∙ l) v e)) r

  at_loop : (spot : InlineState) (r : ℕ) (s : Stmt) (g : Node) (q : ℕ) → InlineLoop P T spot r s g q → (k : List Item) (a : Trace Point)
      → length a.state.store ≡ spot.live → There (run s ∷ k) spot a → H g a
  at_loop _ _ _ _ _ (is_loop {s = spot} {at = at} {c = b} {a = s} {step = step} {g = g} {h = h} has d e) k a l t =
      hit_there may gift P T c zs p spot at false (run (loop at b s step) ∷ k) a (loop_node spot.next spot.frame.here.base b g h) on has refl
      (λ b d m v i. absurd (none-some gift (asked_only v).0)) t

  on_top : (spot : InlineState) (s : Stmt) (g : Node) (q : ℕ) → InlineStmt P T spot s g q → (k : List Item) (a : Trace Point) → Matches spot.frame k
      → length a.state.store ≡ spot.live → There (run s ∷ k) spot a → H g a
  on_top _ _ _ _ (as_nothing {s = spot} {at = at} i) k a m l t =
      hit_there may gift P T c zs p spot at false (run (nothing at) ∷ k) a (point spot.next) on i refl (λ u d' m v z. absurd (neither v)) t
  on_top _ _ _ _ (as_block {s = spot} {body = body} {end = end} d i) k a m l t =
      absurd (not_there c (config (run (block body end) ∷ k) spot.frame.here a.state) p on refl t.0)
  on_top _ _ _ _ (as_absent {s = spot}) k a m l t =
      absurd (not_there c (config (run (absent) ∷ k) spot.frame.here a.state) p on refl t.0)
  on_top _ _ _ _ (as_assign {s = spot} {at = at} {x = x} {e = v} {g = g} {q = q'} i d) k a m l t =
      at_point spot at false (run (assign at x v)) g k a i l refl
      (λ u d' long o z. values_given spot (suc spot.next) (variable_at (index_of spot.frame.here.base x.slot) x.number_type) v g q' d
      u d' (asked_only o) z) t
  on_top _ _ _ _ (as_write {s = spot} {at = at} {x = x} {e = v} i) k a m l t =
      at_point spot at false (run (write at x (value v))) (act spot.next (store_element spot.frame.here.base x v)) k a i l refl
      (λ u d' long v z. absurd (none-some gift (asked_only v).0)) t
  on_top _ _ _ _ (as_write_call {s = spot} {at = at} {x = x} {c = b} {g = g} i d) k a m l t =
      at_point spot at false (run (write at x (result b))) g k a i l refl
      (λ u d' long v z. absurd (none-some gift (asked_only v).2.0)) t
  on_top _ _ _ _ (as_call {s = spot} {at = at} {c = b} {g = g} i d) k a m l t =
      at_point spot at false (run (call at b)) g k a i l refl
      (λ u d' long v z. absurd (none-some gift (asked_only v).2.0)) t
  on_top _ _ _ _ (as_if {s = spot} {at = at} {c = b} {a = s} {b = s'} {g = g} {h = h} i d e) k a m l t =
      at_point spot at false (run (if at b s s')) (choose spot.next spot.frame.here.base b g h) k a i l refl
      (λ u d' long v z. absurd (none-some gift (asked_only v).0)) t
  on_top _ _ _ _ (as_loop {s = spot} {a = s} {g = g} {q = q} d) k a m l t =
      at_loop spot (suc spot.next) s g q d k a l t
  on_top _ _ _ _ (as_for {s = spot} {at = at} {init = init} {c = b} {a = s} {step = step} d e) k a m l t =
      absurd (not_there c (config (run (for at init b s step) ∷ k) spot.frame.here a.state) p on refl t.0)
  on_top _ _ _ _ (as_break {s = spot} {at = at} {m = b} i j has) k a m l t =
      at_point spot at false (run (break at)) (seq (act spot.next (truncate_to b)) (leave spot.live broken)) k a has l refl
      (λ u d' long v z. absurd (neither v)) t
  on_top _ _ _ _ (as_continue {s = spot} {at = at} {m = b} i j has) k a m l t =
      at_point spot at false (run (continue at)) (seq (act spot.next (truncate_to b)) (leave spot.live continued)) k a has l refl
      (λ u d' long v z. absurd (neither v)) t
  on_top _ _ _ _ (as_return {s = spot} {at = at} {b = b} i j has) k a m l t =
      at_point spot at false (run (return at None)) (return_node spot.next (havoc b.receiver) b.length spot.live) k a has l refl
      (λ u d' long v z. let o = subst (λ r. OpWrites gift d'.state (havoc r) u.state) (receiver_is P spot.frame k b i m) (any_only v) in
      inl (refl, o.0, (o.1, z))) t
  on_top _ _ _ _ (as_return_value {s = spot} {at = at} {e = v} {b = b} i j has) k a m l t =
      at_point spot at false (run (return at (Some (value v))))
      (return_node spot.next (store_value spot.frame.here.base b.receiver v) b.length spot.live) k a has l refl
      (λ u d' long o z. let g' = subst (λ r. OpWrites gift d'.state (store_value spot.frame.here.base r v) u.state) (receiver_is P spot.frame k b i m)
      (asked_only o) in
      inl (refl, g'.0, (g'.1, z))) t
  on_top _ _ _ _ (as_return_call {s = spot} {at = at} {c = v} {b = b} {g = g} i j has d) k a m l t =
      at_point spot at false (run (return at (Some (result v)))) (seq g (seq (act spot.next (truncate_to b.length)) (leave spot.live returned))) k a has l refl
      (λ u d' long v z. absurd (none-some gift (asked_only v).2.0)) t
  on_top _ _ _ _ (as_end {s = spot} {at = at} i has) k a m l t =
      at_point spot at false (run (return at None)) (leave spot.live returned) k a has l refl
      (λ u d' long v z. absurd (none-some gift (subst (λ o. OpWrites gift d'.state (havoc (receiver_of P o)) u.state)
      (no_mark spot.frame k i m) (any_only v)).0)) t
  on_top _ _ _ _ (as_end_value {s = spot} {at = at} {e = v} i has) k a m l t =
      at_point spot at false (run (return at (Some (value v))))
      (seq (act spot.next (store_value spot.frame.here.base (main_receiver P) v)) (leave spot.live returned)) k a has l refl
      (λ u d' long z o. absurd
      (none-some gift (subst (λ r. OpWrites gift d'.state (store_value spot.frame.here.base (receiver_of P r) v) u.state) (no_mark spot.frame k i m)
      (asked_only z)).0)) t
  on_top _ _ _ _ (as_end_call {s = spot} {at = at} {c = v} {g = g} i has d) k a m l t =
      at_point spot at false (run (return at (Some (result v)))) (seq g (leave spot.live returned)) k a has l refl
      (λ u d' long v z. absurd (none-some gift (asked_only v).2.0)) t
  on_top _ _ _ _ (as_assert {s = spot} {at = at} {c = b} i) k a m l t =
      at_point spot at true (run (assert at b)) (check spot.next spot.frame.here.base b) k a i l refl
      (λ u d' long v z. absurd (none-some gift (asked_only v).0)) t
  on_top _ _ _ _ (as_assume {s = spot} {at = at} {c = b} i) k a m l t =
      at_point spot at false (run (assume at b)) (act spot.next (test spot.frame.here.base b true)) k a i l refl
      (λ u d' long v z. absurd (none-some gift (asked_only v).0)) t
  on_top _ _ _ _ (as_switch {s = spot} {at = at} {e = v} {cs = cs} {arms = arms} i d) k a m l t =
      at_point spot at false (run (switch at v cs)) (switch_node spot.next spot.frame.here.base v arms) k a i l refl
      (λ u d' long v z. absurd (none-some gift (asked_only v).0)) t

  -- what the step gives is sought
  pub gifts : IsSought may P T c zs H
  gifts = record {
    closed = closed;
    one = on_top;
    loops = at_loop;
    declared = λ spot d g q has x k a l t. at_point spot d.label false (declare d) g k a has l refl
        (λ u d' long v z. declared_given spot (suc spot.next) d.number_type d.rvalue g q x u d' long (asked_only v) z) t;
    filled = λ spot at z has k a l t. at_point spot at false (declare_array at z) (act spot.next (fill z)) k a has l refl
        (λ u d' long v i. absurd (neither v)) t;
    block_end = λ spot n at has k a bare l t. at_point spot at false (end_of at n) (act spot.next (truncate_to n)) k a has l refl
        (λ u d' long v z. absurd (no_end gift d'.state n k u.state bare v)) t;
    call_end = λ spot n h x end params has k a l t. hit_there may gift P T c zs p spot end false
        (end_of end (n + params) ∷ return_frame (record { receiver = x; here = h; length = n }) ∷ k) a (tail_node spot.next n x params) on has refl
        (λ b d m v i. tail_gives (point_at T) may spot.next n params gift x a b d m v i) t;
    main_end = λ spot n at has a l t. hit_there may gift P T c zs p spot at false (end_of at n ∷ []) a (point spot.next) on has refl
        (λ b d m v i. absurd v) t;
  }
