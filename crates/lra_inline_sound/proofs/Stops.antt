-- What is sought of a tree where a program stands at a point: the tree comes there, fails there, and asks there.
use Rattle.std.proofs.Common.{◌≡◌, ◌≢◌, ℕ, suc, ◌+◌, List, [], ◌∷◌, length, Option, Some, None, Bool, true, false, inl, inr, refl, sym, ap, ◌∙◌, subst, slice_get}
use Rattle.std.proofs.lemmas.Option.{same_Some}
use Rattle.lra_inline_sound.specs.Crates.lra_program.Program.{value, result, Stmt, absent, nothing, block, assign, write, call, if, loop, for, break, continue, return, assert, assume, switch, Program}
use Rattle.lra_inline_sound.specs.Crates.lra_program.Step.{State, fill, store_value, havoc, store_element, truncate_to, test, Item, run, declare, declare_array, end_of, return_frame, Config}
use Rattle.lra_inline_sound.specs.Crates.lra_program.Step.{main_receiver, receiver_of}
use Rattle.lra_inline_sound.specs.Crates.{lra_base.declared.number_types.NumberType.NumberType, lra_program.NextOperation.NextOpIs, lra_program.Run.label_on, lra_program.Run.Point}
use Rattle.lra_inline_sound.specs.Crates.{lra_program.Run.IsFailing, lra_program.Sites.Site, lra_program.Traces.TraceEvent, lra_program.Traces.visit, lra_program.Traces.Trace}
use Rattle.lra_operations.specs.Inlined.{InlineState, IsSiteWith, InlineStmt, InlineLoop, as_nothing, as_block, as_absent, as_assign, as_call, as_if, as_loop, as_for, as_break, as_continue, as_return}
use Rattle.lra_operations.specs.Inlined.{as_return_value, as_return_call, as_end, as_end_value, as_end_call, as_assert, as_assume, as_switch, as_write, as_write_call, is_loop, loop_node, return_node}
use Rattle.lra_operations.specs.Traces.{Stop, by_jump, to_point, to_failure, RunExtent, to_end, stopped, RunsUpTo, VisitsPoint}
use Rattle.lra_operations.specs.Tree.{Exit, broken, continued, returned, Node, point, act, check, seq, choose, catch, iterate, leave, select}
use Rattle.lra_operations.specs.{Inlined.switch_node, TracesAgree.point_at}
use Rattle.lra_operations.proofs.ArmRows.{row_behind, behind_of_row}
use Rattle.lra_inline_sound.proofs.NextOperations.{Question, Asks, AsksAs, all_in, asks_front, asks_own, asks_calls, asks_given, asks_declared, asks_first, asks_second, asks_true, asks_false}
use Rattle.lra_inline_sound.proofs.NextOperations.{asks_round, asks_caught, asks_condition, asks_loop, asks_selected, asks_value}
use Rattle.lra_inline_sound.proofs.Split.{trail, named, not_there, receiver_is, no_mark, IsClosed, IsThere, IsSought}
use Rattle.lra_inline_sound.proofs.{Landing.config, Landing.Matches, Shapes.loop_at, Shapes.loop_first, Shapes.loop_join, Shapes.tail_node}

module _ (may : State → State → Type 0) (Q : Question) (P : Program) (T : List Site) where
  -- what the tree has to show when the program stands at the point of this number
  abbrev pub Shows : (c : Config) (zs : List (TraceEvent Point)) (p number : ℕ) → Stop → Trace Point → Type 0
  Shows c zs p number (by_jump j) b = ⊥
  Shows c zs p number (to_point q) b = (q ≡ number) × (b ≡ trail c.state zs)
  Shows c zs p number (to_failure q) b = (q ≡ number) × may c.state b.state × IsFailing c.items c.here b.state
      × (b.events ≡ visit (record { path = c.here.path; label = p }) c.state ∷ zs)

  -- the tree reaches a point of the configuration's path, with this label, and its state and trace; it fails there,
  -- where the configuration does, and asks there what stops by a number
  pub record Hit (c : Config) (zs : List (TraceEvent Point)) (p : ℕ) (g : Node) (a : Trace Point) : Type 0 where
    pub number : ℕ
    pub asserts : Bool
    pub site : slice_get T number ≡ Some (record { path = c.here.path; label = p; live = length c.state.store; asserts = asserts })
    pub leads : (z : Stop) (b : Trace Point) → Shows c zs p number z b → RunsUpTo (point_at T) may g a (stopped z) b
    pub asks : (fresh : Option NumberType) → NextOpIs Q.holds P c.items c.here c.state → Asks Q (all_in Q fresh g) number c.state

  no_jump : (c : Config) (zs : List (TraceEvent Point)) (p number : ℕ) (z : Stop) (b : Trace Point) → Shows c zs p number z b → (j : Exit) → z ≢ by_jump j
  no_jump c zs p number (by_jump k) b x j e = x
  no_jump c zs p number (to_point q) b x j e = cc
  no_jump c zs p number (to_failure q) b x j e = cc

  -- what is so of all that reaches a point is so of the whole
  pub hit_as : (c : Config) (zs : List (TraceEvent Point)) (p : ℕ) (g h : Node) (a b : Trace Point)
      → ((z : Stop) (d : Trace Point) → ((j : Exit) → z ≢ by_jump j) → RunsUpTo (point_at T) may g a (stopped z) d →
      RunsUpTo (point_at T) may h b (stopped z) d)
      →
      AsksAs Q g h → Hit c zs p g a → Hit c zs p h b
  hit_as c zs p g h a b f asked x = record {
    number = x.number;
    asserts = x.asserts;
    site = x.site;
    leads = λ z d shows. f z d (no_jump c zs p x.number z d shows) (x.leads z d shows);
    asks = λ fresh over. asked fresh x.number c.state (λ before. x.asks before over);
  }

  pub hit_there : (c : Config) (zs : List (TraceEvent Point)) (p : ℕ) (spot : InlineState) (at : ℕ) (asserts : Bool) (is : List Item) (a : Trace Point)
      (g : Node)
      → label_on c.items ≡ Some p
      → IsSiteWith T spot at asserts → length a.state.store ≡ spot.live → label_on is ≡ Some at → RunsUpTo (point_at T) may g a (stopped (to_point spot.next)) a
      → ((b : Trace Point) → VisitsPoint (point_at T) may spot.next a b → IsFailing is spot.frame.here b.state
      → RunsUpTo (point_at T) may g a (stopped (to_failure spot.next)) b)
      → (NextOpIs Q.holds P is spot.frame.here a.state → (fresh : Option NumberType) → Asks Q (all_in Q fresh g) spot.next a.state)
      → (config is spot.frame.here a.state ≡ c) × (a.events ≡ zs) → Hit c zs p g a
  hit_there c zs p spot at asserts is a g on has l lab x y asked (e, f) = subst (λ ys. Hit c ys p g a) f
      (subst (λ (d : Config). label_on d.items ≡ Some p → Hit d a.events p g a) e (λ o. record {
        number = spot.next;
        asserts = asserts;
        site = rw (l, ← same_Some _ _ (sym lab ∙ o)) has;
        leads = shown (same_Some _ _ (sym lab ∙ o));
        asks = λ fresh over. asked over fresh;
      }) on)
    where
      shown : at ≡ p → (z : Stop) (b : Trace Point) → Shows (config is spot.frame.here a.state) a.events p spot.next z b
          → RunsUpTo (point_at T) may g a (stopped z) b
      shown o (by_jump j) b v = absurd v
      shown o (to_point q) b (i, j) = rw (i, j) x
      shown o (to_failure q) b (i, m, v, j) =
          let same : visit (record { path = spot.frame.here.path; label = p }) a.state ≡ visit (point_at T spot.next) a.state =
          ap (λ l. let r : Point = record { path = spot.frame.here.path; label = l } in visit r a.state) (sym o) ∙
          ap (λ r. visit r a.state) (sym (named T spot at asserts has)) in
          rw i (y b (m, j ∙ ap (λ w. w ∷ a.events) same) v)

  pub hit_seq : (c : Config) (zs : List (TraceEvent Point)) (p : ℕ) (g h : Node) (a : Trace Point) → Hit c zs p g a → Hit c zs p (seq g h) a
  hit_seq c zs p g h a x = hit_as c zs p g (seq g h) a a (λ z d n y. inl y) (asks_first Q g h) x

  pub hit_then : (c : Config) (zs : List (TraceEvent Point)) (p : ℕ) (g h : Node) (a m : Trace Point) → RunsUpTo (point_at T) may g a to_end m → Hit c zs p h m
      → Hit c zs p (seq g h) a
  hit_then c zs p g h a m e x = hit_as c zs p h (seq g h) m a (λ z d n y. inr (m, e, y)) (asks_second Q g h) x

module _ (may : State → State → Type 0) (Q : Question) (P : Program) (T : List Site) (c : Config) (zs : List (TraceEvent Point)) (p : ℕ)
    (on : label_on c.items ≡ Some p) where
  abbrev G : Node → Trace Point → RunExtent → Trace Point → Type 0
  G = RunsUpTo (point_at T) may

  abbrev H : Node → Trace Point → Type 0
  H g a = Hit may Q P T c zs p g a

  abbrev There : List Item → InlineState → Trace Point → Type 0
  There is spot a = IsThere may P T c zs H is spot a

  hit_of : (g h : Node) (a b : Trace Point) → ((z : Stop) (d : Trace Point) → ((j : Exit) → z ≢ by_jump j) → G g a (stopped z) d → G h b (stopped z) d)
      → AsksAs Q g h → H g a → H h b
  hit_of g h a b f asked x = hit_as may Q P T c zs p g h a b f asked x

  closed : IsClosed may T H
  closed = record {
    first = λ g h a x. hit_seq may Q P T c zs p g h a x;
    second = λ g h a m e x. hit_then may Q P T c zs p g h a m e x;
    on_true = λ q base b g h a m o x. hit_of g (choose q base b g h) m a (λ z d n y. inl (m, o, y)) (asks_true Q q base b g h) x;
    on_false = λ q base b g h a m o x. hit_of h (choose q base b g h) m a (λ z d n y. inr (m, o, y)) (asks_false Q q base b g h) x;
    caught = λ q j g a x. hit_of g (catch q j g) a a (λ z d n y. (n j, y)) (asks_caught Q q j g) x;
    in_round = λ q base b g a m o x. hit_of g (iterate q base b g) m a (λ z d n y. (0, a, refl, inr (m, o, y))) (asks_round Q q base b g) x;
    in_loop = λ q base b g h a m r x. hit_of (loop_node q base b g h) (loop_node q base b g h) m a
        (λ z d n y. loop_first (point_at T) may q base b g h a m (stopped z) d r y) (λ fresh r s y. y fresh) x;
    selected = λ q base e arms l a m found x. hit_of (row_behind l arms) (select q base e arms) m a
        (λ z d n y. (l, m, found, behind_of_row (point_at T) may l arms m (stopped z) d y)) (asks_selected Q q base e arms l) x;
  }

  -- an item with a point of its own, which fails where the tree after the point does, and stops by a number where that
  -- asks
  at_point : (spot : InlineState) (at : ℕ) (asserts : Bool) (i : Item) (g : Node) (k : List Item) (a : Trace Point) → IsSiteWith T spot at asserts
      → length a.state.store ≡ spot.live → label_on (i ∷ k) ≡ Some at
      → ((b : Trace Point) → IsFailing (i ∷ k) spot.frame.here b.state → G g b (stopped (to_failure spot.next)) b)
      → (NextOpIs Q.holds P (i ∷ k) spot.frame.here a.state → Asks Q (all_in Q None g) spot.next a.state)
      → There (i ∷ k) spot a → H (seq (point spot.next) g) a
  at_point spot at asserts i g k a has l lab fails asked r = hit_there may Q P T c zs p spot at asserts (i ∷ k) a (seq (point spot.next) g) on has l lab
      (inl (refl, refl)) (λ b m v. inr (b, m, fails b v)) (λ over fresh. asked over) r

  at_loop : (spot : InlineState) (r : ℕ) (s : Stmt) (g : Node) (q : ℕ) → InlineLoop P T spot r s g q → (k : List Item) (a : Trace Point)
      → length a.state.store ≡ spot.live → There (run s ∷ k) spot a → H g a
  at_loop _ _ _ _ _ (is_loop {s = spot} {at = at} {c = b} {a = s} {step = step} {g = g} {h = h} has d e) k a l t =
      hit_there may Q P T c zs p spot at false (run (loop at b s step) ∷ k) a (loop_node spot.next spot.frame.here.base b g h) on has l refl
      (loop_join (point_at T) may spot.next spot.frame.here.base b g h a 0 a _ a refl (loop_at refl))
      (λ b m v. absurd v)
      (λ over fresh. asks_loop Q spot.next spot.frame.here.base b g h fresh a.state over) t

  on_top : (spot : InlineState) (s : Stmt) (g : Node) (q : ℕ) → InlineStmt P T spot s g q → (k : List Item) (a : Trace Point) → Matches spot.frame k
      → length a.state.store ≡ spot.live → There (run s ∷ k) spot a → H g a
  on_top _ _ _ _ (as_nothing {s = spot} {at = at} i) k a m l t =
      hit_there may Q P T c zs p spot at false (run (nothing at) ∷ k) a (point spot.next) on i l refl (refl, refl)
      (λ b m v. absurd v) (λ over fresh. absurd over) t
  on_top _ _ _ _ (as_block {s = spot} {body = body} {end = end} d i) k a m l t =
      absurd (not_there c (config (run (block body end) ∷ k) spot.frame.here a.state) p on refl t.0)
  on_top _ _ _ _ (as_absent {s = spot}) k a m l t =
      absurd (not_there c (config (run absent ∷ k) spot.frame.here a.state) p on refl t.0)
  on_top _ _ _ _ (as_assign {s = spot} {at = at} {x = x} {e = v} {g = g} i d) k a m l t =
      at_point spot at false (run (assign at x v)) g k a i l refl (λ b v. absurd v) (asks_given Q d a.state) t
  on_top _ _ _ _ (as_write {s = spot} {at = at} {x = x} {e = v} i) k a m l t =
      at_point spot at false (run (write at x (value v)))
      (act spot.next (store_element spot.frame.here.base x v)) k a i l refl (λ b z. absurd z)
      (asks_own Q spot.next (store_element spot.frame.here.base x v) a.state) t
  on_top _ _ _ _ (as_write_call {s = spot} {at = at} {x = x} {c = b} {g = g} i d) k a m l t =
      at_point spot at false (run (write at x (result b))) g k a i l refl (λ b z. absurd z)
      (λ over. asks_calls Q d None a.state a.state (λ op o. o) over) t
  on_top _ _ _ _ (as_call {s = spot} {at = at} {c = b} {g = g} i d) k a m l t =
      at_point spot at false (run (call at b)) g k a i l refl (λ b v. absurd v) (asks_given Q d a.state) t
  on_top _ _ _ _ (as_if {s = spot} {at = at} {c = b} {a = s} {b = s'} {g = g} {h = h} i d e) k a m l t =
      at_point spot at false (run (if at b s s'))
      (choose spot.next spot.frame.here.base b g h) k a i l refl (λ b v. absurd v) (asks_condition Q spot.next spot.frame.here.base b g h a.state) t
  on_top _ _ _ _ (as_loop {s = spot} {a = s} {g = g} {q = q} d) k a m l t =
      at_loop spot (suc spot.next) s g q d k a l t
  on_top _ _ _ _ (as_for {s = spot} {at = at} {init = init} {c = b} {a = s} {step = step} d e) k a m l t =
      absurd
      (not_there c (config (run (for at init b s step) ∷ k) spot.frame.here a.state) p on refl t.0)
  on_top _ _ _ _ (as_break {s = spot} {at = at} {m = b} i j has) k a m l t =
      at_point spot at false (run (break at)) (seq (act spot.next (truncate_to b)) (leave spot.live broken)) k a has l refl
      (λ b v. absurd v) (λ over. absurd over) t
  on_top _ _ _ _ (as_continue {s = spot} {at = at} {m = b} i j has) k a m l t =
      at_point spot at false (run (continue at)) (seq (act spot.next (truncate_to b)) (leave spot.live continued)) k a
      has l refl (λ b v. absurd v) (λ over. absurd over) t
  on_top _ _ _ _ (as_return {s = spot} {at = at} {b = b} i j has) k a m l t =
      at_point spot at false (run (return at None))
      (return_node spot.next (havoc b.receiver) b.length spot.live) k a has l refl (λ b v. absurd v) (λ over. absurd over) t
  on_top _ _ _ _ (as_return_value {s = spot} {at = at} {e = v} {b = b} i j has) k a m l t =
      at_point spot at false (run (return at (Some (value v))))
      (return_node spot.next (store_value spot.frame.here.base b.receiver v) b.length spot.live) k a has l refl (λ b v. absurd v)
      (λ over. asks_front Q (act spot.next (store_value spot.frame.here.base b.receiver v))
      (seq (act spot.next (truncate_to b.length)) (leave spot.live returned)) spot.next
      a.state (asks_own Q spot.next (store_value spot.frame.here.base b.receiver v) a.state
      (subst (λ x. Q.holds (store_value spot.frame.here.base x v) a.state) (receiver_is P spot.frame k b i m) over))) t
  on_top _ _ _ _ (as_return_call {s = spot} {at = at} {c = v} {b = b} {g = g} i j has d) k a m l t =
      at_point spot at false (run (return at (Some (result v))))
      (seq g (seq (act spot.next (truncate_to b.length)) (leave spot.live returned))) k a has l refl (λ b v. absurd v)
      (λ over. asks_front Q g (seq (act spot.next (truncate_to b.length)) (leave spot.live returned)) spot.next a.state (asks_given Q d a.state over)) t
  on_top _ _ _ _ (as_end {s = spot} {at = at} i has) k a m l t =
      at_point spot at false (run (return at None)) (leave spot.live returned) k a has l refl (λ b v. absurd v)
      (λ over. absurd over) t
  on_top _ _ _ _ (as_end_value {s = spot} {at = at} {e = v} i has) k a m l t =
      at_point spot at false (run (return at (Some (value v))))
      (seq (act spot.next (store_value spot.frame.here.base (main_receiver P) v)) (leave spot.live returned)) k a has l refl (λ b v. absurd v)
      (λ over. asks_front Q (act spot.next (store_value spot.frame.here.base (main_receiver P) v)) (leave spot.live returned) spot.next a.state
      (asks_own Q spot.next (store_value spot.frame.here.base (main_receiver P) v) a.state
      (subst (λ o. Q.holds (store_value spot.frame.here.base (receiver_of P o) v) a.state) (no_mark spot.frame k i m) over))) t
  on_top _ _ _ _ (as_end_call {s = spot} {at = at} {c = v} {g = g} i has d) k a m l t =
      at_point spot at false (run (return at (Some (result v)))) (seq g (leave spot.live returned)) k a has l refl
      (λ b v. absurd v) (λ over. asks_front Q g (leave spot.live returned) spot.next a.state (asks_given Q d a.state over)) t
  on_top _ _ _ _ (as_assert {s = spot} {at = at} {c = b} i) k a m l t =
      at_point spot at true (run (assert at b)) (check spot.next spot.frame.here.base b) k a i l refl
      (λ u v. (refl, refl, v.0, v.1)) (asks_own Q spot.next (test spot.frame.here.base b true) a.state) t
  on_top _ _ _ _ (as_assume {s = spot} {at = at} {c = b} i) k a m l t =
      at_point spot at false (run (assume at b)) (act spot.next (test spot.frame.here.base b true)) k a i l refl
      (λ b v. absurd v) (asks_own Q spot.next (test spot.frame.here.base b true) a.state) t
  on_top _ _ _ _ (as_switch {s = spot} {at = at} {e = v} {cs = cs} {arms = arms} i d) k a m l t =
      at_point spot at false (run (switch at v cs))
      (switch_node spot.next spot.frame.here.base v arms) k a i l refl (λ b z. absurd z)
      (asks_value Q spot.next spot.frame.here.base v arms a.state) t

  -- what a run may be stopped for is sought
  pub stops : IsSought may P T c zs H
  stops = record {
    closed = closed;
    one = on_top;
    loops = at_loop;
    declared = λ spot d g q has x k a l t. at_point spot d.label false (declare d) g k a has l refl (λ b v. absurd v) (asks_declared Q x a.state l) t;
    filled = λ spot at z has k a l t. at_point spot at false (declare_array at z) (act spot.next (fill z)) k a has l refl (λ b v. absurd v)
        (λ over. absurd over) t;
    block_end = λ spot n at has k a bare l t. at_point spot at false (end_of at n) (act spot.next (truncate_to n)) k a has l refl (λ b v. absurd v)
        (λ over. absurd over) t;
    call_end = λ spot n h x end params has k a l t. hit_there may Q P T c zs p spot end false
        (end_of end (n + params) ∷ return_frame (record { receiver = x; here = h; length = n }) ∷ k) a (tail_node spot.next n x params) on has l refl
        (inl (refl, refl)) (λ b m v. absurd v) (λ over fresh. absurd over) t;
    main_end = λ spot n at has a l t. hit_there may Q P T c zs p spot at false (end_of at n ∷ []) a (point spot.next) on has l refl (refl, refl)
        (λ b m v. absurd v) (λ over fresh. absurd over) t;
  }
