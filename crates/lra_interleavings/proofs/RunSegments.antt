-- From one point to the next: what is met, what is given on the way, and that a run among others goes the same way.
use Rattle.std.proofs.Common.{◌≡◌, ℕ, zero, suc, ℤ, ◌≤◌, ◌<◌, List, [], ◌∷◌, ◌++◌, length, take, Option, Some, None, inl, inr, refl, sym, ap, ◌∙◌, subst, arith}
use Rattle.std.proofs.{lemmas.List.length-set, lemmas.List.set-append_left, lemmas.Option.none-some, lemmas.Option.same_Some}
use Rattle.std.specs.Prelude.{slice_get}
use Rattle.lra_program.specs.Program.{Program, Stmt, absent, nothing, block, assign, write, call, if, loop, for, break, continue, return, assert, assume, switch, no_cases, labelled, stated, no_more}
use Rattle.lra_program.specs.Step.{State, CallContext, Item, run, declare, declare_array, all, end_of, next_round, cases, end_switch, end_for, return_frame, leave_call, Config, ReturnTarget}
use Rattle.lra_program.specs.Traces.{TraceEvent, visit, Trace, NoChange, with_visit, Becomes, TracedSteps}
use Rattle.lra_program.specs.{Program.declaration, Program.array, Program.statement, Run.start, Run.label_on, Run.Point, Step.return_target, Step.do_leave, Step.go, Step.next_at, Step.next}
use Rattle.lra_program.proofs.TraceLaws.{becomes_same, walk_on}
use Rattle.lra_interleavings.specs.{Interleavings.LeadsOn, ThreadModular.WritesThere, ThreadModular.RepeatedWrites, ThreadModular.none, ThreadModular.more, Writes.StepWrites}
use Rattle.lra_interleavings.proofs.MachineSteps.{IsDeep, ChangesOne, step_leaves}

-- changes ------------------------------------------------------------------------------------------------------------

module _ (n : ℕ) (Gets : ℕ → ℤ → Type 0) where
  pub changes_on : (a b c : List ℤ) → RepeatedWrites n Gets a b → RepeatedWrites n Gets b c → RepeatedWrites n Gets a c
  changes_on a b c first (none s) = first
  changes_on a b c first (more s t x z rest h g) = more a t x z (changes_on a b t first rest) h g

  pub changes_width : (a b : List ℤ) → RepeatedWrites n Gets a b → length b ≡ length a
  changes_width a b (none s) = refl
  changes_width a b (more s t x z rest h g) = length-set t x z ∙ changes_width s t rest

  -- what comes after the first variables stays
  pub changes_before : (v a b : List ℤ) → n ≤ length a → RepeatedWrites n Gets a b → RepeatedWrites n Gets (a ++ v) (b ++ v)
  changes_before v a b l (none s) = none (s ++ v)
  changes_before v a b l (more s t x z rest h g) =
      let width = changes_width s t rest in
      let fits : x < length t = omega (arith, h, l, width) in
      subst (λ (c : List ℤ). RepeatedWrites n Gets (s ++ v) c) (set-append_left t v x z fits) (more (s ++ v) (t ++ v) x z (changes_before v s t l rest) h g)

pub changes_for : (n : ℕ) (F G : ℕ → ℤ → Type 0) (a b : List ℤ) → ((x : ℕ) (z : ℤ) → F x z → G x z) → RepeatedWrites n F a b → RepeatedWrites n G a b
changes_for n F G a b f (none s) = none s
changes_for n F G a b f (more s t x z rest h g) = more s t x z (changes_for n F G s t f rest) h (f x z g)

-- walks past no point ------------------------------------------------------------------------------------------------

module _ (P : Program) where
  abbrev pub Quiet : ℕ → Config → Config → Type 0
  Quiet zero c d = c ≡ d
  Quiet (suc n) c d = (label_on c.items ≡ None) × (e : Config) × (next P c ≡ Some e) × Quiet n e d

  met_more : (o : Option ℕ) (path : List ℕ) (s : State) (xs : List (TraceEvent Point)) → length xs ≤ length (with_visit o path s xs)
  met_more None path s xs = omega arith
  met_more (Some label) path s xs = omega arith

  pub met_grows : (n : ℕ) (c d : Config) (xs ys : List (TraceEvent Point)) → TracedSteps NoChange P n c xs d ys → length xs ≤ length ys
  met_grows zero c d xs ys (e, f) = rw f (omega arith)
  met_grows (suc n) c d xs ys (s, e, b, x, w) =
      let first = met_more (label_on c.items) c.here.path c.state xs in
      let rest = met_grows n e d (with_visit (label_on c.items) c.here.path c.state xs) ys w in
      omega (arith, first, rest)

  met_none : (o : Option ℕ) (path : List ℕ) (s : State) (xs : List (TraceEvent Point)) (n : ℕ) → length (with_visit o path s xs) ≤ n → n ≤ length xs → o ≡ None
  met_none None path s xs n h l = refl
  met_none (Some label) path s xs n h l = absurd (omega (arith, h, l))

  pub quiet_of : (n : ℕ) (c d : Config) (xs ys : List (TraceEvent Point)) → TracedSteps NoChange P n c xs d ys → length ys ≤ length xs → Quiet n c d
  quiet_of zero c d xs ys (e, f) l = e
  quiet_of (suc n) c d xs ys (s, e, b, x, w) l =
      let grows = met_grows n e d (with_visit (label_on c.items) c.here.path c.state xs) ys w in
      let silent = met_none (label_on c.items) c.here.path c.state xs (length ys) grows l in
      let few : length ys ≤ length (with_visit (label_on c.items) c.here.path c.state xs) = rw silent l in (
        silent,
        e,
        subst (λ (t : State). next_at P c.items c.here t ≡ Some e) (becomes_same (label_on c.items) c.state s b) x,
        quiet_of n e d (with_visit (label_on c.items) c.here.path c.state xs) ys w few,
      )

  -- such a walk is one wherever others act at points
  pub quiet_walk : (may : State → State → Type 0) (n : ℕ) (c d : Config) (xs : List (TraceEvent Point)) → Quiet n c d → TracedSteps may P n c xs d xs
  quiet_walk may zero c d xs q = (q, refl)
  quiet_walk may (suc n) c d xs (silent, e, x, q) = (
    c.state,
    e,
    subst (λ o. Becomes may o c.state c.state) (sym silent) refl,
    x,
    subst (λ o. TracedSteps may P n e (with_visit o c.here.path c.state xs) d xs) (sym silent) (quiet_walk may n e d xs q),
  )

  -- before the first point nothing is given ---------------------------------------------------------------------------

  labels : (at : ℕ) (o : Option ℕ) → Some at ≡ o → o ≡ None → ⊥
  labels at o e f = none-some at (sym f ∙ sym e)

  no_statement : (x : ℕ) (t : State) (a : Stmt) (k : List Item) (h : CallContext) (s : State) → label_on (run a ∷ k) ≡ None → StepWrites x t P (run a ∷ k) h s →
      ⊥
  no_statement x t absent k h s e (inl g) = absurd g
  no_statement x t absent k h s e (inr g) = absurd g
  no_statement x t (nothing at) k h s e g = labels at (Some at) refl e
  no_statement x t (block body end) k h s e (inl g) = absurd g
  no_statement x t (block body end) k h s e (inr g) = absurd g
  no_statement x t (assign at y v) k h s e g = labels at (Some at) refl e
  no_statement x t (write at y v) k h s e g = labels at (Some at) refl e
  no_statement x t (call at q) k h s e g = labels at (Some at) refl e
  no_statement x t (if at q a b) k h s e g = labels at (Some at) refl e
  no_statement x t (loop at q a step) k h s e g = labels at (Some at) refl e
  no_statement x t (for at init q a step) k h s e (inl g) = absurd g
  no_statement x t (for at init q a step) k h s e (inr g) = absurd g
  no_statement x t (break at) k h s e g = labels at (Some at) refl e
  no_statement x t (continue at) k h s e g = labels at (Some at) refl e
  no_statement x t (return at v) k h s e g = labels at (Some at) refl e
  no_statement x t (assert at q) k h s e g = labels at (Some at) refl e
  no_statement x t (assume at q) k h s e g = labels at (Some at) refl e
  no_statement x t (switch at v cs) k h s e g = labels at (Some at) refl e

  no_gift : (x : ℕ) (t : State) (k : List Item) (h : CallContext) (s : State) → label_on k ≡ None → return_target k ≡ None → StepWrites x t P k h s → ⊥
  no_gift x t [] h s e m (inl g) = g
  no_gift x t [] h s e m (inr g) = g
  no_gift x t (run a ∷ k) h s e m g = no_statement x t a k h s e g
  no_gift x t (declare a ∷ k) h s e m g = labels a.label (Some a.label) refl e
  no_gift x t (declare_array at a ∷ k) h s e m g = labels at (Some at) refl e
  no_gift x t (all a ∷ k) h s e m (inl g) = g
  no_gift x t (all a ∷ k) h s e m (inr g) = g
  no_gift x t (end_of at n ∷ k) h s e m g = labels at (Some at) refl e
  no_gift x t (next_round step again n ∷ k) h s e m (inl g) = g
  no_gift x t (next_round step again n ∷ k) h s e m (inr g) = g
  no_gift x t (cases cs ∷ k) h s e m (inl g) = g
  no_gift x t (cases cs ∷ k) h s e m (inr g) = g
  no_gift x t (end_switch n ∷ k) h s e m (inl g) = g
  no_gift x t (end_switch n ∷ k) h s e m (inr g) = g
  no_gift x t (end_for n ∷ k) h s e m (inl g) = g
  no_gift x t (end_for n ∷ k) h s e m (inr g) = g
  no_gift x t (return_frame b ∷ k) h s e m g = none-some _ (sym m)
  no_gift x t (leave_call ∷ k) h s e m (inl g) = g
  no_gift x t (leave_call ∷ k) h s e m (inr g) = g

  unmarked : (k : List Item) (h : CallContext) (s : State) (e : Config) → return_target k ≡ None → go k h (Some s) ≡ Some e → return_target e.items ≡ None
  unmarked k h s e m i = subst (λ (d : Config). return_target d.items ≡ None) (same_Some (record { items = k; here = h; state = s }) e i) m

  unmarked_statement : (a : Stmt) (k : List Item) (h : CallContext) (s : State) (e : Config) → label_on (run a ∷ k) ≡ None → return_target k ≡ None
      → next_at P (run a ∷ k) h s ≡ Some e → return_target e.items ≡ None
  unmarked_statement absent k h s e l m i = unmarked k h s e m i
  unmarked_statement (nothing at) k h s e l m i = absurd (labels at (Some at) refl l)
  unmarked_statement (block body end) k h s e l m i = unmarked (all body ∷ end_of end (length s.store) ∷ k) h s e m i
  unmarked_statement (assign at y v) k h s e l m i = absurd (labels at (Some at) refl l)
  unmarked_statement (write at y v) k h s e l m i = absurd (labels at (Some at) refl l)
  unmarked_statement (call at q) k h s e l m i = absurd (labels at (Some at) refl l)
  unmarked_statement (if at q a b) k h s e l m i = absurd (labels at (Some at) refl l)
  unmarked_statement (loop at q a step) k h s e l m i = absurd (labels at (Some at) refl l)
  unmarked_statement (for at init q a step) k h s e l m i = unmarked (all init ∷ run (loop at q a step) ∷ end_for (length s.store) ∷ k) h s e m i
  unmarked_statement (break at) k h s e l m i = absurd (labels at (Some at) refl l)
  unmarked_statement (continue at) k h s e l m i = absurd (labels at (Some at) refl l)
  unmarked_statement (return at v) k h s e l m i = absurd (labels at (Some at) refl l)
  unmarked_statement (assert at q) k h s e l m i = absurd (labels at (Some at) refl l)
  unmarked_statement (assume at q) k h s e l m i = absurd (labels at (Some at) refl l)
  unmarked_statement (switch at v cs) k h s e l m i = absurd (labels at (Some at) refl l)

  not_left : (o : Option ReturnTarget) (s : State) (e : Config) → o ≡ None → do_leave o (Some s) ≡ Some e → ⊥
  not_left None s e m i = none-some e i
  not_left (Some b) s e m i = none-some b (sym m)

  unmarked_step : (k : List Item) (h : CallContext) (s : State) (e : Config) → label_on k ≡ None → return_target k ≡ None → next_at P k h s ≡ Some e →
      return_target e.items ≡ None
  unmarked_step [] h s e l m i = absurd (none-some e i)
  unmarked_step (run a ∷ k) h s e l m i = unmarked_statement a k h s e l m i
  unmarked_step (declare a ∷ k) h s e l m i = absurd (labels a.label (Some a.label) refl l)
  unmarked_step (declare_array at a ∷ k) h s e l m i = absurd (labels at (Some at) refl l)
  unmarked_step (all no_more ∷ k) h s e l m i = unmarked k h s e m i
  unmarked_step (all (declaration a b) ∷ k) h s e l m i = unmarked (declare a ∷ all b ∷ k) h s e m i
  unmarked_step (all (array at a b) ∷ k) h s e l m i = unmarked (declare_array at a ∷ all b ∷ k) h s e m i
  unmarked_step (all (statement a b) ∷ k) h s e l m i = unmarked (run a ∷ all b ∷ k) h s e m i
  unmarked_step (end_of at n ∷ k) h s e l m i = absurd (labels at (Some at) refl l)
  unmarked_step (next_round step again n ∷ k) h s e l m i = unmarked (run step ∷ run again ∷ k) h s e m i
  unmarked_step (cases no_cases ∷ k) h s e l m i = unmarked k h s e m i
  unmarked_step (cases (labelled q cs) ∷ k) h s e l m i = unmarked (cases cs ∷ k) h s e m i
  unmarked_step (cases (stated a cs) ∷ k) h s e l m i = unmarked (run a ∷ cases cs ∷ k) h s e m i
  unmarked_step (end_switch n ∷ k) h s e l m i = unmarked k h s e m i
  unmarked_step (end_for n ∷ k) h s e l m i = unmarked k h (record s { store = take n s.store }) e m i
  unmarked_step (return_frame b ∷ k) h s e l m i = absurd (none-some _ (sym m))
  unmarked_step (leave_call ∷ k) h s e l m i = absurd (not_left (return_target k) s e m i)

  -- so the first variables are what they were
  pub record IsStill (n : ℕ) (c d : Config) : Type 0 where
    pub long : n ≤ length d.state.store
    pub deep : IsDeep n d.items
    pub same : take n d.state.store ≡ take n c.state.store

  as_before : (n : ℕ) (k : List Item) (h : CallContext) (s : State) (b : List ℤ) → label_on k ≡ None → return_target k ≡ None
      → ChangesOne n (λ x t. StepWrites x t P k h s) s.store b → take n b ≡ take n s.store
  as_before n k h s b l m (inl same) = same
  as_before n k h s b l m (inr (x, z, t, less, g, v, is)) = absurd (no_gift x t k h s l m g)

  pub still : (n m : ℕ) (c d : Config) → n ≤ length c.state.store → IsDeep n c.items → return_target c.items ≡ None → Quiet m c d → IsStill n c d
  still n zero c d l deep o q = subst (λ (e : Config). IsStill n c e) q (record { long = l; deep = deep; same = refl })
  still n (suc m) c d l deep o (silent, e, x, q) =
      let one = step_leaves n P c.items c.here c.state e l deep x in
      let rest = still n m e d one.long one.deep (unmarked_step c.items c.here c.state e silent o x) q in
      record { long = rest.long; deep = rest.deep; same = rest.same ∙ as_before n c.items c.here c.state e.state.store silent o one.first }

-- a run among others -------------------------------------------------------------------------------------------------

module _ (may : State → State → Type 0) (P : Program) (draws : List ℤ) where
  abbrev pub Comes : Config → List (TraceEvent Point) → Type 0
  Comes c xs = (n : ℕ) × TracedSteps may P n (start P draws) [] c xs

  pub goes_on : (c d e : Config) (xs ys zs : List (TraceEvent Point)) (m : ℕ) → Comes c xs → TracedSteps may P m c xs d ys → Comes d ys
  goes_on c d e xs ys zs m w v = walk_on may P w.0 m (start P draws) c d [] xs ys w.1 v

  module _ (n : ℕ) (Gets : ℕ → ℤ → Type 0)
      (only : (x : ℕ) (z : ℤ) (a : Trace Point) → WritesThere may P draws x a → x < n → slice_get a.state.store x ≡ Some z → Gets x z) where
    -- a run stands there, and the first variables have been changed by what it gives
    pub record Stands (a : List ℤ) (d : Config) (ys : List (TraceEvent Point)) : Type 0 where
      pub comes : Comes d ys
      pub long : n ≤ length d.state.store
      pub deep : IsDeep n d.items
      pub changes : RepeatedWrites n Gets a (take n d.state.store)

    gift : (c : Config) (xs : List (TraceEvent Point)) (s : State) (e : Config) → Comes c xs → Becomes may (label_on c.items) c.state s
        → next_at P c.items c.here s ≡ Some e
        → ChangesOne n (λ x t. StepWrites x t P c.items c.here s) s.store e.state.store → RepeatedWrites n Gets (take n s.store) (take n e.state.store)
    gift c xs s e w b x (inl same) = subst (λ (a : List ℤ). RepeatedWrites n Gets (take n s.store) a) (sym same) (none (take n s.store))
    gift c xs s e w b x (inr (y, z, t, less, g, v, is)) =
        let a : Trace Point = record { state = t; events = with_visit (label_on c.items) c.here.path c.state xs } in
        subst (λ (v : List ℤ). RepeatedWrites n Gets (take n s.store) v) (sym is)
        (more (take n s.store) (take n s.store) y z (none (take n s.store)) less (only y z a (w.0, c, xs, s, e, w.1, b, x, g, refl) less v))

    -- one step
    pub steps : (c : Config) (xs : List (TraceEvent Point)) (s : State) (e : Config) → Comes c xs → n ≤ length s.store → IsDeep n c.items
        → Becomes may (label_on c.items) c.state s
        → next_at P c.items c.here s ≡ Some e → Stands (take n s.store) e (with_visit (label_on c.items) c.here.path c.state xs)
    steps c xs s e w l deep b x =
        let one = step_leaves n P c.items c.here s e l deep x in
        record {
          comes = goes_on c e e xs (with_visit (label_on c.items) c.here.path c.state xs) xs 1 w (s, e, b, x, (refl, refl));
          long = one.long;
          deep = one.deep;
          changes = gift c xs s e w b x one.first;
        }

    quiet_becomes : (o : Option ℕ) (s : State) → o ≡ None → Becomes may o s s
    quiet_becomes None s e = refl
    quiet_becomes (Some label) s e = absurd (none-some label (sym e))

    -- then past no further point
    pub on_quietly : (m : ℕ) (a : List ℤ) (c d : Config) (xs : List (TraceEvent Point)) → Stands a c xs → Quiet P m c d → Stands a d xs
    on_quietly zero a c d xs w q = subst (λ (e : Config). Stands a e xs) q w
    on_quietly (suc m) a c d xs w (silent, e, x, q) =
        let one = steps c xs c.state e w.comes w.long w.deep (quiet_becomes (label_on c.items) c.state silent) x in
        let ends : with_visit (label_on c.items) c.here.path c.state xs ≡ xs = ap (λ o. with_visit o c.here.path c.state xs) silent in
        on_quietly m a e d xs (record {
          comes = subst (λ (ys : List (TraceEvent Point)). Comes e ys) ends one.comes;
          long = one.long;
          deep = one.deep;
          changes = changes_on n Gets a (take n c.state.store) (take n e.state.store) w.changes one.changes;
        }) q

    -- from a point, whose state others have changed, to the next one or to an end
    module _ (c : Config) (xs : List (TraceEvent Point)) (w : Comes c xs) (label : ℕ) (on : label_on c.items ≡ Some label) (s : State) (changed : may c.state s)
        (l : n ≤ length s.store) (deep : IsDeep n c.items) where
      abbrev pub There : Config
      There = record { items = c.items; here = c.here; state = s }

      becomes : Becomes may (label_on c.items) c.state s
      becomes = subst (λ o. Becomes may o c.state s) (sym on) changed

      -- a step from there
      first_step : (s' : State) (e : Config) → Becomes NoChange (label_on c.items) s s' → next_at P c.items c.here s' ≡ Some e
          → next_at P c.items c.here s ≡ Some e
      first_step s' e b x = subst (λ (t : State). next_at P c.items c.here t ≡ Some e) (becomes_same (label_on c.items) s s' b) x

      one_met : (ys : List (TraceEvent Point)) → length ys ≤ 1 → length ys ≤ length (with_visit (label_on c.items) c.here.path s [])
      one_met ys h = rw on h

      met_one : (ys : List (TraceEvent Point)) → length (with_visit (label_on c.items) c.here.path s []) ≤ length ys → 1 ≤ length ys
      met_one ys h = subst (λ o. length (with_visit o c.here.path s []) ≤ length ys) on h

      pub piece : (m : ℕ) (p : Point) (d : Config) → LeadsOn P m p There d → (ys : List (TraceEvent Point)) × Stands (take n s.store) d ys
      piece zero p d (at, walk) = absurd (nothing_met walk.1)
        where
          nothing_met : [] ≡ visit p s ∷ [] → ⊥
          nothing_met e = cc
      piece (suc m) p d (at, (s', e, b, x, walk)) =
          let one = steps c xs s e w l deep becomes (first_step s' e b x) in
          let few : length (visit p s ∷ []) ≤ length (with_visit (label_on c.items) c.here.path s []) = one_met (visit p s ∷ []) (omega arith) in (
            with_visit (label_on c.items) c.here.path c.state xs,
            on_quietly m (take n s.store) e d _ one
                (quiet_of P m e d (with_visit (label_on c.items) c.here.path s []) (visit p s ∷ []) walk few),
          )

      -- what a step on the way gives
      pub given : (x : ℕ) (t : State) (m left : ℕ) (p : Point) (u d : Config) (met : List (TraceEvent Point)) → TracedSteps NoChange P m There [] u met
          → TracedSteps NoChange P (suc left) u met d (visit p s ∷ []) → StepWrites x t P u.items u.here u.state
          → (a : Trace Point) × WritesThere may P draws x a × (a.state ≡ t)
      given x t zero left p u d met (same, none_met) (s', e, b, y, rest) g =
          let next_is = subst (λ (v : State). next_at P u.items u.here v ≡ Some e) (becomes_same (label_on u.items) u.state s' b) y in (
            record { state = t; events = with_visit (label_on c.items) c.here.path c.state xs },
            (
              w.0,
              c,
              xs,
              s,
              e,
              w.1,
              becomes,
              subst (λ (v : Config). next P v ≡ Some e) (sym same) next_is,
              subst (λ (v : Config). StepWrites x t P v.items v.here v.state) (sym same) g,
              refl,
            ),
            refl,
          )
      given x t (suc m) left p u d met (s0, e0, b0, x0, walk) (s', e, b, y, rest) g =
          let one = steps c xs s e0 w l deep becomes (first_step s0 e0 b0 x0) in
          let all : TracedSteps NoChange P (suc left) u met d (visit p s ∷ []) = (s', e, b, y, rest) in
          let few : length met ≤ 1 = met_grows P (suc left) u d met (visit p s ∷ []) all in
          let many : 1 ≤ length met = met_one met (met_grows P m e0 u (with_visit (label_on c.items) c.here.path s []) met walk) in
          let stands = on_quietly m (take n s.store) e0 u _ one
          (quiet_of P m e0 u (with_visit (label_on c.items) c.here.path s []) met walk (one_met met few)) in
          let silent = (quiet_of P (suc left) u d met (visit p s ∷ []) all many).0 in
          let next_is = subst (λ (v : State). next_at P u.items u.here v ≡ Some e) (becomes_same (label_on u.items) u.state s' b) y in
          let xs' = with_visit (label_on c.items) c.here.path c.state xs in (
            record { state = t; events = with_visit (label_on u.items) u.here.path u.state xs' },
            (stands.comes.0, u, xs', u.state, e, stands.comes.1, quiet_becomes (label_on u.items) u.state silent, next_is, g, refl),
            refl,
          )
