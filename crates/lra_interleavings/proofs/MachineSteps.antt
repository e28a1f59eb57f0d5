-- What a step does to the first n variables: nothing, or it gives one of them a value. They stay.
use Rattle.std.proofs.Common.{◌≡◌, ℕ, ℤ, ◌≤◌, ◌<◌, List, [], ◌∷◌, length, take, set, Option, Some, None, Bool, true, false, ◌⊎◌, inl, inr, refl, sym, ap, ◌∙◌, subst, arith}
use Rattle.std.proofs.{lemmas.List.take-take, lemmas.Option.same_Some, lemmas.Option.none-some}
use Rattle.std.specs.Prelude.{⊤, slice_get}
use Rattle.lra_interleavings.specs.Crates.lra_base.declared.number_types.NumberType.{NumberType}
use Rattle.lra_program.specs.Program.{Element, Call, Rvalue, value, result, Stmt, absent, nothing, block, assign, write, call, if, loop, for, break, continue, return, assert, assume, switch, Cases}
use Rattle.lra_program.specs.Program.{no_cases, labelled, stated, no_more, declaration, array, statement, Function, Program}
use Rattle.lra_program.specs.Step.{State, environment_at, Op, append, fill, store_value, store_element, havoc, push, push_for, truncate_to, test, run_any, run_op, CallContext, ReturnFrame, Item, run}
use Rattle.lra_program.specs.Step.{declare, declare_array, all, end_of, next_round, cases, end_switch, end_for, return_frame, leave_call, Config, BreakTarget, break_target, ContinueTarget}
use Rattle.lra_program.specs.Step.{continue_target, ReturnTarget, return_target, receiver_of, go, go_by, go_on, branch, arguments_for, enter_by, do_rvalue, do_write, do_break, do_continue, do_leave}
use Rattle.lra_program.specs.Step.{do_return, do_switch, chosen, do_stmt, do_declare, next_at}
use Rattle.lra_program.specs.{NextOperation.RvalueOpIs, NextOperation.WriteOpIs, NextOperation.ReturnOpIs, NextOperation.DeclaratorOpIs, Receivers.variable_at, Receivers.waiting_in, Receivers.nobody}
use Rattle.lra_program.specs.{Value.index_of, Value.Drawn, Value.value_of, Value.Argument, Value.truth_of, WrittenVariables.written_variable, declared.receivers.Receiver.Receiver}
use Rattle.lra_interleavings.specs.Writes.{OpWrites, StepWrites}
use Rattle.lra_interleavings.proofs.Operations.{Wrote, KeepsMany, wrote, kept_long}

-- all lengths that items report are those of stores with the first n variables
abbrev pub IsDeep : ℕ → List Item → Type 0
IsDeep n [] = ⊤
IsDeep n (run s ∷ k) = IsDeep n k
IsDeep n (declare d ∷ k) = IsDeep n k
IsDeep n (declare_array at a ∷ k) = IsDeep n k
IsDeep n (all s ∷ k) = IsDeep n k
IsDeep n (end_of at m ∷ k) = (n ≤ m) × IsDeep n k
IsDeep n (next_round step again m ∷ k) = (n ≤ m) × IsDeep n k
IsDeep n (cases cs ∷ k) = IsDeep n k
IsDeep n (end_switch m ∷ k) = (n ≤ m) × IsDeep n k
IsDeep n (end_for m ∷ k) = (n ≤ m) × IsDeep n k
IsDeep n (return_frame b ∷ k) = (n ≤ b.length) × IsDeep n k
IsDeep n (leave_call ∷ k) = IsDeep n k

-- at most one of the first n variables has another value: one that is given it
abbrev pub ChangesOne : ℕ → (ℕ → State → Type 0) → List ℤ → List ℤ → Type 0
ChangesOne n Given a b = (take n b ≡ take n a) ⊎ ((x : ℕ) × (z : ℤ) × (t : State) × (x < n) × Given x t ×
    (slice_get t.store x ≡ Some z) × (take n b ≡ set (take n a) x z))

module _ (n : ℕ) where
  -- a configuration, with a step after the store a
  pub record Leaves (Given : ℕ → State → Type 0) (a : List ℤ) (c : Config) : Type 0 where
    pub long : n ≤ length c.state.store
    pub deep : IsDeep n c.items
    pub first : ChangesOne n Given a c.state.store

  abbrev pub No : ℕ → State → Type 0
  No x t = ⊥

  changed : (F G : ℕ → State → Type 0) (a b : List ℤ) → ((x : ℕ) (t : State) → F x t → G x t) → ChangesOne n F a b → ChangesOne n G a b
  changed F G a b f (inl e) = inl e
  changed F G a b f (inr (x, z, t, h, given, v, e)) = inr (x, z, t, h, f x t given, v, e)

  behind : (G : ℕ → State → Type 0) (a b c : List ℤ) → take n b ≡ take n a → ChangesOne n G b c → ChangesOne n G a c
  behind G a b c same (inl e) = inl (e ∙ same)
  behind G a b c same (inr (x, z, t, h, given, v, e)) = inr (x, z, t, h, given, v, e ∙ ap (λ (w : List ℤ). set w x z) same)

  shorter : (G : ℕ → State → Type 0) (a b c : List ℤ) → take n c ≡ take n b → ChangesOne n G a b → ChangesOne n G a c
  shorter G a b c same (inl e) = inl (same ∙ e)
  shorter G a b c same (inr (x, z, t, h, given, v, e)) = inr (x, z, t, h, given, v, same ∙ e)

  by_op : (op : Op) (s t : State) → n ≤ length s.store → KeepsMany n op → run_op op s ≡ Some t
      → (n ≤ length t.store) × ChangesOne n (λ x u. OpWrites x u op s) s.store t.store
  by_op op s t l k e = (w.0, case w.1)
    where
      w : Wrote n (written_variable op) s.store t.store
      w = wrote n op s t l k e

      case : (take n t.store ≡ take n s.store) ⊎ ((x : ℕ) × (z : ℤ) × (x < n) × (written_variable op ≡ Some x) × (slice_get t.store x ≡ Some z) ×
          (take n t.store ≡ set (take n s.store) x z))
          → ChangesOne n (λ x u. OpWrites x u op s) s.store t.store
      case (inl same) = inl same
      case (inr (x, z, h, gift, v, is)) = inr (x, z, t, h, (gift, e), v, is)

  module _ (Given : ℕ → State → Type 0) where
    -- nothing is done but to go on
    stays : (k : List Item) (h : CallContext) (s t : State) (c : Config) → n ≤ length s.store → IsDeep n k → t.store ≡ s.store → go k h (Some t) ≡ Some c
        → Leaves Given s.store c
    stays k h s t c l d same e =
        let is : record { items = k; here = h; state = t } ≡ c = same_Some (record { items = k; here = h; state = t }) c e in
        subst (λ (b : Config). Leaves Given s.store b) is (record {
          long = subst (λ (a : List ℤ). n ≤ length a) (sym same) l;
          deep = d;
          first = inl (ap (take n) same);
        })

    goes : (k : List Item) (h : CallContext) (s : State) (o : Option State) (c : Config) → IsDeep n k → go k h o ≡ Some c
        → ((t : State) → o ≡ Some t → (n ≤ length t.store) × ChangesOne n Given s.store t.store) → Leaves Given s.store c
    goes k h s None c d e f = absurd (none-some c e)
    goes k h s (Some t) c d e f =
        let is : record { items = k; here = h; state = t } ≡ c = same_Some (record { items = k; here = h; state = t }) c e in
        let did = f t refl in
        subst (λ (b : Config). Leaves Given s.store b) is (record { long = did.0; deep = d; first = did.1 })

    did : (op : Op) (s : State) → n ≤ length s.store → KeepsMany n op → ((x : ℕ) (t : State) → OpWrites x t op s → Given x t)
        → (t : State) → run_op op s ≡ Some t → (n ≤ length t.store) × ChangesOne n Given s.store t.store
    did op s l many f t is =
        let all = by_op op s t l many is in
        (all.0, changed (λ x u. OpWrites x u op s) Given s.store t.store f all.1)

    does : (op : Op) (k : List Item) (h : CallContext) (s : State) (c : Config) → n ≤ length s.store → IsDeep n k → KeepsMany n op
        → ((x : ℕ) (t : State) → OpWrites x t op s → Given x t) → go k h (run_op op s) ≡ Some c → Leaves Given s.store c
    does op k h s c l d many f e =
        goes k h s (run_op op s) c d e (λ t is. did op s l many f t is)

    -- calls are entered and left
    entered : (gives : List Argument → Op) (o : Option Function) (c : Call) (x : Receiver) (k : List Item) (h : CallContext) (s : State) (d : Config)
        → n ≤ length s.store → IsDeep n k → ((given : List Argument) → KeepsMany n (gives given))
        → ((f : Function) → o ≡ Some f → (y : ℕ) (t : State) → OpWrites y t (gives (arguments_for f.parameters c.arguments)) s → Given y t)
        → enter_by gives o c x k h s ≡ Some d → Leaves Given s.store d
    entered gives None c x k h s d l deep many f e = absurd (none-some d e)
    entered gives (Some g) c x k h s d l deep many f e =
        does (gives (arguments_for g.parameters c.arguments)) _ _ s d l (omega (arith, l), (l, deep)) (many (arguments_for g.parameters c.arguments))
        (f g refl) e

    abbrev IsDeepCall : Option ReturnTarget → Type 0
    IsDeepCall None = ⊤
    IsDeepCall (Some m) = (n ≤ m.back.length) × IsDeep n m.rest

    deep_call : (k : List Item) → IsDeep n k → IsDeepCall (return_target k)
    deep_call [] d = tt
    deep_call (run a ∷ k) d = deep_call k d
    deep_call (declare a ∷ k) d = deep_call k d
    deep_call (declare_array at a ∷ k) d = deep_call k d
    deep_call (all a ∷ k) d = deep_call k d
    deep_call (end_of at m ∷ k) d = deep_call k d.1
    deep_call (next_round step again m ∷ k) d = deep_call k d.1
    deep_call (cases cs ∷ k) d = deep_call k d
    deep_call (end_switch m ∷ k) d = deep_call k d.1
    deep_call (end_for m ∷ k) d = deep_call k d.1
    deep_call (return_frame b ∷ k) d = d
    deep_call (leave_call ∷ k) d = deep_call k d

    left_behind : (b : ReturnFrame) (k : List Item) (s : State) (o : Option State) (c : Config) → (n ≤ b.length) → IsDeep n k
        → ((t : State) → o ≡ Some t → (n ≤ length t.store) × ChangesOne n Given s.store t.store)
        → go_on o (λ t. go k b.here (run_op (truncate_to b.length) t)) ≡ Some c → Leaves Given s.store c
    left_behind b k s None c m d f e = absurd (none-some c e)
    left_behind b k s (Some t) c m d f e =
        let all = f t refl in
        let u : State = record t { store = take b.length t.store } in
        let is : record { items = k; here = b.here; state = u } ≡ c = same_Some (record { items = k; here = b.here; state = u }) c e in
        subst (λ (v : Config). Leaves Given s.store v) is (record {
          long = kept_long n b.length t.store m all.0;
          deep = d;
          first = shorter Given s.store t.store (take b.length t.store) (take-take n b.length t.store m) all.1;
        })

    left : (o : Option ReturnTarget) (s : State) (v : Option State) (c : Config) → IsDeepCall o
        → ((t : State) → v ≡ Some t → (n ≤ length t.store) × ChangesOne n Given s.store t.store) → do_leave o v ≡ Some c → Leaves Given s.store c
    left None s v c d f e = absurd (none-some c e)
    left (Some m) s v c d f e = left_behind m.back m.rest s v c d.0 d.1 f e

    -- jumps
    abbrev IsDeepOut : Option BreakTarget → Type 0
    IsDeepOut None = ⊤
    IsDeepOut (Some m) = (n ≤ m.length) × IsDeep n m.rest

    deep_out : (k : List Item) → IsDeep n k → IsDeepOut (break_target k)
    deep_out [] d = tt
    deep_out (run a ∷ k) d = deep_out k d
    deep_out (declare a ∷ k) d = deep_out k d
    deep_out (declare_array at a ∷ k) d = deep_out k d
    deep_out (all a ∷ k) d = deep_out k d
    deep_out (end_of at m ∷ k) d = deep_out k d.1
    deep_out (next_round step again m ∷ k) d = d
    deep_out (cases cs ∷ k) d = deep_out k d
    deep_out (end_switch m ∷ k) d = d
    deep_out (end_for m ∷ k) d = deep_out k d.1
    deep_out (return_frame b ∷ k) d = tt
    deep_out (leave_call ∷ k) d = deep_out k d

    abbrev IsDeepTurn : Option ContinueTarget → Type 0
    IsDeepTurn None = ⊤
    IsDeepTurn (Some m) = (n ≤ m.length) × IsDeep n m.rest

    deep_turn : (k : List Item) → IsDeep n k → IsDeepTurn (continue_target k)
    deep_turn [] d = tt
    deep_turn (run a ∷ k) d = deep_turn k d
    deep_turn (declare a ∷ k) d = deep_turn k d
    deep_turn (declare_array at a ∷ k) d = deep_turn k d
    deep_turn (all a ∷ k) d = deep_turn k d
    deep_turn (end_of at m ∷ k) d = deep_turn k d.1
    deep_turn (next_round step again m ∷ k) d = d
    deep_turn (cases cs ∷ k) d = deep_turn k d
    deep_turn (end_switch m ∷ k) d = deep_turn k d.1
    deep_turn (end_for m ∷ k) d = deep_turn k d.1
    deep_turn (return_frame b ∷ k) d = tt
    deep_turn (leave_call ∷ k) d = deep_turn k d

    broken : (o : Option BreakTarget) (h : CallContext) (s : State) (c : Config) → n ≤ length s.store → IsDeepOut o → do_break o h s ≡ Some c →
        Leaves Given s.store c
    broken None h s c l d e = absurd (none-some c e)
    broken (Some m) h s c l d e = does (truncate_to m.length) m.rest h s c l d.1 d.0 (λ x t g. absurd (none-some x g.0)) e

    continued : (o : Option ContinueTarget) (h : CallContext) (s : State) (c : Config) → n ≤ length s.store → IsDeepTurn o → do_continue o h s ≡ Some c →
        Leaves Given s.store c
    continued None h s c l d e = absurd (none-some c e)
    continued (Some m) h s c l d e =
        does (truncate_to m.length) (next_round m.step m.again m.length ∷ m.rest) h s c l (d.0, d.1) d.0 (λ x t g. absurd (none-some x g.0)) e

    -- conditions
    deep_branch : (b : Bool) (on off : List Item) → IsDeep n on → IsDeep n off → IsDeep n (branch b on off)
    deep_branch true on off d e = d
    deep_branch false on off d e = e

    branched : (on off : List Item) (h : CallContext) (s : State) (v : Drawn Bool) (c : Config) → n ≤ length s.store → IsDeep n on → IsDeep n off
        → go_by on off h s v ≡ Some c → Leaves Given s.store c
    branched on off h s None c l d f e = absurd (none-some c e)
    branched on off h s (Some r) c l d f e = stays (branch r.0 on off) h s (record s { draws = r.1 }) c l (deep_branch r.0 on off d f) refl e

    switched : (cs : Cases) (k : List Item) (h : CallContext) (s : State) (v : Drawn ℤ) (c : Config) → n ≤ length s.store → IsDeep n k
        → do_switch cs k h s v ≡ Some c → Leaves Given s.store c
    switched cs k h s None c l d e = absurd (none-some c e)
    switched cs k h s (Some r) c l d e = stays (cases (chosen r.0 cs) ∷ end_switch (length s.store) ∷ k) h s (record s { draws = r.1 }) c l (l, d) refl e

    module _ (P : Program) where
      rvalue : (x : Receiver) (v : Rvalue) (k : List Item) (h : CallContext) (s : State) (c : Config) → n ≤ length s.store → IsDeep n k
          → ((y : ℕ) (t : State) → RvalueOpIs (OpWrites y t) P x v h s → Given y t) → do_rvalue P x v k h s ≡ Some c → Leaves Given s.store c
      rvalue x (value w) k h s c l d f e = does (store_value h.base x w) k h s c l d tt f e
      rvalue x (result q) k h s c l d f e =
          entered (push h.base) (slice_get P.functions q.function) q x k h s c l d (λ given. tt) (λ g is y t o. f y t (g, is, o)) e

      written : (x : Element) (v : Rvalue) (k : List Item) (h : CallContext) (s : State) (c : Config) → n ≤ length s.store → IsDeep n k
          → ((y : ℕ) (t : State) → WriteOpIs (OpWrites y t) P x v h s → Given y t) → do_write P x v k h s ≡ Some c → Leaves Given s.store c
      written x (value w) k h s c l d f e = does (store_element h.base x w) k h s c l d tt f e
      written x (result q) k h s c l d f e =
          entered (push_for h.base x) (slice_get P.functions q.function) q (waiting_in x.array) k h s c l d (λ given. tt) (λ g is y t o. f y t (g, is, o)) e

      returned : (v : Option Rvalue) (k : List Item) (h : CallContext) (s : State) (c : Config) → n ≤ length s.store → IsDeep n k
          → ((y : ℕ) (t : State) → ReturnOpIs (OpWrites y t) P v k h s → Given y t)
          → (v ≡ None → (y : ℕ) (t : State) → OpWrites y t (havoc (receiver_of P (return_target k))) s → Given y t)
          → do_return P v k h s ≡ Some c → Leaves Given s.store c
      returned None k h s c l d f any e =
          left (return_target k) s (run_any (receiver_of P (return_target k)) s) c (deep_call k d)
          (did (havoc (receiver_of P (return_target k))) s l tt (any refl)) e
      returned (Some (value w)) k h s c l d f any e =
          left (return_target k) s (run_op (store_value h.base (receiver_of P (return_target k)) w) s) c (deep_call k d)
          (did (store_value h.base (receiver_of P (return_target k)) w) s l tt f) e
      returned (Some (result q)) k h s c l d f any e = rvalue (receiver_of P (return_target k)) (result q) (leave_call ∷ k) h s c l d f e

      behind_new : (v : Rvalue) (x : Receiver) (k : List Item) (h : CallContext) (s : State) (o : Option State) (c : Config) → IsDeep n k
          → ((m : State) → o ≡ Some m → (n ≤ length m.store) × (take n m.store ≡ take n s.store))
          → ((y : ℕ) (t m : State) → o ≡ Some m → RvalueOpIs (OpWrites y t) P x v h m → Given y t)
          → go_on o (do_rvalue P x v k h) ≡ Some c → Leaves Given s.store c
      behind_new v x k h s None c d kept f e = absurd (none-some c e)
      behind_new v x k h s (Some m) c d kept f e =
          let same = kept m refl in
          let r = rvalue x v k h m c same.0 d (λ y t g. f y t m refl g) e in
          record { long = r.long; deep = r.deep; first = behind Given s.store m.store c.state.store same.1 r.first }

      appended : (y : NumberType) (s m : State) → n ≤ length s.store → run_op (append y) s ≡ Some m → (n ≤ length m.store) × (take n m.store ≡ take n s.store)
      appended y s m l is = (all.0, case all.1)
        where
          all : Wrote n None s.store m.store
          all = wrote n (append y) s m l tt is

          case : (take n m.store ≡ take n s.store) ⊎ ((x : ℕ) × (z : ℤ) × (x < n) × (let o : Option ℕ = None in o ≡ Some x) × (slice_get m.store x ≡ Some z) ×
              (take n m.store ≡ set (take n s.store) x z)) → take n m.store ≡ take n s.store
          case (inl same) = same
          case (inr (x, z, h, never, v, is)) = absurd (none-some x never)

      declared : (y : NumberType) (v : Option Rvalue) (k : List Item) (h : CallContext) (s : State) (c : Config) → n ≤ length s.store → IsDeep n k
          → ((x : ℕ) (t : State) → DeclaratorOpIs (OpWrites x t) P y v h s → Given x t) → do_declare P y v k h s ≡ Some c → Leaves Given s.store c
      declared y None k h s c l d f e = does (append y) k h s c l d tt (λ x t g. absurd (none-some x g.0)) e
      declared y (Some v) k h s c l d f e =
          behind_new v (variable_at (length s.store) y) k h s (run_op (append y) s) c d (λ m is. appended y s m l is) (λ x t m is g. f x t (m, is, g)) e

-- the step of an item
module _ (n : ℕ) (P : Program) where
  abbrev Step : List Item → CallContext → State → Config → Type 0
  Step k h s c = Leaves n (λ x t. StepWrites x t P k h s) s.store c

  abbrev G : List Item → CallContext → State → ℕ → State → Type 0
  G k h s x t = StepWrites x t P k h s

  statement_leaves : (a : Stmt) (k : List Item) (h : CallContext) (s : State) (c : Config) → n ≤ length s.store → IsDeep n k → do_stmt P a k h s ≡ Some c
      → Step (run a ∷ k) h s c
  statement_leaves absent k h s c l d e = stays n (G (run absent ∷ k) h s) k h s s c l d refl e
  statement_leaves (nothing at) k h s c l d e = stays n (G (run (nothing at) ∷ k) h s) k h s s c l d refl e
  statement_leaves (block body end) k h s c l d e =
      stays n (G (run (block body end) ∷ k) h s) (all body ∷ end_of end (length s.store) ∷ k) h s s c l (l, d) refl e
  statement_leaves (assign at x v) k h s c l d e =
      rvalue n (G (run (assign at x v) ∷ k) h s) P (variable_at (index_of h.base x.slot) x.number_type) v k h s c l d (λ y t g. inl g) e
  statement_leaves (write at x v) k h s c l d e = written n (G (run (write at x v) ∷ k) h s) P x v k h s c l d (λ y t g. inl g) e
  statement_leaves (call at q) k h s c l d e = rvalue n (G (run (call at q) ∷ k) h s) P nobody (result q) k h s c l d (λ y t g. inl g) e
  statement_leaves (if at q a b) k h s c l d e =
      branched n (G (run (if at q a b) ∷ k) h s) (run a ∷ k) (run b ∷ k) h s (truth_of q (environment_at h.base s) s.draws) c l d d e
  statement_leaves (loop at q a step) k h s c l d e =
      branched n (G (run (loop at q a step) ∷ k) h s) (run a ∷ next_round step (loop at q a step) (length s.store) ∷ k) k h s
      (truth_of q (environment_at h.base s) s.draws) c l (l, d) d e
  statement_leaves (for at init q a step) k h s c l d e =
      stays n (G (run (for at init q a step) ∷ k) h s) (all init ∷ run (loop at q a step) ∷ end_for (length s.store) ∷ k) h s s c l (l, d) refl e
  statement_leaves (break at) k h s c l d e = broken n (G (run (break at) ∷ k) h s) (break_target k) h s c l (deep_out n (G (run (break at) ∷ k) h s) k d) e
  statement_leaves (continue at) k h s c l d e =
      continued n (G (run (continue at) ∷ k) h s) (continue_target k) h s c l (deep_turn n (G (run (continue at) ∷ k) h s) k d) e
  statement_leaves (return at None) k h s c l d e =
      returned n (G (run (return at None) ∷ k) h s) P None k h s c l d (λ y t g. inl g) (λ is y t g. inr g) e
  statement_leaves (return at (Some v)) k h s c l d e =
      returned n (G (run (return at (Some v)) ∷ k) h s) P (Some v) k h s c l d (λ y t g. inl g) (λ is. absurd (none-some v (sym is))) e
  statement_leaves (assert at q) k h s c l d e =
      does n (G (run (assert at q) ∷ k) h s) (test h.base q true) k h s c l d tt (λ y t g. absurd (none-some y g.0)) e
  statement_leaves (assume at q) k h s c l d e =
      does n (G (run (assume at q) ∷ k) h s) (test h.base q true) k h s c l d tt (λ y t g. absurd (none-some y g.0)) e
  statement_leaves (switch at v cs) k h s c l d e =
      switched n (G (run (switch at v cs) ∷ k) h s) cs k h s (value_of v (environment_at h.base s) s.draws) c l d e

  pub step_leaves : (k : List Item) (h : CallContext) (s : State) (c : Config) → n ≤ length s.store → IsDeep n k → next_at P k h s ≡ Some c → Step k h s c
  step_leaves [] h s c l d e = absurd (none-some c e)
  step_leaves (run a ∷ k) h s c l d e = statement_leaves a k h s c l d e
  step_leaves (declare a ∷ k) h s c l d e =
      declared n (G (declare a ∷ k) h s) P a.number_type a.rvalue k h s c l d (λ x t g. inl g) e
  step_leaves (declare_array at a ∷ k) h s c l d e =
      does n (G (declare_array at a ∷ k) h s) (fill a) k h s c l d tt (λ x t g. absurd (none-some x g.0)) e
  step_leaves (all no_more ∷ k) h s c l d e = stays n (G (all no_more ∷ k) h s) k h s s c l d refl e
  step_leaves (all (declaration a b) ∷ k) h s c l d e = stays n (G (all (declaration a b) ∷ k) h s) (declare a ∷ all b ∷ k) h s s c l d refl e
  step_leaves (all (array at a b) ∷ k) h s c l d e = stays n (G (all (array at a b) ∷ k) h s) (declare_array at a ∷ all b ∷ k) h s s c l d refl e
  step_leaves (all (statement a b) ∷ k) h s c l d e = stays n (G (all (statement a b) ∷ k) h s) (run a ∷ all b ∷ k) h s s c l d refl e
  step_leaves (end_of at m ∷ k) h s c l d e =
      does n (G (end_of at m ∷ k) h s) (truncate_to m) k h s c l d.1 d.0 (λ x t g. absurd (none-some x g.0)) e
  step_leaves (next_round step again m ∷ k) h s c l d e = stays n (G (next_round step again m ∷ k) h s) (run step ∷ run again ∷ k) h s s c l d.1 refl e
  step_leaves (cases no_cases ∷ k) h s c l d e = stays n (G (cases no_cases ∷ k) h s) k h s s c l d refl e
  step_leaves (cases (labelled q cs) ∷ k) h s c l d e = stays n (G (cases (labelled q cs) ∷ k) h s) (cases cs ∷ k) h s s c l d refl e
  step_leaves (cases (stated a cs) ∷ k) h s c l d e = stays n (G (cases (stated a cs) ∷ k) h s) (run a ∷ cases cs ∷ k) h s s c l d refl e
  step_leaves (end_switch m ∷ k) h s c l d e = stays n (G (end_switch m ∷ k) h s) k h s s c l d.1 refl e
  step_leaves (end_for m ∷ k) h s c l d e = does n (G (end_for m ∷ k) h s) (truncate_to m) k h s c l d.1 d.0 (λ x t g. absurd (none-some x g.0)) e
  step_leaves (return_frame b ∷ k) h s c l d e =
      left_behind n (G (return_frame b ∷ k) h s) b k s (run_any b.receiver s) c d.0 d.1
      (did n (G (return_frame b ∷ k) h s) (havoc b.receiver) s l tt (λ x t g. inr g)) e
  step_leaves (leave_call ∷ k) h s c l d e =
      left n (G (leave_call ∷ k) h s) (return_target k) s (Some s) c (deep_call n (G (leave_call ∷ k) h s) k d) (λ t is. unchanged t is) e
    where
      unchanged : (t : State) → Some s ≡ Some t → (n ≤ length t.store) × ChangesOne n (λ x u. StepWrites x u P (leave_call ∷ k) h s) s.store t.store
      unchanged t is = subst (λ (u : State). (n ≤ length u.store) × ChangesOne n (λ x v. StepWrites x v P (leave_call ∷ k) h s) s.store u.store)
          (same_Some s t is) (l, inl refl)
