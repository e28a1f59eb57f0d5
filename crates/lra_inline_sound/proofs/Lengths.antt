-- How long the store is where a statement is left.
use Rattle.std.proofs.Common.{◌≡◌, ◌≢◌, ℕ, zero, suc, ◌+◌, ◌≤◌, ℤ, List, [], ◌∷◌, ◌++◌, length, Option, Some, None, Bool, true, false, ◌||◌, ◌⊎◌, inl, inr, refl, sym, ap, ◌∙◌, arith, length-append}
use Rattle.std.proofs.{lemmas.List.length-map, lemmas.List.length-set, lemmas.List.length-take-le, lemmas.Option.same_Some, lemmas.Option.none-some}
use Rattle.lra_inline_sound.specs.Crates.lra_program.Program.{Expr, Element, Cond, Call, Rvalue, Stmt, Cases, BlockItems, Function, Program}
use Rattle.lra_inline_sound.specs.Crates.lra_program.Step.{State, environment_at, Op, append, fill, store_value, store_element, havoc, push, push_for, truncate_to, test, run_op, run_any, drawn_for}
use Rattle.lra_inline_sound.specs.Crates.lra_program.Step.{put_in, put, receive, pushed, filled, aim, tested, ReturnFrame}
use Rattle.lra_inline_sound.specs.Crates.lra_program.Value.{◌>>=◌, number, first_draw, draws_of, Environment, Argument, value_of, values_of, truth_of, Drawn}
use Rattle.lra_inline_sound.specs.Crates.lra_program.declared.receivers.Cell.TheVariants.{Variable, Waiting}
use Rattle.lra_inline_sound.specs.Crates.{lra_base.CaseLabels.is_same_case, lra_base.declared.case_labels.CaseLabel.CaseLabel, lra_base.declared.number_types.NumberType.NumberType}
use Rattle.lra_inline_sound.specs.Crates.{lra_program.Arrays.place_among, lra_program.Receivers.waiting_in, lra_program.Receivers.accepts, lra_program.Run.Point, lra_program.Run.begun}
use Rattle.lra_inline_sound.specs.Crates.{lra_program.Sites.Site, lra_program.Traces.Trace, lra_program.declared.arrays.Array.Array, lra_program.declared.program.GlobalVariable.GlobalVariable}
use Rattle.lra_inline_sound.specs.Crates.{lra_program.declared.receivers.Cell.Cell, lra_program.declared.receivers.Receiver.Receiver, lra_program.declared.receivers.Target.Target}
use Rattle.lra_inline_sound.proofs.Crates.{lra_program.GivenArguments.given_width, lra_program.StepLaws.is_kept, lra_program.StepLaws.store_waiting, lra_program.TypeLaws.bind_some}
use Rattle.lra_operations.specs.Inlined.{Frame, InlineState, callee, InlineStmt, InlineCases, InlineItems, InlineDeclarator, InlineLoop, InlineRvalue, InlineCall, as_nothing, as_block, as_absent}
use Rattle.lra_operations.specs.Inlined.{as_assign, as_write, as_write_call, as_call, as_if, as_loop, as_for, as_break, as_continue, as_return, as_return_value, as_return_call, as_end, as_end_value}
use Rattle.lra_operations.specs.Inlined.{as_end_call, as_assert, as_assume, as_none, as_declaration, as_array, as_statement, as_fresh, as_given, is_loop, as_value, as_result, is_call, as_switch}
use Rattle.lra_operations.specs.Inlined.{as_no_cases, as_labelled, as_stated, loop_node, switch_node, callee_node, return_node}
use Rattle.lra_operations.specs.Traces.{Stop, by_jump, to_point, to_failure, RunExtent, to_end, stopped, RunsUpTo, ArmsRunUpTo, Finds, VisitsAndTests, TrailRounds}
use Rattle.lra_operations.specs.TracesAgree.{KeepsWidth}
use Rattle.lra_operations.specs.Tree.{Exit, broken, continued, returned, Node, empty, choose, point, act, seq, leave, check, Arms}
use Rattle.lra_inline_sound.proofs.Shapes.{seq_inv, act_inv, leave_inv, EndsBody, GoesCall, call_returned, call_ended, call_stopped, call_at_end, inner, given, width, call_inv, Round, EndsBodyRound}
use Rattle.lra_inline_sound.proofs.Shapes.{LeavesRound, EndsLoop, loop_done, loop_at, loop_broken, loop_left, loop_inv}

-- a run begins with one variable for each global
pub begun_length : (P : Program) (draws : List ℤ) → length (begun P draws).store ≡ length P.globals
begun_length P draws = length-map P.globals (λ (x : GlobalVariable). x.value)

length_put_in : (c : Cell) (z : ℤ) (s : State) → length (put_in c z s).store ≡ length s.store
length_put_in (Variable k) z s = length-set s.store k z
length_put_in (Waiting p) z s = ap length (store_waiting p z s.waiting s)

length_put : (x : Option Target) (z : ℤ) (s : State) → length (put x z s).store ≡ length s.store
length_put None z s = refl
length_put (Some x) z s = length_put_in x.cell z s

pub length_given : (x : Receiver) (s : State) (v : Drawn ℤ) (t : State) → receive x s v ≡ Some t → length t.store ≡ length s.store
length_given x s None t e = absurd (none-some t e)
length_given x s (Some r) t e =
    let there : State = record s { draws = r.1 } in
    ap (λ (u : State). length u.store) (is_kept true (accepts x r.0) (put x.target r.0 there) t e) ∙ length_put x.target r.0 there

pub length_any : (x : Receiver) (s t : State) → run_any x s ≡ Some t → length t.store ≡ length s.store
length_any x s t e = by x.target e
  where
    by : (o : Option Target) → drawn_for o x s ≡ Some t → length t.store ≡ length s.store
    by None e = rw (← same_Some s t e) refl
    by (Some y) e = length_given x s (first_draw s.draws) t e

store_tested : (b : Bool) (s : State) (v : Drawn Bool) (t : State) → tested b s v ≡ Some t → t.store ≡ s.store
store_tested b s None t e = absurd (none-some t e)
store_tested b s (Some r) t e = ap (λ (u : State). u.store) (is_kept b r.0 _ t e)

pub length_test : (base : ℕ) (c : Cond) (b : Bool) (s t : State) → run_op (test base c b) s ≡ Some t → length t.store ≡ length s.store
length_test base c b s t e = ap length (store_tested b s (truth_of c (environment_at base s) s.draws) t e)

pub length_keep : (n : ℕ) (s t : State) → n ≤ length s.store → run_op (truncate_to n) s ≡ Some t → length t.store ≡ n
length_keep n s t l e = rw (← same_Some _ t e) (length-take-le n s.store l)

-- values, as many as expressions
length_cons : (z : ℤ) (n : ℕ) (v : Drawn (List ℤ)) (r : List ℤ × List ℤ) → ((q : List ℤ × List ℤ) → v ≡ Some q → length q.0 ≡ n) → (v >>= λ s. Some (z ∷ s.0, s.1)) ≡ Some r → length r.0 ≡ suc n
length_cons z n None r h e = absurd (none-some r e)
length_cons z n (Some q) r h e = rw (← same_Some _ r e) (ap suc (h q refl))

length_values : (given : List Argument) (s : Environment) (draws : List ℤ) (r : List ℤ × List ℤ) → values_of given s draws ≡ Some r → length r.0 ≡ length given
length_values [] s draws r e = rw (← same_Some _ r e) refl
length_values (a ∷ rest) s draws r e =
    let (v, got, to) = bind_some (value_of a.value s draws) (λ v. number a.number_type v.0 >>= λ z. values_of rest s v.1 >>= λ q. Some (z ∷ q.0, q.1)) r e in
    let (z, fit, made) = bind_some (number a.number_type v.0) (λ z. values_of rest s v.1 >>= λ q. Some (z ∷ q.0, q.1)) r to in
    length_cons z (length rest) (values_of rest s v.1) r (λ q h. length_values rest s v.1 q h) made

length_pushed : (s : State) (n : ℕ) (v : Drawn (List ℤ)) (t : State) → ((r : List ℤ × List ℤ) → v ≡ Some r → length r.0 ≡ n) → pushed s v ≡ Some t → length t.store ≡ length s.store + n
length_pushed s n None t h e = absurd (none-some t e)
length_pushed s n (Some r) t h e = rw (← same_Some _ t e, length-append, h r refl) refl

pub length_push : (base : ℕ) (es : List Argument) (s t : State) → run_op (push base es) s ≡ Some t → length t.store ≡ length s.store + length es
length_push base es s t e = length_pushed s (length es) (values_of es (environment_at base s) s.draws) t (length_values es (environment_at base s) s.draws) e

pub length_append : (x : NumberType) (s t : State) → run_op (append x) s ≡ Some t → length t.store ≡ suc (length s.store)
length_append x s t e =
    let (r, got, to) = bind_some (first_draw s.draws) (λ r. number x r.0 >>= λ z. Some (record s { store = s.store ++ z ∷ []; draws = r.1 })) t e in
    let (z, fit, made) = bind_some (number x r.0) (λ z. Some (record s { store = s.store ++ z ∷ []; draws = r.1 })) t to in
    rw (← same_Some _ t made, length-append) (omega arith)

length_filled : (a : Array) (s : State) (v : Drawn (List ℤ)) (t : State) → filled a s v ≡ Some t → length t.store ≡ length s.store
length_filled a s None t e = absurd (none-some t e)
length_filled a s (Some r) t e = rw (← same_Some _ t e) refl

pub length_fill : (a : Array) (s t : State) → run_op (fill a) s ≡ Some t → length t.store ≡ length s.store
length_fill a s t e = length_filled a s (draws_of a.number_type a.length s.draws) t e

-- an index that waits leaves the store as it is
pub length_aim : (base : ℕ) (x : Element) (s m : State) → aim base x s ≡ Some m → length m.store ≡ length s.store
length_aim base x s m e =
    let (r, got, to) = bind_some (value_of x.index (environment_at base s) s.draws)
    (λ r. place_among x.array.length r.0 >>= λ k. Some (record s { waiting = k ∷ s.waiting; draws = r.1 })) m e in
    let (k, inside, made) = bind_some (place_among x.array.length r.0) (λ k. Some (record s { waiting = k ∷ s.waiting; draws = r.1 })) m to in
    rw (← same_Some _ m made) refl

pub length_give_element : (base : ℕ) (x : Element) (e : Expr) (s t : State) → run_op (store_element base x e) s ≡ Some t → length t.store ≡ length s.store
length_give_element base x e s t is =
    let (m, aimed, to) = bind_some (aim base x s) (λ m. receive (waiting_in x.array) m (value_of e (environment_at base m) m.draws)) t is in
    length_given (waiting_in x.array) m (value_of e (environment_at base m) m.draws) t to ∙ length_aim base x s m aimed

pub length_push_for : (base : ℕ) (x : Element) (es : List Argument) (s t : State) → run_op (push_for base x es) s ≡ Some t
    → length t.store ≡ length s.store + length es
length_push_for base x es s t e =
    let (m, aimed, to) = bind_some (aim base x s) (λ m. pushed m (values_of es (environment_at base m) m.draws)) t e in
    length_pushed m (length es) (values_of es (environment_at base m) m.draws) t (length_values es (environment_at base m) m.draws) to
    ∙ ap (λ n. n + length es) (length_aim base x s m aimed)

-- an operation by which so many variables are new
abbrev pub Adds : Op → ℕ → Type 0
Adds op n = (s t : State) → run_op op s ≡ Some t → length t.store ≡ length s.store + n

-- one that gives arguments: each is a new variable
abbrev pub AddsEach : (List Argument → Op) → Type 0
AddsEach gives = (es : List Argument) → Adds (gives es) (length es)

pub adds_given : (gives : List Argument → Op) (fn : Function) (c : Call) → AddsEach gives → length c.arguments ≡ length fn.parameters
    → Adds (gives (given fn c)) (width fn)
adds_given gives fn c adds i s t e = adds (given fn c) s t e ∙ ap (λ n. length s.store + n) (given_width fn.parameters c.arguments i)

-- where a jump leads, the store is as long as it was there
abbrev pub JumpLength : Frame → Exit → State → Type 0
JumpLength f broken t = (m : ℕ) × (f.breaks ≡ Some m) × (length t.store ≡ m)
JumpLength f continued t = (m : ℕ) × (f.continues ≡ Some m) × (length t.store ≡ m)
JumpLength f returned t = (b : ReturnFrame) → f.back ≡ Some b → length t.store ≡ b.length

abbrev pub LengthAt : Frame → ℕ → RunExtent → State → Type 0
LengthAt f n to_end t = length t.store ≡ n
LengthAt f n (stopped (by_jump j)) t = JumpLength f j t
LengthAt f n (stopped (to_point q)) t = Unit
LengthAt f n (stopped (to_failure q)) t = Unit

back_length : (f : Frame) (b : ReturnFrame) (t : State) → f.back ≡ Some b → length t.store ≡ b.length → JumpLength f returned t
back_length f b t e l b' e' = rw l (ap (λ (c : ReturnFrame). c.length) (same_Some b b' (sym e ∙ e')))

-- store lengths never fall below where a list of items began
pub grows_all : {P : Program} {T : List Site} {spot : InlineState} {s : BlockItems} {g : Node} {n q : ℕ} → InlineItems P T spot s g n q → spot.live ≤ n
grows_all as_none = omega arith
grows_all (as_declaration i j e) = let rest = grows_all e in omega arith
grows_all (as_array i e) = grows_all e
grows_all (as_statement d e) = grows_all e

abbrev pub in_loop : Frame → Option ℕ → Frame
in_loop f l = record f { breaks = l; continues = l }

returned_broken : returned ≡ broken → ⊥
returned_broken i = cc

not_jump : {j k : Exit} → j ≢ k → by_jump j ≢ by_jump k
not_jump d e = d cc

module _ (name : ℕ → Point) (may : State → State → Type 0) (keeps : KeepsWidth may) where
  -- begun with n variables the tree ends with n', or jumps with as many as there are at the jump's end
  pub record Length (f : Frame) (n n' : ℕ) (g : Node) : Type 0 where
    pub ends : (s t : Trace Point) (u : RunExtent) → length s.state.store ≡ n → RunsUpTo name may g s u t → LengthAt f n' u t.state

  seq_length : {f : Frame} {n n1 n2 : ℕ} (a b : Node) → Length f n n1 a → Length f n1 n2 b → Length f n n2 (seq a b)
  seq_length {f = f} {n = n} {n1 = n1} {n2 = n2} a b x y = record { ends = λ s t u l e. by s t u l (seq_inv name may a b s u t e) }
    where
      stops : (s t : Trace Point) (z : Stop) → LengthAt f n1 (stopped z) t.state → LengthAt f n2 (stopped z) t.state
      stops s t (by_jump j) l = l
      stops s t (to_point q) l = tt
      stops s t (to_failure q) l = tt

      by : (s t : Trace Point) (u : RunExtent) → length s.state.store ≡ n → ((z : Stop) × (u ≡ stopped z) × RunsUpTo name may a s (stopped z) t) ⊎
          ((m : Trace Point) × RunsUpTo name may a s to_end m × RunsUpTo name may b m u t)
          → LengthAt f n2 u t.state
      by s t u l (inl (z, i, e)) = rw i (stops s t z (x.ends s t (stopped z) l e))
      by s t u l (inr (m, e, e')) = y.ends m t u (x.ends s m to_end l e) e'

  point_length : {f : Frame} {n : ℕ} (q : ℕ) → Length f n n (point q)
  point_length {f = f} {n = n} q = record { ends = by }
    where
      by : (s t : Trace Point) (u : RunExtent) → length s.state.store ≡ n → RunsUpTo name may (point q) s u t → LengthAt f n u t.state
      by s t to_end l e = keeps s.state t.state e.0 ∙ l
      by s t (stopped (by_jump j)) l e = absurd e.0
      by s t (stopped (to_point p)) l e = tt
      by s t (stopped (to_failure p)) l e = tt

  act_length : {f : Frame} {n n' : ℕ} (q : ℕ) (op : Op) → ((s t : State) → length s.store ≡ n → run_op op s ≡ Some t → length t.store ≡ n') → Length f n n' (act q op)
  act_length q op o = record { ends = λ s t u l e. let x = act_inv name may q op s u t e in rw x.0 (o s.state t.state l x.1.0) }

  keep_length : {f : Frame} {n : ℕ} (q m : ℕ) → m ≤ n → Length f n m (act q (truncate_to m))
  keep_length q m k = act_length q (truncate_to m) (λ s t l e. length_keep m s t (omega arith) e)

  append_length : {f : Frame} {n : ℕ} (q : ℕ) (x : NumberType) → Length f n (suc n) (act q (append x))
  append_length q x = act_length q (append x) (λ s t l e. length_append x s t e ∙ ap suc l)

  give_length : {f : Frame} {n : ℕ} (q base : ℕ) (x : Receiver) (a : Expr) → Length f n n (act q (store_value base x a))
  give_length q base x a = act_length q (store_value base x a) (λ s t l e. length_given x s (value_of a (environment_at base s) s.draws) t e ∙ l)

  fill_length : {f : Frame} {n : ℕ} (q : ℕ) (a : Array) → Length f n n (act q (fill a))
  fill_length q a = act_length q (fill a) (λ s t l e. length_fill a s t e ∙ l)

  give_element_length : {f : Frame} {n : ℕ} (q base : ℕ) (x : Element) (a : Expr) → Length f n n (act q (store_element base x a))
  give_element_length q base x a = act_length q (store_element base x a) (λ s t l e. length_give_element base x a s t e ∙ l)

  any_length : {f : Frame} {n : ℕ} (q : ℕ) (x : Receiver) → Length f n n (act q (havoc x))
  any_length q x = act_length q (havoc x) (λ s t l e. length_any x s t e ∙ l)

  test_length : {f : Frame} {n : ℕ} (q base : ℕ) (c : Cond) (b : Bool) → Length f n n (act q (test base c b))
  test_length q base c b = act_length q (test base c b) (λ s t l e. length_test base c b s t e ∙ l)

  check_length : {f : Frame} {n : ℕ} (q base : ℕ) (c : Cond) → Length f n n (check q base c)
  check_length {f = f} {n = n} q base c = record { ends = by }
    where
      by : (s t : Trace Point) (u : RunExtent) → length s.state.store ≡ n → RunsUpTo name may (check q base c) s u t → LengthAt f n u t.state
      by s t to_end l e = length_test base c true s.state t.state e.0 ∙ l
      by s t (stopped (by_jump j)) l e = absurd e.0
      by s t (stopped (to_point p)) l e = tt
      by s t (stopped (to_failure p)) l e = tt

  -- after a jump any number
  break_length : {f : Frame} {m n : ℕ} (live : ℕ) → f.breaks ≡ Some m → Length f m n (leave live broken)
  break_length {m = m} live i = record { ends = λ s t u l e. let x = leave_inv name may live broken s u t e in rw (x.0, x.1) (m, i, l) }

  continue_length : {f : Frame} {m n : ℕ} (live : ℕ) → f.continues ≡ Some m → Length f m n (leave live continued)
  continue_length {m = m} live i = record { ends = λ s t u l e. let x = leave_inv name may live continued s u t e in rw (x.0, x.1) (m, i, l) }

  return_length : {f : Frame} {n : ℕ} (live : ℕ) (b : ReturnFrame) → f.back ≡ Some b → Length f b.length n (leave live returned)
  return_length {f = f} live b i = record { ends = λ s t u l e. let x = leave_inv name may live returned s u t e in rw (x.0, x.1) (back_length f b s.state i l) }

  end_length : {f : Frame} {m n : ℕ} (live : ℕ) → f.back ≡ None → Length f m n (leave live returned)
  end_length live i = record { ends = λ s t u l e. let x = leave_inv name may live returned s u t e in rw (x.0, x.1) (λ b j. absurd (none-some b (sym i ∙ j))) }

  return_node_length : {f : Frame} {n : ℕ} (q : ℕ) (op : Op) (b : ReturnFrame) → f.back ≡ Some b → b.length ≤ n → Length f n n (act q op) → Length f n n (return_node q op b.length n)
  return_node_length {n = n} q op b i k a = seq_length _ _ a (seq_length _ _ (keep_length q b.length k) (return_length n b i))

  choose_length : {f : Frame} {n n' : ℕ} (q base : ℕ) (c : Cond) (a b : Node) → Length f n n' a → Length f n n' b → Length f n n' (choose q base c a b)
  choose_length {f = f} {n' = n'} q base c a b x y = record {
    ends = λ s t u l e. elim e as (λ z. LengthAt f n' u t.state) [
      | inl i ↦ x.ends i.0 t u (length_test base c true s.state i.0.state i.1.0 ∙ l) i.2
      | inr i ↦ y.ends i.0 t u (length_test base c false s.state i.0.state i.1.0 ∙ l) i.2
    ];
  }

  pub tests_length : (q base : ℕ) (c : Cond) (b : Bool) (s t : Trace Point) → VisitsAndTests name may q base c b s t →
      length t.state.store ≡ length s.state.store
  tests_length q base c b s t (m, e, x) = length_test base c b m.state t.state x.0 ∙ keeps s.state m.state e.0

  -- of a loop that begins with n variables, its body g and its step
  module _ (f : Frame) (n : ℕ) (g step : Node) (x : Length (in_loop f (Some n)) n n g) (y : Length (in_loop f None) n n step) where
    pub mid_length : (s t : Trace Point) → length s.state.store ≡ n → EndsBodyRound name may g s t → length t.state.store ≡ n
    mid_length s t l (inl e) = x.ends s t to_end l e
    mid_length s t l (inr e) = let z = x.ends s t (stopped (by_jump continued)) l e in z.2 ∙ sym (same_Some _ _ z.1)

    pub round_length : (q base : ℕ) (c : Cond) (s t : Trace Point) → length s.state.store ≡ n → Round name may q base c g step s t → length t.state.store ≡ n
    round_length q base c s t l (w, o, (mid, b, e)) = y.ends mid t to_end (mid_length w mid (tests_length q base c true s w o ∙ l) b) e

    pub rounds_length : (q base : ℕ) (c : Cond) (k : ℕ) (s t : Trace Point) → length s.state.store ≡ n → TrailRounds (Round name may q base c g step) k s t → length t.state.store ≡ n
    rounds_length q base c zero s t l r = rw r l
    rounds_length q base c (suc k) s t l (m, r, o) = round_length q base c m t (rounds_length q base c k s m l r) o

    leaves_length : (s : Trace Point) (z : Stop) (t : Trace Point) → length s.state.store ≡ n → LeavesRound name may g step s z t
        → (z ≢ by_jump broken → LengthAt f n (stopped z) t.state) × (z ≡ by_jump broken → length t.state.store ≡ n)
    leaves_length s (by_jump broken) t l (inl (d, e)) = (λ i. absurd (i refl), λ i. let z = x.ends s t (stopped (by_jump broken)) l e in z.2 ∙ sym (same_Some _ _ z.1))
    leaves_length s (by_jump continued) t l (inl (d, e)) = absurd (d refl)
    leaves_length s (by_jump returned) t l (inl (d, e)) = (λ i. x.ends s t (stopped (by_jump returned)) l e, λ i. absurd (not_jump returned_broken i))
    leaves_length s (by_jump broken) t l (inr (m, b, e)) = let z = y.ends m t (stopped (by_jump broken)) (mid_length s m l b) e in absurd (none-some _ z.1)
    leaves_length s (by_jump continued) t l (inr (m, b, e)) = let z = y.ends m t (stopped (by_jump continued)) (mid_length s m l b) e in absurd (none-some _ z.1)
    leaves_length s (by_jump returned) t l (inr (m, b, e)) = (λ i. y.ends m t (stopped (by_jump returned)) (mid_length s m l b) e, λ i. absurd (not_jump returned_broken i))
    leaves_length s (to_point p) t l e = (λ i. tt, λ i. absurd cc)
    leaves_length s (to_failure p) t l e = (λ i. tt, λ i. absurd cc)

    after_length : (q base : ℕ) (c : Cond) (u : RunExtent) (m t : Trace Point) → length m.state.store ≡ n → EndsLoop name may q base c g step m t u → LengthAt f n u t.state
    after_length q base c _ m t k (loop_done o) = tests_length q base c false m t o ∙ k
    after_length q base c _ m t k (loop_at e) = tt
    after_length q base c _ m t k (loop_broken w o z) = (leaves_length w (by_jump broken) t (tests_length q base c true m w o ∙ k) z).1 refl
    after_length q base c _ m t k (loop_left w z o e d) = (leaves_length w z t (tests_length q base c true m w o ∙ k) e).0 d

    loop_length : (q base : ℕ) (c : Cond) → Length f n n (loop_node q base c g step)
    loop_length q base c = record {
      ends = λ s t u l e.
          let r = loop_inv name may q base c g step s u t e in
          after_length q base c u r.1 t (rounds_length q base c r.0 s r.1 l r.2) r.3;
    }

  -- of a call whose body is g
  module _ (spot : InlineState) (r : ℕ) (x : Receiver) (op : Op) (params : ℕ) (g : Node) (f' : Frame) (n' : ℕ) (adds : Adds op params)
      (no_break : f'.breaks ≡ None) (no_continue : f'.continues ≡ None)
      (j : f'.back ≡ Some (record { receiver = x; here = spot.frame.here; length = spot.live })) (d : spot.live + params ≤ n')
      (y : Length f' (spot.live + params) n' g) where
    end_of_body : (u t : Trace Point) → length u.state.store ≡ spot.live + params → EndsBody name may r spot.live x params g u t → length t.state.store ≡ spot.live
    end_of_body u t o b =
        let one : length b.before.state.store ≡ n' = y.ends u b.before to_end o b.body in
        let past : length b.past.state.store ≡ n' = keeps b.before.state b.past.state b.passed.0 ∙ one in
        let two : length b.cut.state.store ≡ spot.live + params = length_keep (spot.live + params) b.past.state b.cut.state (omega arith) b.cuts.0 in
        let three : length b.set.state.store ≡ spot.live + params = length_any x b.cut.state b.set.state b.sets.0 ∙ two in
        length_keep spot.live b.set.state t.state (omega arith) b.back.0

    stop_length : (z : Stop) (u t : Trace Point) → z ≢ by_jump returned → LengthAt f' n' (stopped z) t.state → LengthAt spot.frame spot.live (stopped z) t.state
    stop_length (by_jump broken) u t z w = absurd (none-some _ (sym no_break ∙ w.1))
    stop_length (by_jump continued) u t z w = absurd (none-some _ (sym no_continue ∙ w.1))
    stop_length (by_jump returned) u t z w = absurd (z refl)
    stop_length (to_point p) u t z w = tt
    stop_length (to_failure p) u t z w = tt

    call_outcome : (w t : Trace Point) (u : RunExtent) → length w.state.store ≡ spot.live + params → GoesCall name may spot r x params g w t u
        → LengthAt spot.frame spot.live u t.state
    call_outcome w t _ l (call_returned b) = y.ends w t (stopped (by_jump returned)) l b _ j
    call_outcome w t _ l (call_ended b) = end_of_body w t l b
    call_outcome w t _ l (call_stopped z d b) = stop_length z w t d (y.ends w t (stopped z) l b)
    call_outcome w t _ l (call_at_end b) = tt

    call_length : Length spot.frame spot.live spot.live (callee_node spot.next r spot.live x op params g)
    call_length = record {
      ends = λ s t u l e.
          let c = call_inv name may spot r x op params g s u t e in
          call_outcome c.0 t u (adds s.state c.0.state c.1.0 ∙ ap (λ n. n + params) l) c.2;
    }

  -- of a `switch`, by what its arms leave: `break` comes out after it
  module _ (spot : InlineState) (arms : Arms) (e : Expr) (inside : (l : CaseLabel) (s t : Trace Point) (u : RunExtent) → length s.state.store ≡ spot.live
      → ArmsRunUpTo name may l false arms s u t → LengthAt (record spot.frame { breaks = Some spot.live }) spot.live u t.state) where
    selected_length : (l : CaseLabel) (s m : Trace Point) → Finds spot.frame.here.base e arms s l m → length s.state.store ≡ spot.live
        → length m.state.store ≡ spot.live
    selected_length l s m (found, met) k = ap (λ (x : State). length x.store) found.2 ∙ k

    switch_outcome : (s t : Trace Point) (u : RunExtent) → length s.state.store ≡ spot.live
        → RunsUpTo name may (switch_node spot.next spot.frame.here.base e arms) s u t → LengthAt spot.frame spot.live u t.state
    switch_outcome s t to_end k (inl (l, m, f, x)) = inside l m t to_end (selected_length l s m f k) x
    switch_outcome s t to_end k (inr (l, m, f, x)) = let z = inside l m t (stopped (by_jump broken)) (selected_length l s m f k) x in z.2
        ∙ sym (same_Some _ _ z.1)
    switch_outcome s t (stopped (by_jump broken)) k (d, x) = absurd (d refl)
    switch_outcome s t (stopped (by_jump continued)) k (d, (l, m, f, x)) = inside l m t (stopped (by_jump continued)) (selected_length l s m f k) x
    switch_outcome s t (stopped (by_jump returned)) k (d, (l, m, f, x)) = inside l m t (stopped (by_jump returned)) (selected_length l s m f k) x
    switch_outcome s t (stopped (to_point p)) k (d, x) = tt
    switch_outcome s t (stopped (to_failure p)) k (d, x) = tt

  empty_length : (f : Frame) (n : ℕ) (s t : Trace Point) (u : RunExtent) → length s.state.store ≡ n → RunsUpTo name may empty s u t → LengthAt f n u t.state
  empty_length f n s t to_end l e = rw e l
  empty_length f n s t (stopped z) l e = absurd e

  -- an array's declarator: its elements are no variables
  pub length_array : (f : Frame) (n q : ℕ) (a : Array) → Length f n n (seq (point q) (act q (fill a)))
  length_array f n q a = seq_length _ _ (point_length q) (fill_length q a)

  mutual
    pub length_one : {P : Program} {T : List Site} {spot : InlineState} {s : Stmt} {g : Node} {q : ℕ} → InlineStmt P T spot s g q →
        Length spot.frame spot.live spot.live g
    length_one (as_nothing {s = spot} i) = point_length spot.next
    length_one (as_block {s = spot} {q = q'} d i) = seq_length _ _ (length_all d) (seq_length _ _ (point_length q') (keep_length q' spot.live (grows_all d)))
    length_one (as_absent {s = spot}) = record { ends = λ s t u l e. empty_length spot.frame spot.live s t u l e }
    length_one (as_assign {s = spot} i d) = seq_length _ _ (point_length spot.next) (length_gives d)
    length_one (as_write {s = spot} {x = x} {e = e} i) = seq_length _ _ (point_length spot.next) (give_element_length spot.next spot.frame.here.base x e)
    length_one (as_write_call {s = spot} {x = x} i d) = seq_length _ _ (point_length spot.next)
        (length_calls d (λ es s t e. length_push_for spot.frame.here.base x es s t e))
    length_one (as_call {s = spot} i d) = seq_length _ _ (point_length spot.next) (length_gives d)
    length_one (as_if {s = spot} {c = c} {g = g} {h = h} i d e) = seq_length _ _ (point_length spot.next) (choose_length spot.next spot.frame.here.base c g h (length_one d) (length_one e))
    length_one (as_loop d) = length_loop d
    length_one (as_for {s = spot} d e) = seq_length _ _ (length_all d) (seq_length _ _ (length_loop e) (keep_length spot.next spot.live (grows_all d)))
    length_one (as_break {s = spot} {m = m} i k j) = seq_length _ _ (point_length spot.next) (seq_length _ _ (keep_length spot.next m k) (break_length spot.live i))
    length_one (as_continue {s = spot} {m = m} i k j) = seq_length _ _ (point_length spot.next) (seq_length _ _ (keep_length spot.next m k) (continue_length spot.live i))
    length_one (as_return {s = spot} {b = b} i k j) = seq_length _ _ (point_length spot.next)
        (return_node_length spot.next _ b i k (any_length spot.next b.receiver))
    length_one (as_return_value {s = spot} {e = e} {b = b} i k j) = seq_length _ _ (point_length spot.next)
        (return_node_length spot.next _ b i k (give_length spot.next spot.frame.here.base b.receiver e))
    length_one (as_return_call {s = spot} {b = b} i k j d) = seq_length _ _ (point_length spot.next)
        (seq_length _ _ (length_gives d) (seq_length _ _ (keep_length spot.next b.length k) (return_length spot.live b i)))
    length_one (as_end {s = spot} i j) = seq_length _ _ (point_length spot.next) (end_length spot.live i)
    length_one (as_end_value {s = spot} {e = e} i j) = seq_length _ _ (point_length spot.next)
        (seq_length _ _ (give_length spot.next spot.frame.here.base _ e) (end_length spot.live i))
    length_one (as_end_call {s = spot} i j d) = seq_length _ _ (point_length spot.next) (seq_length _ _ (length_gives d) (end_length spot.live i))
    length_one (as_assert {s = spot} {c = c} i) = seq_length _ _ (point_length spot.next) (check_length spot.next spot.frame.here.base c)
    length_one (as_assume {s = spot} {c = c} i) = seq_length _ _ (point_length spot.next) (test_length spot.next spot.frame.here.base c true)
    length_one (as_switch {s = spot} {e = e} {arms = arms} i d) = seq_length _ _ (point_length spot.next) (record {
      ends = λ s t u l x. switch_outcome spot arms e (λ k a b v m y. length_cases d k false a b v m y) s t u l x;
    })

    -- after the label, or before it
    pub length_cases : {P : Program} {T : List Site} {spot : InlineState} {cs : Cases} {arms : Arms} {q : ℕ} → InlineCases P T spot cs arms q
        → (l : CaseLabel) (met : Bool) (s t : Trace Point) (u : RunExtent)
        → length s.state.store ≡ spot.live → ArmsRunUpTo name may l met arms s u t → LengthAt spot.frame spot.live u t.state
    length_cases as_no_cases l met s t to_end k x = rw x k
    length_cases as_no_cases l met s t (stopped z) k x = absurd x
    length_cases (as_labelled {l = m} d) l met s t u k x = length_cases d l (met || is_same_case l m) s t u k x
    length_cases (as_stated d e) l false s t u k x = length_cases e l false s t u k x
    length_cases (as_stated d e) l true s t to_end k (m, x, y) = length_cases e l true m t to_end ((length_one d).ends s m to_end k x) y
    length_cases (as_stated d e) l true s t (stopped z) k (inl x) = (length_one d).ends s t (stopped z) k x
    length_cases (as_stated d e) l true s t (stopped z) k (inr (m, x, y)) = length_cases e l true m t (stopped z) ((length_one d).ends s m to_end k x) y

    pub length_all : {P : Program} {T : List Site} {spot : InlineState} {s : BlockItems} {g : Node} {n q : ℕ} → InlineItems P T spot s g n q → Length spot.frame spot.live n g
    length_all (as_none {s = spot}) = record { ends = λ s t u l e. empty_length spot.frame spot.live s t u l e }
    length_all (as_declaration {s = spot} i j e) = seq_length _ _ (seq_length _ _ (point_length spot.next) (length_declares j)) (length_all e)
    length_all (as_array {s = spot} {a = a} i e) = seq_length _ _ (length_array spot.frame spot.live spot.next a) (length_all e)
    length_all (as_statement d e) = seq_length _ _ (length_one d) (length_all e)

    pub length_declares : {P : Program} {T : List Site} {spot : InlineState} {r : ℕ} {t : NumberType} {e : Option Rvalue} {g : Node} {q : ℕ} →
        InlineDeclarator P T spot r t e
        g q → Length spot.frame spot.live (suc spot.live) g
    length_declares (as_fresh {s = spot} {t = t}) = append_length spot.next t
    length_declares (as_given {s = spot} {t = t} d) = seq_length _ _ (append_length spot.next t) (length_gives d)

    pub length_loop : {P : Program} {T : List Site} {spot : InlineState} {r : ℕ} {s : Stmt} {g : Node} {q : ℕ} → InlineLoop P T spot r s g q → Length spot.frame spot.live spot.live g
    length_loop (is_loop {s = spot} {c = c} {g = g} {h = h} i d e) = loop_length spot.frame spot.live g h (length_one e) (length_one d) spot.next spot.frame.here.base c

    pub length_gives : {P : Program} {T : List Site} {spot : InlineState} {r : ℕ} {x : Receiver} {e : Rvalue} {g : Node} {q : ℕ} →
        InlineRvalue P T spot r x e g q → Length
        spot.frame spot.live spot.live g
    length_gives (as_value {s = spot} {x = x} {e = e}) = give_length spot.next spot.frame.here.base x e
    length_gives (as_result {s = spot} d) = length_calls d (λ es s t e. length_push spot.frame.here.base es s t e)

    pub length_calls : {P : Program} {T : List Site} {spot : InlineState} {r : ℕ} {x : Receiver} {gives : List Argument → Op} {c : Call} {g : Node} {q : ℕ}
        → InlineCall P T spot r x gives c g q → AddsEach gives → Length spot.frame spot.live spot.live g
    length_calls (is_call {s = spot} {x = x} {gives = gives} {c = c} {fn = fn} {g = g} {n = n'} {q = r'} i j d k) adds =
        call_length spot r' (inner fn x) (gives (given fn c)) (width fn) g (callee spot.frame spot.live (inner fn x) c) n' (adds_given gives fn c adds j)
        refl refl refl (grows_all d) (length_all d)

  -- a declarator's point, and what follows it
  pub length_declarator : {P : Program} {T : List Site} {spot : InlineState} {r : ℕ} {t : NumberType} {e : Option Rvalue} {g : Node} {q : ℕ} →
      InlineDeclarator P T spot r t e
      g q →
      Length spot.frame spot.live (suc spot.live) (seq (point spot.next) g)
  length_declarator {spot} d = seq_length _ _ (point_length spot.next) (length_declares d)
