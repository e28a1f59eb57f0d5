-- What a tree asks at a point where something holds of what is on top of a run: it holds of an operation there.
use Rattle.std.proofs.Common.{◌≡◌, ℕ, ◌<◌, List, [], ◌∷◌, ◌++◌, length, Option, Some, None, Bool, true, false, refl, sym, ap, ◌∙◌, subst, IsTrue, arith}
use Rattle.std.proofs.{lemmas.Bool.Decides.nat_tests, lemmas.List.Elements.Contains-append_left, lemmas.List.Elements.Contains-append_right, lemmas.Option.same_Some, lemmas.Option.slice_get_within}
use Rattle.std.specs.{List.Contains, Prelude.if◌then◌else◌, Prelude.cond, Prelude.nat_lt}
use Rattle.lra_inline_sound.specs.Crates.lra_program.Accesses.{op_accesses, op_accesses_any, OpOutOfBounds}
use Rattle.lra_inline_sound.specs.Crates.lra_program.NextOperation.{CallOpIs, RvalueOpIs, DeclaratorOpIs}
use Rattle.lra_inline_sound.specs.Crates.lra_program.Program.{Expr, Cond, Call, Rvalue, Function, Program}
use Rattle.lra_inline_sound.specs.Crates.lra_program.Step.{State, Op, append, store_value, test, arguments_for}
use Rattle.lra_inline_sound.specs.Crates.{lra_base.CaseLabels.is_same_case, lra_base.declared.case_labels.CaseLabel.CaseLabel, lra_base.declared.number_types.NumberType.NumberType}
use Rattle.lra_inline_sound.specs.Crates.{lra_program.Overflow.op_computes, lra_program.Overflow.OpOverflows, lra_program.Receivers.variable_at, lra_program.Receivers.nobody, lra_program.Sites.Site}
use Rattle.lra_inline_sound.specs.Crates.{lra_program.Value.Argument, lra_program.declared.receivers.Receiver.Receiver}
use Rattle.lra_inline_sound.proofs.Crates.{lra_program.AccessLaws.straying_access, lra_program.TypeLaws.overflowing_compute}
use Rattle.lra_operations.specs.CheckedOperations.{OpAtPoint, op_where, ops_where, ops_where_in_arms, fresh_after, HoldsWithFresh, HoldsAtPoint}
use Rattle.lra_operations.specs.Inlined.{InlineState, InlineDeclarator, InlineRvalue, InlineCall, as_fresh, as_given, as_value, as_result, is_call, loop_node, switch_node}
use Rattle.lra_operations.specs.Tree.{Exit, Node, seq, choose, iterate, catch, select, Arms, no_arms, entry, arm}
use Rattle.lra_operations.proofs.ArmRows.{arms_row, row_behind}
use Rattle.lra_inline_sound.proofs.Shapes.{given}

-- a question about operations, and of which it is asked: it holds of those alone
pub record Question : Type 1 where
  pub asks : Op → Bool
  pub holds : Op → State → Type 0
  pub asked : (op : Op) (s : State) → holds op s → IsTrue (asks op)

-- that a number isn't one of its type, and that the n-th access is outside its array
abbrev pub overflows : Question
overflows = record { asks = op_computes; holds = OpOverflows; asked = overflowing_compute }

one_at_least : (n k : ℕ) → n < k → IsTrue (nat_lt 0 k)
one_at_least n k less = grind (arith, nat_tests)

pub straying_accesses : (n : ℕ) (op : Op) (s : State) → OpOutOfBounds op s n → IsTrue (op_accesses_any op)
straying_accesses n op s h = let (x, at, outside) = straying_access op s n h in
    one_at_least n (length (op_accesses op)) (slice_get_within (op_accesses op) n x at)

abbrev pub strays : ℕ → Question
strays n = record { asks = op_accesses_any; holds = λ op s. OpOutOfBounds op s n; asked = straying_accesses n }

module _ (Q : Question) where
  -- one of these operations is at the point, and it holds of it if the point is on top in this state
  pub record Asks (xs : List OpAtPoint) (number : ℕ) (s : State) : Type 0 where
    pub asked : OpAtPoint
    pub among : Contains xs asked
    pub there : asked.point ≡ number
    pub holds : HoldsAtPoint Q.holds asked s

  abbrev pub own : ℕ → Option NumberType → Op → List OpAtPoint
  own q fresh op = op_where Q.asks q fresh op

  abbrev pub all_in : Option NumberType → Node → List OpAtPoint
  all_in fresh g = ops_where Q.asks fresh g

  abbrev pub all_in_arms : Option NumberType → Arms → List OpAtPoint
  all_in_arms fresh arms = ops_where_in_arms Q.asks fresh arms

  pub asks_left : (xs ys : List OpAtPoint) (number : ℕ) (s : State) → Asks xs number s → Asks (xs ++ ys) number s
  asks_left xs ys number s x = record { asked = x.asked; among = Contains-append_left xs ys x.asked x.among; there = x.there; holds = x.holds }

  pub asks_right : (xs ys : List OpAtPoint) (number : ℕ) (s : State) → Asks ys number s → Asks (xs ++ ys) number s
  asks_right xs ys number s x = record { asked = x.asked; among = Contains-append_right xs ys x.asked x.among; there = x.there; holds = x.holds }

  has_one : (b : Bool) (x : OpAtPoint) → IsTrue b → Contains (if b then x ∷ [] else []) x
  has_one true x t = (0, omega arith, refl)
  has_one false x t = absurd cc

  -- an operation of which it holds is asked
  pub asks_op : (q : ℕ) (fresh : Option NumberType) (op : Op) (s m : State) → Q.holds op m → HoldsWithFresh Q.holds fresh op s → Asks (own q fresh op) q s
  asks_op q fresh op s m over holds = record {
    asked = record { point = q; fresh = fresh; op = op };
    among = has_one (Q.asks op) (record { point = q; fresh = fresh; op = op }) (Q.asked op m over);
    there = refl;
    holds = holds;
  }

  -- at a statement's own point
  pub asks_own : (q : ℕ) (op : Op) (s : State) → Q.holds op s → Asks (own q None op) q s
  asks_own q op s over = asks_op q None op s s over over

  -- where the points of the one tree are asked, whatever is new before them, they are in the other
  abbrev pub AsksAs : Node → Node → Type 0
  AsksAs g h = (fresh : Option NumberType) (q : ℕ) (s : State) → ((before : Option NumberType) → Asks (all_in before g) q s) → Asks (all_in fresh h) q s

  pub asks_first : (g h : Node) → AsksAs g (seq g h)
  asks_first g h fresh q s x = asks_left (all_in fresh g) (all_in (fresh_after fresh g) h) q s (x fresh)

  pub asks_second : (g h : Node) → AsksAs h (seq g h)
  asks_second g h fresh q s x = asks_right (all_in fresh g) (all_in (fresh_after fresh g) h) q s (x (fresh_after fresh g))

  -- if no variable is new
  pub asks_front : (g h : Node) (q : ℕ) (s : State) → Asks (all_in None g) q s → Asks (all_in None (seq g h)) q s
  asks_front g h q s x = asks_left (all_in None g) (all_in (fresh_after None g) h) q s x

  module _ (n base : ℕ) (c : Cond) (g h : Node) where
    abbrev tested : List OpAtPoint
    tested = own n None (test base c true)

    pub asks_true : AsksAs g (choose n base c g h)
    asks_true fresh q s x = asks_left (tested ++ all_in None g) (all_in None h) q s (asks_right tested (all_in None g) q s (x None))

    pub asks_false : AsksAs h (choose n base c g h)
    asks_false fresh q s x = asks_right (tested ++ all_in None g) (all_in None h) q s (x None)

    -- and the condition
    pub asks_condition : (s : State) → Q.holds (test base c true) s → Asks (all_in None (choose n base c g h)) n s
    asks_condition s over = asks_left (tested ++ all_in None g) (all_in None h) n s
        (asks_left tested (all_in None g) n s (asks_own n (test base c true) s over))

    pub asks_loop : (fresh : Option NumberType) (s : State) → Q.holds (test base c true) s → Asks (all_in fresh (loop_node n base c g h)) n s
    asks_loop fresh s over = asks_left tested (all_in None g ++ all_in None h) n s (asks_own n (test base c true) s over)

  pub asks_round : (n base : ℕ) (c : Cond) (g : Node) → AsksAs g (iterate n base c g)
  asks_round n base c g fresh q s x = asks_right (own n None (test base c true)) (all_in None g) q s (x None)

  pub asks_caught : (n : ℕ) (j : Exit) (g : Node) → AsksAs g (catch n j g)
  asks_caught n j g fresh q s x = x None

  -- the arms of a `switch` ask what their row does
  asking_row : (fresh : Option NumberType) (arms : Arms) → all_in fresh (arms_row arms) ≡ all_in_arms fresh arms
  asking_row fresh no_arms = refl
  asking_row fresh (entry l arms) = asking_row fresh arms
  asking_row fresh (arm a arms) = ap (λ xs. all_in fresh a ++ xs) (asking_row (fresh_after fresh a) arms)

  -- those after a label
  asks_entered : (l : CaseLabel) (arms : Arms) (t : Bool) (fresh : Option NumberType) (q : ℕ) (s : State)
      → (((before : Option NumberType) → Asks (all_in before (row_behind l arms)) q s) → Asks (all_in_arms fresh arms) q s)
      → ((before : Option NumberType) → Asks (all_in before (cond t (arms_row arms) (row_behind l arms))) q s) → Asks (all_in_arms fresh arms) q s
  asks_entered l arms true fresh q s each x = subst (λ xs. Asks xs q s) (asking_row fresh arms) (x fresh)
  asks_entered l arms false fresh q s each x = each x

  asks_behind : (l : CaseLabel) (arms : Arms) (fresh : Option NumberType) (q : ℕ) (s : State)
      → ((before : Option NumberType) → Asks (all_in before (row_behind l arms)) q s)
      → Asks (all_in_arms fresh arms) q s
  asks_behind l no_arms fresh q s x = x fresh
  asks_behind l (entry k arms) fresh q s x = asks_entered l arms (is_same_case l k) fresh q s (asks_behind l arms fresh q s) x
  asks_behind l (arm a arms) fresh q s x = asks_right (all_in fresh a) (all_in_arms (fresh_after fresh a) arms) q s
      (asks_behind l arms (fresh_after fresh a) q s x)

  pub asks_selected : (n base : ℕ) (e : Expr) (arms : Arms) (l : CaseLabel) → AsksAs (row_behind l arms) (select n base e arms)
  asks_selected n base e arms l fresh q s x = asks_right (own n None (store_value base nobody e)) (all_in_arms None arms) q s (asks_behind l arms None q s x)

  -- and its own value
  pub asks_value : (n base : ℕ) (e : Expr) (arms : Arms) (s : State) → Q.holds (store_value base nobody e) s →
      Asks (all_in None (switch_node n base e arms)) n s
  asks_value n base e arms s over =
      asks_left (own n None (store_value base nobody e)) (all_in_arms None arms) n s (asks_own n (store_value base nobody e) s over)

  module _ {P : Program} {T : List Site} where
    -- what a call's operation does in the state m that the one on top becomes by a new variable, if one is made
    pub asks_calls : {spot : InlineState} {r : ℕ} {x : Receiver} {gives : List Argument → Op} {c : Call} {g : Node} {q : ℕ} →
        InlineCall P T spot r x gives c g q
        → (fresh : Option NumberType) (s m : State) → ((op : Op) → Q.holds op m → HoldsWithFresh Q.holds fresh op s) → CallOpIs Q.holds P gives c m
        → Asks (all_in fresh g) spot.next s
    asks_calls (is_call {s = spot} {r = r} {x = x} {gives = gives} {c = c} {fn = fn} {g = g} {q = q'} found i d has) fresh s m behind over =
        let op : Op = gives (given fn c) in
        let here : Q.holds op m = subst (λ (f : Function). Q.holds (gives (arguments_for f.parameters c.arguments)) m)
        (same_Some over.0 fn (sym over.1 ∙ found)) over.2 in
        asks_left (own spot.next fresh op) _ spot.next s (asks_op spot.next fresh op s m here (behind op here))

    -- what a receiver gets
    pub asks_gives : {spot : InlineState} {r : ℕ} {x : Receiver} {v : Rvalue} {g : Node} {q : ℕ} → InlineRvalue P T spot r x v g q →
        (fresh : Option NumberType) (s m : State)
        → ((op : Op) → Q.holds op m → HoldsWithFresh Q.holds fresh op s) → RvalueOpIs Q.holds P x v spot.frame.here m → Asks (all_in fresh g) spot.next s
    asks_gives (as_value {s = spot} {x = x} {e = e}) fresh s m behind over = asks_op spot.next fresh (store_value spot.frame.here.base x e) s m over
        (behind (store_value spot.frame.here.base x e) over)
    asks_gives (as_result d) fresh s m behind over = asks_calls d fresh s m behind over

    -- at the point of what gets the value
    pub asks_given : {spot : InlineState} {r : ℕ} {x : Receiver} {v : Rvalue} {g : Node} {q : ℕ} → InlineRvalue P T spot r x v g q → (s : State)
        → RvalueOpIs Q.holds P x v spot.frame.here s → Asks (all_in None g) spot.next s
    asks_given d s over = asks_gives d None s s (λ op o. o) over

    -- of a declarator
    pub asks_declared : {spot : InlineState} {r : ℕ} {t : NumberType} {o : Option Rvalue} {g : Node} {q : ℕ} → InlineDeclarator P T spot r t o g q → (s : State)
        → length s.store ≡ spot.live → DeclaratorOpIs Q.holds P t o spot.frame.here s → Asks (all_in None g) spot.next s
    asks_declared (as_fresh {s = spot}) s l over = absurd over
    asks_declared (as_given {s = spot} {t = t} {e = e} {g = g} d) s l (m, made, over) =
        asks_right (own spot.next None (append t)) (all_in (Some t) g) spot.next s
        (asks_gives d (Some t) s m (λ op o. (m, made, o)) (subst (λ k. RvalueOpIs Q.holds P (variable_at k t) e spot.frame.here m) l over))
