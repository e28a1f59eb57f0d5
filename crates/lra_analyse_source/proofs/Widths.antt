-- A program's tree reaches each point with as many variables as live there.
use Rattle.std.proofs.Common.{◌≡◌, ℕ, suc, ◌+◌, ◌-◌, ◌≤◌, List, length, Option, Bool, true, refl, sym, ap, ◌∙◌, subst, arith}
use Rattle.std.proofs.lemmas.Option.{same_Some}
use Rattle.lra_analyse_source.specs.Crates.lra_analysis_spec.Live.{live_after_op, live_after}
use Rattle.lra_analyse_source.specs.Crates.lra_operations.Inlined.{InlineState, spot_of, move, callee, IsSiteWith, InlineStmt, InlineItems, InlineDeclarator, InlineLoop, InlineRvalue, as_nothing}
use Rattle.lra_analyse_source.specs.Crates.lra_operations.Inlined.{as_block, as_absent, as_assign, as_call, as_if, as_loop, as_for, as_break, InlineCases, as_switch, as_no_cases, as_labelled}
use Rattle.lra_analyse_source.specs.Crates.lra_operations.Inlined.{as_stated, as_continue, as_return, as_return_value, as_return_call, as_end, as_end_value, as_end_call, as_assert, as_assume, as_none}
use Rattle.lra_analyse_source.specs.Crates.lra_operations.Inlined.{as_declaration, as_statement, as_fresh, as_given, is_loop, as_value, as_result, is_call, InlineCall, as_array, as_write}
use Rattle.lra_analyse_source.specs.Crates.lra_operations.Inlined.{as_write_call, loop_node, return_node, main_inline_state}
use Rattle.lra_analyse_source.specs.Crates.lra_operations.Tree.{Exit, broken, continued, returned, Node, Arms, point, act, seq, catch, leave}
use Rattle.lra_analyse_source.specs.Crates.lra_program.Program.{Cond, Call, Rvalue, Stmt, Cases, BlockItems, Program}
use Rattle.lra_analyse_source.specs.Crates.lra_program.Step.{Op, append, store_value, havoc, truncate_to, test, arguments_for}
use Rattle.lra_analyse_source.specs.Crates.{lra_base.declared.number_types.NumberType.NumberType, lra_operations.Agree.IsInlinedTree, lra_program.Receivers.result_receiver, lra_program.Sites.Site}
use Rattle.lra_analyse_source.specs.Crates.{lra_program.Sites.sites_of, lra_program.Value.Argument, lra_program.declared.receivers.Receiver.Receiver}
use Rattle.lra_analyse_source.specs.Crates.lra_program.Step as step
use Rattle.lra_analyse_source.proofs.Crates.lra_program.GivenArguments.{given_width}
use Rattle.lra_fixpoint.specs.Lives.{ArmsHave, LiveAt, PointsHave}

-- trees --------------------------------------------------------------------------------------------------------------

live_at : (T : List Site) (spot : InlineState) (at : ℕ) (b : Bool) → IsSiteWith T spot at b → LiveAt T spot.next spot.live
live_at T spot at b has s there = ap (λ (x : Site). x.live) (same_Some _ s (sym has ∙ there))

-- begun with n variables, the tree has its points so and ends with n' variables
pub record Lives (T : List Site) (n n' : ℕ) (g : Node) : Type 0 where
  pub points : PointsHave T g n
  pub behind : live_after g n ≡ n'

keep_is : (n m : ℕ) → m ≤ n → n - (n - m) ≡ m
keep_is n m h = omega arith

module _ (T : List Site) where
  then_lives : {n n1 n2 : ℕ} (a b : Node) → Lives T n n1 a → Lives T n1 n2 b → Lives T n n2 (seq a b)
  then_lives {n = n} {n1 = n1} {n2 = n2} a b x y =
      let z : Lives T (live_after a n) n2 b = subst (λ (m : ℕ). Lives T m n2 b) (sym x.behind) y in
      record { points = (x.points, z.points); behind = z.behind }

  at_point : {n : ℕ} (q : ℕ) → LiveAt T q n → Lives T n n (point q)
  at_point q h = record { points = h; behind = refl }

  acts : {n n' : ℕ} (q : ℕ) (op : Op) → live_after_op op n ≡ n' → Lives T n n' (act q op)
  acts q op is = record { points = tt; behind = is }

  keeps : {n : ℕ} (q m : ℕ) → m ≤ n → Lives T n m (act q (truncate_to m))
  keeps {n = n} q m h = acts q (truncate_to m) (keep_is n m h)

  leaves : {m : ℕ} (n : ℕ) (k : Exit) → Lives T m n (leave n k)
  leaves n k = record { points = tt; behind = refl }

  returns : {n : ℕ} (q : ℕ) (op : Op) (m : ℕ) → m ≤ n → live_after_op op n ≡ n → Lives T n n (return_node q op m n)
  returns {n = n} q op m low is = then_lives _ _ (acts q op is) (then_lives _ _ (keeps q m low) (leaves n returned))

  loops : {n : ℕ} (q base : ℕ) (c : Cond) (g h : Node) → LiveAt T q n → Lives T n n g → Lives T n n h → Lives T n n (loop_node q base c g h)
  loops {n = n} q base c g h here x y =
      let caught_body : Lives T n n (catch q continued g) = record { points = x.points; behind = x.behind } in
      let body : Lives T n n (seq (catch q continued g) h) = then_lives _ _ caught_body y in
      record { points = (here, body.points, body.behind); behind = refl }

  low_all : {P : Program} {spot : InlineState} {s : BlockItems} {g : Node} {n q : ℕ} → InlineItems P T spot s g n q → spot.live ≤ n
  low_all as_none = omega arith
  low_all (as_declaration i j e) = let rest = low_all e in omega arith
  low_all (as_array i e) = low_all e
  low_all (as_statement d e) = low_all e

  module _ (P : Program) where
    mutual
      lives_one : {spot : InlineState} {s : Stmt} {g : Node} {q : ℕ} → InlineStmt P T spot s g q → Lives T spot.live spot.live g
      lives_one (as_nothing {s = spot} {at = at} i) = at_point spot.next (live_at T spot at _ i)
      lives_one (as_block {s = spot} {end = end} {n = n'} {q = q'} d i) = then_lives _ _ (lives_all d)
          (then_lives _ _ (at_point q' (live_at T (move spot n' q') end _ i)) (keeps q' spot.live (low_all d)))
      lives_one as_absent = record { points = tt; behind = refl }
      lives_one (as_assign {s = spot} {at = at} i d) = then_lives _ _ (at_point spot.next (live_at T spot at _ i)) (lives_gives d)
      lives_one (as_write {s = spot} {at = at} {x = x} {e = e} i) = then_lives _ _ (at_point spot.next (live_at T spot at _ i))
          (acts spot.next (step.store_element spot.frame.here.base x e) refl)
      lives_one (as_write_call {s = spot} {at = at} i d) = then_lives _ _ (at_point spot.next (live_at T spot at _ i)) (lives_calls d (λ es n. refl))
      lives_one (as_call {s = spot} {at = at} i d) = then_lives _ _ (at_point spot.next (live_at T spot at _ i)) (lives_gives d)
      lives_one (as_if {s = spot} {at = at} {g = g} {h = h} i d e) =
          let x : Lives T spot.live spot.live g = lives_one d in
          let y : Lives T spot.live spot.live h = lives_one e in
          then_lives _ _ (at_point spot.next (live_at T spot at _ i)) (record { points = (x.points, y.points); behind = x.behind })
      lives_one (as_loop d) = lives_loop d
      lives_one (as_for {s = spot} d e) = then_lives _ _ (lives_all d) (then_lives _ _ (lives_loop e) (keeps spot.next spot.live (low_all d)))
      lives_one (as_break {s = spot} {at = at} {m = m} i l j) = then_lives _ _ (at_point spot.next (live_at T spot at _ j)) (then_lives _ _ (keeps spot.next m l) (leaves spot.live broken))
      lives_one (as_continue {s = spot} {at = at} {m = m} i l j) = then_lives _ _ (at_point spot.next (live_at T spot at _ j)) (then_lives _ _ (keeps spot.next m l) (leaves spot.live continued))
      lives_one (as_return {s = spot} {at = at} {b = b} i l j) = then_lives _ _ (at_point spot.next (live_at T spot at _ j))
          (returns spot.next (havoc b.receiver) b.length l refl)
      lives_one (as_return_value {s = spot} {at = at} {e = e} {b = b} i l j) = then_lives _ _ (at_point spot.next (live_at T spot at _ j))
          (returns spot.next (store_value spot.frame.here.base b.receiver e) b.length l refl)
      lives_one (as_return_call {s = spot} {at = at} {b = b} i l j d) =
          then_lives _ _ (at_point spot.next (live_at T spot at _ j)) (then_lives _ _ (lives_gives d) (then_lives _ _ (keeps spot.next b.length l) (leaves spot.live returned)))
      lives_one (as_end {s = spot} {at = at} i j) = then_lives _ _ (at_point spot.next (live_at T spot at _ j)) (leaves spot.live returned)
      lives_one (as_end_value {s = spot} {at = at} {e = e} i j) = then_lives _ _ (at_point spot.next (live_at T spot at _ j))
          (then_lives _ _ (acts spot.next (store_value spot.frame.here.base _ e) refl) (leaves spot.live returned))
      lives_one (as_end_call {s = spot} {at = at} i j d) = then_lives _ _ (at_point spot.next (live_at T spot at _ j)) (then_lives _ _ (lives_gives d) (leaves spot.live returned))
      lives_one (as_assert {s = spot} {at = at} i) = then_lives _ _ (at_point spot.next (live_at T spot at _ i)) (record { points = tt; behind = refl })
      lives_one (as_assume {s = spot} {at = at} {c = c} i) = then_lives _ _ (at_point spot.next (live_at T spot at _ i)) (acts spot.next (test spot.frame.here.base c true) refl)
      lives_one (as_switch {s = spot} {at = at} i d) = then_lives _ _ (at_point spot.next (live_at T spot at _ i))
          (record { points = lives_cases d; behind = refl })

      lives_cases : {spot : InlineState} {cs : Cases} {arms : Arms} {q : ℕ} → InlineCases P T spot cs arms q → ArmsHave T arms spot.live
      lives_cases as_no_cases = tt
      lives_cases (as_labelled d) = lives_cases d
      lives_cases (as_stated {s = spot} {g = g} d e) = let x : Lives T spot.live spot.live g = lives_one d in (x.points, x.behind, lives_cases e)

      lives_all : {spot : InlineState} {s : BlockItems} {g : Node} {n q : ℕ} → InlineItems P T spot s g n q → Lives T spot.live n g
      lives_all as_none = record { points = tt; behind = refl }
      lives_all (as_declaration {s = spot} {d = d} i j e) = then_lives _ _ (then_lives _ _ (at_point spot.next (live_at T spot d.label _ i)) (lives_declares j)) (lives_all e)
      lives_all (as_array {s = spot} {at = at} {a = a} i e) =
          then_lives _ _ (then_lives _ _ (at_point spot.next (live_at T spot at _ i)) (acts spot.next (step.fill a) refl)) (lives_all e)
      lives_all (as_statement d e) = then_lives _ _ (lives_one d) (lives_all e)

      lives_declares : {spot : InlineState} {r : ℕ} {t : NumberType} {e : Option Rvalue} {g : Node} {q : ℕ} → InlineDeclarator P T spot r t e g q →
          Lives T spot.live
          (suc spot.live) g
      lives_declares (as_fresh {s = spot} {t = t}) = acts spot.next (append t) refl
      lives_declares (as_given {s = spot} {t = t} d) = then_lives _ _ (acts spot.next (append t) refl) (lives_gives d)

      lives_loop : {spot : InlineState} {r : ℕ} {s : Stmt} {g : Node} {q : ℕ} → InlineLoop P T spot r s g q → Lives T spot.live spot.live g
      lives_loop (is_loop {s = spot} {at = at} {c = c} {g = g} {h = h} i d e) = loops spot.next spot.frame.here.base c g h (live_at T spot at _ i) (lives_one e) (lives_one d)

      lives_gives : {spot : InlineState} {r : ℕ} {x : Receiver} {e : Rvalue} {g : Node} {q : ℕ} → InlineRvalue P T spot r x e g q →
          Lives T spot.live spot.live g
      lives_gives (as_value {s = spot} {x = x} {e = e}) = acts spot.next (store_value spot.frame.here.base x e) refl
      lives_gives (as_result d) = lives_calls d (λ es n. refl)

      lives_calls : {spot : InlineState} {r : ℕ} {x : Receiver} {gives : List Argument → Op} {c : Call} {g : Node} {q : ℕ} →
          InlineCall P T spot r x gives c g q →
          ((es : List Argument) (n : ℕ) → live_after_op (gives es) n ≡ n + length es) → Lives T spot.live spot.live g
      lives_calls (is_call {s = spot} {x = x} {gives = gives} {c = c} {fn = fn} {g = g} {n = n'} {q = r'} i j d k) adds =
          let y = result_receiver fn.result_type x in
          let given = arguments_for fn.parameters c.arguments in
          let params = length fn.parameters in
          let low : spot.live + params ≤ n' = low_all d in
          let inner : Lives T (spot.live + params) spot.live (seq g (seq (point r')
          (seq (act r' (truncate_to (spot.live + params))) (seq (act r' (havoc y)) (act r' (truncate_to spot.live)))))) =
          then_lives _ _ (lives_all d) (then_lives _ _ (at_point r' (live_at T (spot_of (callee spot.frame spot.live y c) n' r') fn.end _ k))
          (then_lives _ _ (keeps r' (spot.live + params) low)
          (then_lives _ _ (acts r' (havoc y) refl) (keeps r' spot.live (omega arith))))) in
          then_lives _ _ (acts spot.next (gives given) (adds given spot.live ∙ ap (λ (k : ℕ). spot.live + k) (given_width fn.parameters c.arguments j)))
          (record { points = inner.points; behind = inner.behind })

pub graph_lives : (P : Program) (g : Node) → IsInlinedTree P g → PointsHave (sites_of P) g (length P.globals)
graph_lives P g graph =
    let T = sites_of P in
    let body = lives_all T P graph.inlined in
    let last = at_point T graph.last (live_at T (move (main_inline_state P) graph.live graph.last) P.main.end _ graph.ends) in
    subst (λ (h : Node). PointsHave T h (length P.globals)) (sym graph.parts) (then_lives T graph.body (point graph.last) body last).points
