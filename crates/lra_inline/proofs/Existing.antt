-- Each well-formed program that passes no limit has a tree of operations.
use Rattle.std.proofs.Common.{◌≡◌, ℕ, zero, suc, ◌+◌, ◌≤◌, List, [], ◌∷◌, ◌++◌, length, Option, Some, None, refl, sym, ap, ◌∙◌, subst, arith}
use Rattle.std.proofs.lemmas.Option.{none-some}
use Rattle.std.specs.Prelude.{nat_lt}
use Rattle.lra_program.specs.Program.{Call, Rvalue, value, result, Stmt, absent, nothing, block, assign, write, call, if, loop, for, break, continue, return, assert, assume, BlockItems, no_more}
use Rattle.lra_program.specs.Program.{declaration, array, statement, switch, Cases, no_cases, labelled, stated, Program}
use Rattle.lra_program.specs.Sites.{Site, Event, comes, one_call_more, plain_site, live_after_items, rvalue_events, given_events, stmt_events, cases_events, items_events, function_events, call_events}
use Rattle.lra_program.specs.{Receivers.variable_at, Receivers.waiting_in, Receivers.nobody, Receivers.result_receiver, Sites.events_of, Step.Op, Step.append, Step.store_value, Step.havoc, Step.push}
use Rattle.lra_program.specs.{Step.push_for, Step.truncate_to, Step.arguments_for, Value.Argument, Value.index_of, WellFormed.IsWellFormed, declared.receivers.Receiver.Receiver}
use Rattle.lra_base.specs.declared.number_types.NumberType.{NumberType}
use Rattle.lra_operations.specs.Tree.{returned, Node, empty, point, act, seq, choose, leave, Arms, no_arms, entry, arm}
use Rattle.lra_operations.specs.{Agree.IsInlinedTree, Inlined.return_node, Inlined.callee_node, Inlined.loop_node, Inlined.switch_node}
use Rattle.lra_inline.specs.Crates.{lra_resolution_spec.Refuse.greatest_live, lra_resolution_spec.Refuse.greatest_points, lra_resolution_spec.Refuse.limit_fault, lra_syntax.Labels.Labelled}
use Rattle.lra_inline_steps.specs.Building.{inside, StmtStands, CasesStand, ItemsStand, GivenStands, CallStands, cases_frame, WritesStmt, WritesCases, WritesItems, WritesRvalue, WritesCall}
use Rattle.lra_inline_steps.specs.declared.points.Limit.TheVariants.{Variables, Points, Calls}
use Rattle.lra_inline_steps.specs.{Building.WritesDeclared, Limits.Progress, Limits.passed, Limits.stopped, Limits.add_points, declared.frame.Frame.Frame}
use Rattle.lra_inline_steps.proofs.Standing.{block_stands, assign_stands, write_stands, call_stands, true_stands, false_stands, return_stands, first_stands, others_stand, array_stands, result_stands}
use Rattle.lra_inline_steps.proofs.Standing.{declared_stands, behind_stand, switch_stands, labelled_stand, first_case_stands, other_cases_stand, body_stands, step_stands, init_stands, for_again}
use Rattle.lra_inline_steps.proofs.Standing.{callee_stands, main_stands, the_callee, break_stands, continue_stands}
use Rattle.lra_inline_steps.proofs.Walking.{not_passed, passed_same, chosen_then, chosen_passed}
use Rattle.lra_inline_steps.proofs.Writing.{absent_written, nothing_written, block_written, assign_written, write_written, write_called, call_written, if_written, rounds_written, loop_written}
use Rattle.lra_inline_steps.proofs.Writing.{break_written, continue_written, assert_written, assume_written, for_written, return_written, return_any_written, return_value_written, return_call_written}
use Rattle.lra_inline_steps.proofs.Writing.{end_any_written, end_value_written, no_cases_written, labelled_written, stated_written, switch_written, WritesReturn, end_call_written, none_written}
use Rattle.lra_inline_steps.proofs.Writing.{statement_written, declaration_written, array_written, fresh_written, given_written, value_written, result_given}
use Rattle.lra_inline.proofs.{Calling.no_call_more, Calling.invoked, Totals.fault_in, Totals.walk_fault, Totals.first_frame, Totals.events_are, Totals.whole_graph}

-- what passes, passes up to each place
abbrev Parts : List Site → List Event → List Event → List Site → Type 0
Parts S es fs U = (V : List Site) × (add_points S es ≡ passed V) × (add_points V fs ≡ passed U)

walk_parts : (S : List Site) (es fs : List Event) (U : List Site) → add_points S (es ++ fs) ≡ passed U → Parts S es fs U
walk_parts S [] fs U e = (S, refl, e)
walk_parts S (comes s ∷ es) fs U e =
    let behind = chosen_passed (nat_lt greatest_live s.live) (nat_lt greatest_points (suc (length S))) (Variables s.label) (Points s.label) (add_points (S ++ s ∷ []) (es ++ fs)) U e in
    let (V, a, b) = walk_parts (S ++ s ∷ []) es fs U behind in (
      V,
      chosen_then (nat_lt greatest_live s.live) (nat_lt greatest_points (suc (length S))) (Variables s.label) (Points s.label) (add_points (S ++ s ∷ []) (es ++ fs)) (add_points (S ++ s ∷ []) es)
          (passed V) U e
          (λ _. a),
      b,
    )
walk_parts S (one_call_more at ∷ es) fs U e = absurd (not_passed (Calls at) U e)

module _ (P : Program) where
  abbrev HasRvalue : List ℕ → Frame → ℕ → Receiver → List Site → List Site → Rvalue → Type 0
  HasRvalue path r q x S U e = (g : Node) × WritesRvalue P path r q x S e g U

  -- calls that may make so many calls more are written out, whatever gives their arguments
  abbrev HaveCalls : ℕ → Type 0
  HaveCalls more = (c : Call) (path : List ℕ) (r : Frame) (q : ℕ) (x : Receiver) (gives : List Argument → Op) (S U : List Site) → r.calls_left ≡ more
      → CallStands P r c → add_points S (inside P path r path r.live c) ≡ passed U → (g : Node) × WritesCall P path r q x gives S c g U

  module _ (more : ℕ) (calls : HaveCalls more) where
    resulting : (c : Call) (path : List ℕ) (r : Frame) (q : ℕ) (x : Receiver) (S U : List Site) → r.calls_left ≡ more → CallStands P r c
        → add_points S (inside P path r path r.live c) ≡ passed U → HasRvalue path r q x S U (result c)
    resulting c path r q x S U left stands w =
        let (g, y) = calls c path r q x (push r.base) S U left stands w in
        (g, result_given P path r S U q x c g y)

    rvalue : (e : Rvalue) (path : List ℕ) (r : Frame) (q : ℕ) (x : Receiver) (S U : List Site) → r.calls_left ≡ more → GivenStands P r (Some e)
        → add_points S (rvalue_events (inside P path r) path r.live e) ≡ passed U → HasRvalue path r q x S U e
    rvalue (value e) path r q x S U left stands w =
        let g = act q (store_value r.base x e) in
        (g, subst (λ V. WritesRvalue P path r q x S (value e) g V) (passed_same S U w) (value_written P path r S q x e g refl))
    rvalue (result c) path r q x S U left stands w = resulting c path r q x S U left (result_stands P r c stands) w

    given : (t : NumberType) (o : Option Rvalue) (path : List ℕ) (r : Frame) (q : ℕ) (S U : List Site) → r.calls_left ≡ more → GivenStands P
        (record r { live = suc r.live }) o
        → add_points S (given_events (inside P path r) path (suc r.live) o) ≡ passed U → (g : Node) × WritesDeclared P path r q S t o g U
    given t None path r q S U left stands w = (
      act q (append t),
      subst (λ V. WritesDeclared P path r q S t None (act q (append t)) V) (passed_same S U w)
          (fresh_written P path r S q t (act q (append t)) refl),
    )
    given t (Some e) path r q S U left stands w =
        let (h, y) = rvalue e path (record r { live = suc r.live }) q (variable_at r.live t) S U left stands w in
        (seq (act q (append t)) h, given_written P path r S U q (suc r.live) t e h (seq (act q (append t)) h) refl y refl)

    abbrev HasReturn : List ℕ → Frame → ℕ → List Site → List Site → Option Rvalue → Type 0
    HasReturn path r q S U o = (g : Node) × WritesReturn P path r q S o g U

    -- back to a caller
    returned_to : (o : Option Rvalue) (n : ℕ) (path : List ℕ) (r : Frame) (q : ℕ) (S U : List Site) → r.back ≡ Some n → n ≤ r.live → r.calls_left ≡ more →
        GivenStands P r o
        → add_points S (given_events (inside P path r) path r.live o) ≡ passed U → HasReturn path r q S U o
    returned_to None n path r q S U back low left stands w =
        let g = return_node q (havoc r.receiver) n r.live in
        (g, subst (λ V. WritesReturn P path r q S None g V) (passed_same S U w) (return_any_written P path r S q n back low g refl))
    returned_to (Some (value e)) n path r q S U back low left stands w =
        let g = return_node q (store_value r.base r.receiver e) n r.live in
        (g, subst (λ V. WritesReturn P path r q S (Some (value e)) g V) (passed_same S U w) (return_value_written P path r S q n back low e g refl))
    returned_to (Some (result c)) n path r q S U back low left stands w =
        let (h, y) = resulting c path r q r.receiver S U left (result_stands P r c stands) w in
        let k = seq (act q (truncate_to n)) (leave r.live returned) in
        (seq h k, return_call_written P path r S q n back low U c h k (seq h k) y refl refl)

    -- out of `main`
    returned_out : (o : Option Rvalue) (path : List ℕ) (r : Frame) (q : ℕ) (S U : List Site) → r.back ≡ None → r.calls_left ≡ more → GivenStands P r o
        → add_points S (given_events (inside P path r) path r.live o) ≡ passed U → HasReturn path r q S U o
    returned_out None path r q S U back left stands w =
        let g = leave r.live returned in
        (g, subst (λ V. WritesReturn P path r q S None g V) (passed_same S U w) (end_any_written P path r S q back g refl))
    returned_out (Some (value e)) path r q S U back left stands w =
        let g = seq (act q (store_value r.base r.receiver e)) (leave r.live returned) in
        (g, subst (λ V. WritesReturn P path r q S (Some (value e)) g V) (passed_same S U w) (end_value_written P path r S q back e g refl))
    returned_out (Some (result c)) path r q S U back left stands w =
        let (h, y) = resulting c path r q r.receiver S U left (result_stands P r c stands) w in
        let g = seq h (leave r.live returned) in
        (g, end_call_written P path r S q back U c h g y refl)

    returned_by : (back : Option ℕ) (o : Option Rvalue) (path : List ℕ) (r : Frame) (q : ℕ) (S U : List Site) → r.back ≡ back →
        ((n : ℕ) → r.back ≡ Some n → n ≤ r.live)
        → r.calls_left ≡ more → GivenStands P r o → add_points S (given_events (inside P path r) path r.live o) ≡ passed U → HasReturn path r q S U o
    returned_by None o path r q S U is low left stands w = returned_out o path r q S U is left stands w
    returned_by (Some b) o path r q S U is low left stands w = returned_to o b path r q S U is (low b is) left stands w

    mutual
      stmt : (s : Stmt) (path : List ℕ) (r : Frame) (S U : List Site) → r.calls_left ≡ more → StmtStands P r s
          → add_points S (stmt_events (inside P path r) path r.live s) ≡ passed U → (g : Node) × WritesStmt P path r S s g U
      stmt absent path r S U left stands w = (empty, subst (λ V. WritesStmt P path r S absent empty V) (passed_same S U w) (absent_written P path r S))
      stmt (nothing at) path r S U left stands w = (point (length S), nothing_written P path r S U (length S) at refl w)
      stmt (block b end) path r S U left stands w =
          let n = live_after_items r.live b in
          let (V, a, e) = walk_parts S (items_events (inside P path r) path r.live b) (plain_site path end n ∷ []) U w in
          let (h, x) = items b path r S V left (block_stands P r b end stands) a in
          let tail = seq (point (length V)) (act (length V) (truncate_to r.live)) in
          (seq h tail, block_written P path r S V U (length V) n end b h tail (seq h tail) x refl refl e refl refl)
      stmt (assign at v e) path r S U left stands w =
          let (V, a, f) = walk_parts S (plain_site path at r.live ∷ []) (rvalue_events (inside P path r) path r.live e) U w in
          let (h, y) = rvalue e path r (length S) (variable_at (index_of r.base v.slot) v.number_type) V U left (assign_stands P r at v e stands) f in
          let g = seq (point (length S)) h in
          (g, assign_written P path r S V U (length S) at (index_of r.base v.slot) v e h g refl a refl y refl)
      stmt (write at x (value e)) path r S U left stands w = (_, write_written P path r S U (length S) at x e _ _ refl w refl refl)
      stmt (write at x (result c)) path r S U left stands w =
          let (V, a, f) = walk_parts S (plain_site path at r.live ∷ []) (inside P path r path r.live c) U w in
          let (h, y) = calls c path r (length S) (waiting_in x.array) (push_for r.base x) V U left
          (result_stands P r c (write_stands P r at x (result c) stands)) f in
          let g = seq (point (length S)) h in
          (g, write_called P path r S V U (length S) at x c h g refl a y refl)
      stmt (call at c) path r S U left stands w =
          let (V, a, f) = walk_parts S (plain_site path at r.live ∷ []) (inside P path r path r.live c) U w in
          let (h, y) = resulting c path r (length S) nobody V U left (call_stands P r at c stands) f in
          let g = seq (point (length S)) h in
          (g, call_written P path r S V U (length S) at c h g refl a y refl)
      stmt (if at c s t) path r S U left stands w =
          let (V, a, e) = walk_parts S (plain_site path at r.live ∷ []) (stmt_events (inside P path r) path r.live s ++ stmt_events (inside P path r) path r.live t) U w in
          let (W, b, d) = walk_parts V (stmt_events (inside P path r) path r.live s) (stmt_events (inside P path r) path r.live t) U e in
          let (h, x) = stmt s path r V W left (true_stands P r at c s t stands) b in
          let (h', y) = stmt t path r W U left (false_stands P r at c s t stands) d in
          let branches = choose (length S) r.base c h h' in
          (seq (point (length S)) branches, if_written P path r S V W U (length S) at c s t h h' branches (seq (point (length S)) branches) refl a x y refl refl)
      stmt (loop at c s t) path r S U left stands w =
          let (V, a, e) = walk_parts S (plain_site path at r.live ∷ []) (stmt_events (inside P path r) path r.live t ++ stmt_events (inside P path r) path r.live s) U w in
          let (W, b, d) = walk_parts V (stmt_events (inside P path r) path r.live t) (stmt_events (inside P path r) path r.live s) U e in
          let (h, x) = stmt t path (record r { breaks = None; continues = None }) V W left (step_stands P r at c s t stands) b in
          let (h', y) = stmt s path (record r { breaks = Some r.live; continues = Some r.live }) W U left (body_stands P r at c s t stands) d in
          let rounds = loop_node (length S) r.base c h' h in
          (rounds, loop_written P path r S V U (length S) at c s t rounds refl a (rounds_written P path r V W U (length S) c s t h' h rounds x y refl))
      stmt (for at init c s t) path r S U left stands w =
          let n = live_after_items r.live init in
          let begin = items_events (inside P path r) path r.live init in
          let turns = stmt_events (inside P path r) path n t in
          let rest = stmt_events (inside P path r) path n s in
          let (V, a, e) = walk_parts S (plain_site path at n ∷ []) (begin ++ turns ++ rest) U w in
          let (X, c', j) = walk_parts V (begin ++ turns) rest U e in
          let (W, b, i) = walk_parts V begin turns X c' in
          let (k, z) = items init path r V W left (init_stands P r at init c s t stands) b in
          let inner = for_again P r at init c s t n refl stands in
          let (h, x) = stmt t path (record r { live = n; breaks = None; continues = None }) W X left (step_stands P (record r { live = n }) at c s t inner) i in
          let (h', y) = stmt s path (record r { live = n; breaks = Some n; continues = Some n }) X U left
          (body_stands P (record r { live = n }) at c s t inner) j in
          let rounds = loop_node (length S) r.base c h' h in
          let tail = seq rounds (act (length S) (truncate_to r.live)) in (
            seq k tail,
            for_written P path r S V W U (length S) at n init c s t k rounds tail (seq k tail) refl refl a z
                (rounds_written P path (record r { live = n }) W X U (length S) c s t h' h rounds x y refl) refl refl,
          )
      stmt (break at) path r S U left stands w =
          let (m, is) = break_stands P r at stands in
          (_, break_written P path r S U (length S) at m _ _ refl w is (stands.break_low m is) refl refl)
      stmt (continue at) path r S U left stands w =
          let (m, is) = continue_stands P r at stands in
          (_, continue_written P path r S U (length S) at m _ _ refl w is (stands.continue_low m is) refl refl)
      stmt (return at o) path r S U left stands w =
          let (V, a, e) = walk_parts S (plain_site path at r.live ∷ []) (given_events (inside P path r) path r.live o) U w in
          let (h, y) = returned_by r.back o path r (length S) V U refl stands.back_low left (return_stands P r at o stands) e in
          (seq (point (length S)) h, return_written P path r S V U (length S) at o h (seq (point (length S)) h) refl a y refl)
      stmt (assert at c) path r S U left stands w = (_, assert_written P path r S U (length S) at c _ refl w refl)
      stmt (assume at c) path r S U left stands w = (_, assume_written P path r S U (length S) at c _ refl w refl)
      stmt (switch at e cs) path r S U left stands w =
          let (V, a, f) = walk_parts S (plain_site path at r.live ∷ []) (cases_events (inside P path r) path r.live cs) U w in
          let (arms, y) = cases cs path (cases_frame r) V U left (switch_stands P r at e cs stands) f in
          let g = seq (point (length S)) (switch_node (length S) r.base e arms) in
          (g, switch_written P path r S V U (length S) at e cs arms g refl a y refl)

      cases : (cs : Cases) (path : List ℕ) (r : Frame) (S U : List Site) → r.calls_left ≡ more → CasesStand P r cs
          → add_points S (cases_events (inside P path r) path r.live cs) ≡ passed U → (arms : Arms) × WritesCases P path r S cs arms U
      cases no_cases path r S U left stands w =
          (no_arms, subst (λ V. WritesCases P path r S no_cases no_arms V) (passed_same S U w) (no_cases_written P path r S))
      cases (labelled l cs) path r S U left stands w =
          let (arms, x) = cases cs path r S U left (labelled_stand P r l cs stands) w in
          (entry l arms, labelled_written P path r S U l cs arms x)
      cases (stated s cs) path r S U left stands w =
          let (V, a, e) = walk_parts S (stmt_events (inside P path r) path r.live s) (cases_events (inside P path r) path r.live cs) U w in
          let (h, x) = stmt s path r S V left (first_case_stands P r s cs stands) a in
          let (arms, y) = cases cs path r V U left (other_cases_stand P r s cs stands) e in
          (arm h arms, stated_written P path r S V U s cs h arms x y)

      items : (b : BlockItems) (path : List ℕ) (r : Frame) (S U : List Site) → r.calls_left ≡ more → ItemsStand P r b
          → add_points S (items_events (inside P path r) path r.live b) ≡ passed U → (g : Node) × WritesItems P path r S b g U
      items no_more path r S U left stands w = (empty, subst (λ V. WritesItems P path r S no_more empty V) (passed_same S U w) (none_written P path r S))
      items (declaration d b) path r S U left stands w =
          let rest = items_events (inside P path r) path (suc r.live) b in
          let (V, a, e) = walk_parts S (plain_site path d.label r.live ∷ []) (given_events (inside P path r) path (suc r.live) d.rvalue ++ rest) U w in
          let (W, f, i) = walk_parts V (given_events (inside P path r) path (suc r.live) d.rvalue) rest U e in
          let (h, x) = given d.number_type d.rvalue path r (length S) V W left (declared_stands P r (suc r.live) d b refl stands) f in
          let (k, y) = items b path (record r { live = suc r.live }) W U left (behind_stand P r (suc r.live) d b refl stands) i in
          let first = seq (point (length S)) h in
          (seq first k, declaration_written P path r S V W U (length S) (suc r.live) d b h first k (seq first k) refl refl a x y refl refl)
      items (array at a b) path r S U left stands w =
          let (V, e, i) = walk_parts S (plain_site path at r.live ∷ []) (items_events (inside P path r) path r.live b) U w in
          let (k, y) = items b path r V U left (array_stands P r at a b stands) i in
          (_, array_written P path r S V U (length S) at a b _ _ k _ refl e y refl refl refl)
      items (statement s b) path r S U left stands w =
          let (V, a, e) = walk_parts S (stmt_events (inside P path r) path r.live s) (items_events (inside P path r) path r.live b) U w in
          let (h, x) = stmt s path r S V left (first_stands P r s b stands) a in
          let (k, y) = items b path r V U left (others_stand P r s b stands) e in
          (seq h k, statement_written P path r S V U s b h k (seq h k) x y refl)

  module _ (well : IsWellFormed P) where
    have_calls : (more : ℕ) → HaveCalls more
    have_calls zero c path r q x gives S U left stands w = absurd (not_passed (Calls c.label) U (sym (no_call_more P path r.calls_left r.live S c left) ∙ w))
    have_calls (suc more) c path r q x gives S U left stands w =
        let (fn, found, fits) = the_callee P r c stands in
        let n = live_after_items (r.live + length fn.parameters) fn.body in
        let here : add_points S (call_events P (suc more) path r.live c) ≡ passed U =
        subst (λ z. add_points S (call_events P z path r.live c) ≡ passed U) left w in
        let inner : add_points S (function_events (call_events P more) (c.label ∷ path) r.live (Some fn)) ≡ passed U =
        subst (λ o. add_points S (function_events (call_events P more) (c.label ∷ path) r.live o) ≡ passed U) found here in
        let (V, a, e) = walk_parts S (items_events (call_events P more) (c.label ∷ path) (r.live + length fn.parameters) fn.body)
        (plain_site (c.label ∷ path) fn.end n ∷ []) U inner in
        let frame : Frame = record {
          base = r.live;
          live = r.live + length fn.parameters;
          calls_left = more;
          breaks = None;
          continues = None;
          receiver = result_receiver
              fn.result_type x;
          back = Some r.live;
        } in
        let (h, y) = items more (have_calls more) fn.body (c.label ∷ path) frame S V refl
        (callee_stands P r r.live more (r.live + length fn.parameters) (result_receiver fn.result_type x) c fn well stands found refl refl) a in
        let g = callee_node q (length V) r.live (result_receiver fn.result_type x) (gives (arguments_for fn.parameters c.arguments)) (length fn.parameters) h in (
          g,
          invoked P path r S c fn more x (c.label ∷ path) (length fn.parameters) fn.body left found refl refl refl V U q (length V) n gives h g fits y
              refl refl e
              refl,
        )

    main_graph : (U : List Site) → add_points [] (events_of P) ≡ passed U → (g : Node) × IsInlinedTree P g
    main_graph U w =
        let n = live_after_items (length P.globals) P.main.body in
        let (V, a, e) = walk_parts [] (items_events (call_events P 32) [] (length P.globals) P.main.body) (plain_site [] P.main.end n ∷ []) U
        (subst (λ es. add_points [] es ≡ passed U) (sym (events_are P well.alone)) w) in
        let (h, y) = items 32 (have_calls 32) P.main.body [] (first_frame P) [] V refl (main_stands P (first_frame P) well (omega arith) refl refl refl) a in
        (seq h (point (length V)), whole_graph P well.alone V U h (seq h (point (length V))) (length V) y e refl refl)

    walked_graph : (p : Progress) → add_points [] (events_of P) ≡ p → (ls : List Labelled) → limit_fault ls 0 (events_of P) ≡ None →
        (g : Node) × IsInlinedTree P g
    walked_graph (passed U) e ls none = main_graph U e
    walked_graph (stopped x) e ls none = absurd (none-some _ (sym none ∙ sym (walk_fault ls [] (events_of P)) ∙ ap (fault_in ls) e))

    pub has_graph : (ls : List Labelled) → limit_fault ls 0 (events_of P) ≡ None → (g : Node) × IsInlinedTree P g
    has_graph ls none = walked_graph (add_points [] (events_of P)) refl ls none
