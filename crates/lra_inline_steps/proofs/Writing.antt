-- Each form of a statement, written out after the points before it.
use Rattle.std.proofs.Common.{◌≡◌, ℕ, suc, ◌+◌, ◌≤◌, List, [], ◌∷◌, ◌++◌, length, Option, Some, None, Bool, true, false, slice_get, refl, sym, ap, ◌∙◌, subst, append_assoc}
use Rattle.std.proofs.lemmas.Option.{none-some, same_Some}
use Rattle.lra_program.specs.Program.{Variable, Expr, Element, Cond, Call, Rvalue, value, result, Declarator, Stmt, absent, nothing, block, assign, write, call, if, loop, for, break, continue, return}
use Rattle.lra_program.specs.Program.{assert, assume, switch, Cases, no_cases, labelled, stated, BlockItems, no_more, declaration, array, statement, Function, Program}
use Rattle.lra_program.specs.Receivers.{variable_at, waiting_in, nobody, result_receiver}
use Rattle.lra_program.specs.Sites.{Site, comes, plain_site, live_after_items, rvalue_events, given_events, stmt_events, cases_events, items_events, function_events, call_events}
use Rattle.lra_program.specs.Step.{Op, append, fill, store_value, store_element, havoc, push, push_for, truncate_to, test, arguments_for, main_receiver}
use Rattle.lra_program.specs.{Value.Argument, Value.index_of, declared.arrays.Array.Array, declared.receivers.Receiver.Receiver}
use Rattle.lra_inline_steps.specs.Crates.{lra_base.declared.case_labels.CaseLabel.CaseLabel, lra_base.declared.number_types.NumberType.NumberType}
use Rattle.lra_program.specs.Step as step
use Rattle.lra_operations.specs.Inlined.{spot_of, IsSiteAt, IsSiteWith, callee, InlineStmt, InlineCases, InlineItems, InlineDeclarator, InlineLoop, InlineRvalue, InlineCall, as_nothing, as_block}
use Rattle.lra_operations.specs.Inlined.{as_absent, as_assign, as_write, as_write_call, as_call, as_if, as_loop, as_for, as_break, as_continue, as_switch, as_no_cases, as_labelled, as_stated}
use Rattle.lra_operations.specs.Inlined.{switch_node, as_return, as_return_value, as_return_call, as_end, as_end_value, as_end_call, as_assert, as_assume, as_none, as_declaration, as_array}
use Rattle.lra_operations.specs.Inlined.{as_statement, as_fresh, as_given, is_loop, as_value, as_result, is_call, loop_node, callee_node, return_node}
use Rattle.lra_operations.specs.Tree.{Exit, broken, continued, returned, Node, empty, point, act, check, seq, choose, leave, Arms, no_arms, entry, arm}
use Rattle.lra_operations.specs.Inlined as inlined
use Rattle.lra_inline_steps.specs.Building.{any_left, value_left, call_left, back_length, function_receiver, IsFrame, Begins, inside, WritesStmt, WritesItems, WritesRvalue, WritesCall, WritesLoop}
use Rattle.lra_inline_steps.specs.Building.{WritesDeclared, Writes, cases_frame, WritesCases, length_left, LeavesLoop}
use Rattle.lra_inline_steps.specs.{Limits.add_points, Limits.passed, declared.frame.Frame.Frame}
use Rattle.lra_inline_steps.proofs.Walking.{walk_then, begins_walk, point_there, one_longer}

begins_join : (S T U : List Site) → Begins S T → Begins T U → Begins S U
begins_join S T U f g i x e = g i x (f i x e)

-- the points S, and then the site
abbrev pub Pointed : List Site → Site → List Site → Type 0
Pointed S x U = add_points S (comes x ∷ []) ≡ passed U

in_loop : {P : Program} {path : List ℕ} {r : Frame} {f : inlined.Frame} (l : Option ℕ) → IsFrame P path r f
    → IsFrame P path (record r { breaks = l; continues = l })
    (record f { breaks = l; continues = l })
in_loop l is = record { path = is.path; base = is.base; breaks = refl; continues = refl; receiver = is.receiver; back = is.back }

among_cases : {P : Program} {path : List ℕ} {r : Frame} {f : inlined.Frame} → IsFrame P path r f
    → IsFrame P path (cases_frame r) (record f { breaks = Some r.live })
among_cases is = record { path = is.path; base = is.base; breaks = refl; continues = is.continues; receiver = is.receiver; back = is.back }

with_live : {P : Program} {path : List ℕ} {r : Frame} {f : inlined.Frame} (n : ℕ) → IsFrame P path r f → IsFrame P path (record r { live = n }) f
with_live n is = record { path = is.path; base = is.base; breaks = is.breaks; continues = is.continues; receiver = is.receiver; back = is.back }

back_there : (o : Option step.ReturnFrame) (n : ℕ) → back_length o ≡ Some n → (c : step.ReturnFrame) × (o ≡ Some c) × (c.length ≡ n)
back_there None n e = absurd (none-some n e)
back_there (Some c) n e = (c, refl, same_Some c.length n e)

-- what gets the value of the function that runs: a called one's, and `main`'s
receiver_there : (P : Program) (o : Option step.ReturnFrame) (c : step.ReturnFrame) (x : Receiver) → o ≡ Some c → function_receiver P o ≡ x → c.receiver ≡ x
receiver_there P o c x e is = sym (ap (function_receiver P) e) ∙ is

main_there : (P : Program) (o : Option step.ReturnFrame) (x : Receiver) → o ≡ None → function_receiver P o ≡ x → main_receiver P ≡ x
main_there P o x e is = sym (ap (function_receiver P) e) ∙ is

no_back_there : (o : Option step.ReturnFrame) → back_length o ≡ None → o ≡ None
no_back_there None e = refl
no_back_there (Some c) e = absurd (none-some _ (sym e))

pub pointed_begins : (S U : List Site) (x : Site) → Pointed S x U → Begins S U
pointed_begins S U x e = begins_walk S (comes x ∷ []) U e

module _ (P : Program) (path : List ℕ) (r : Frame) where
  abbrev pub site : ℕ → ℕ → Bool → Site
  site at n asserts = record { path = path; label = at; live = n; asserts = asserts }

  abbrev N : ℕ
  N = r.live

  -- a return after its point q
  abbrev pub WritesReturn : ℕ → List Site → Option Rvalue → Node → List Site → Type 0
  WritesReturn q S o g U = Writes P path r (given_events (inside P path r) path N o) S U
      (λ T f. (at : ℕ) → length S ≡ suc q → IsSiteAt T (spot_of f N q) at → InlineStmt P T (spot_of f N q) (return at o) (seq (point q) g) (length U))

  has_point : (S U T : List Site) (f : inlined.Frame) (at n : ℕ) (asserts : Bool) → Pointed S (site at n asserts) U → Begins U T → IsFrame P path r f →
      IsSiteWith
      T (spot_of f n (length S)) at asserts
  has_point S U T f at n asserts e b is = rw is.path (point_there S U T (site at n asserts) e b)

  pub stmt_as : (S U : List Site) (s s' : Stmt) (g g' : Node) → s ≡ s' → g ≡ g' → WritesStmt P path r S s' g' U → WritesStmt P path r S s g U
  stmt_as S U s s' g g' e f x = subst (λ z. WritesStmt P path r S z g U) (sym e) (subst (λ z. WritesStmt P path r S s' z U) (sym f) x)

  pub absent_written : (S : List Site) → WritesStmt P path r S absent empty S
  absent_written S = record { walked = refl; placed = λ T f b is. as_absent }

  pub nothing_written : (S U : List Site) (q at : ℕ) → q ≡ length S → Pointed S (site at N false) U → WritesStmt P path r S (nothing at) (point q) U
  nothing_written S U q at i e = record {
    walked = e;
    placed = λ T f b is. rw (i, one_longer S U (site at N false) e) (as_nothing (has_point S U T f at N false e b is));
  }

  pub block_written : (S V U : List Site) (q n end : ℕ) (items : BlockItems) (h tail g : Node) → WritesItems P path r S items h V → n ≡ live_after_items N items → q ≡ length V
      → Pointed V (site end n false) U
      → tail ≡ seq (point q) (act q (truncate_to N)) → g ≡ seq h tail → WritesStmt P path r S (block items end) g U
  block_written S V U q n end items h tail g x same i e a a' =
      let e' : Pointed V (site end (live_after_items N items) false) U = rw (← same) e in
      record {
        walked = walk_then S (items_events (inside P path r) path N items) (plain_site path end (live_after_items N items) ∷ []) V (passed U) x.walked e';
        placed = λ T f b is. rw (a', a, i, one_longer V U (site end (live_after_items N items) false) e')
            (as_block (x.placed T f (begins_join V U T (pointed_begins V U (site end (live_after_items N items) false) e') b) is)
            (has_point V U T f end (live_after_items N items) false e' b is));
      }

  gives_as : (T : List Site) (f : inlined.Frame) (n k k' m m' : ℕ) (x x' : Receiver) (s : Rvalue) (h : Node) (u : ℕ) → k ≡ k' → m ≡ m' → x ≡ x' →
      InlineRvalue P T
      (spot_of f n k) m x s h u
      → InlineRvalue P T (spot_of f n k') m' x' s h u
  gives_as T f n k k' m m' x x' s h u a b c y =
      subst (λ z. InlineRvalue P T (spot_of f n k') m' z s h u) c (subst (λ z. InlineRvalue P T (spot_of f n k') z x s h u) b (subst (λ z. InlineRvalue P T (spot_of f n z) m x s h u) a y))

  inl_as : (T : List Site) (f : inlined.Frame) (n k k' : ℕ) (s : Stmt) (h : Node) (u : ℕ) → k ≡ k' → InlineStmt P T (spot_of f n k) s h u → InlineStmt P T (spot_of f n k') s h u
  inl_as T f n k k' s h u e y = subst (λ z. InlineStmt P T (spot_of f n z) s h u) e y

  pub assign_written : (S V U : List Site) (q at place : ℕ) (x : Variable) (s : Rvalue) (h g : Node) → q ≡ length S → Pointed S (site at N false) V → place ≡
      index_of r.base x.slot
      → WritesRvalue P path r q (variable_at place x.number_type) V s h U
      → g ≡ seq (point q) h → WritesStmt P path r S (assign at x s) g U
  assign_written S V U q at place x s h g i e j y a = record {
    walked = walk_then S (plain_site path at N ∷ []) (rvalue_events (inside P path r) path N s) V (passed U) e y.walked;
    placed = λ T f b is.
        let b' = begins_join V U T (begins_walk V (rvalue_events (inside P path r) path N s) U y.walked) b in
        let y' = gives_as T f N q (length S) (length V) (suc (length S)) (variable_at place x.number_type)
        (variable_at (index_of f.here.base x.slot) x.number_type) s h (length U) i
        (one_longer S V (site at N false) e) (ap (λ z. variable_at z x.number_type) (j ∙ ap (λ z. index_of z x.slot) (sym is.base))) (y.placed T f b is) in
        rw (a, i) (as_assign (has_point S V T f at N false e b' is) y');
  }

  -- an element that gets a value, and one whose value a call gives
  pub write_written : (S U : List Site) (q at : ℕ) (x : Element) (e : Expr) (h g : Node) → q ≡ length S → Pointed S (site at N false) U
      → h ≡ act q (store_element r.base x e) → g ≡ seq (point q) h → WritesStmt P path r S (write at x (value e)) g U
  write_written S U q at x e h g i pointed a a' = record {
    walked = pointed;
    placed = λ T f b is.
        rw (a', a, i, ← is.base, one_longer S U (site at N false) pointed) (as_write (has_point S U T f at N false pointed b is));
  }

  calls_as : (T : List Site) (f : inlined.Frame) (n k k' m m' : ℕ) (x : Receiver) (gives gives' : List Argument → Op) (c : Call) (h : Node) (u : ℕ) → k ≡ k'
      → m ≡ m' → gives ≡ gives' → InlineCall P T (spot_of f n k) m x gives c h u → InlineCall P T (spot_of f n k') m' x gives' c h u
  calls_as T f n k k' m m' x gives gives' c h u a b d y = subst (λ z. InlineCall P T (spot_of f n k') m' x z c h u) d
      (subst (λ z. InlineCall P T (spot_of f n k') z x gives c h u) b (subst (λ z. InlineCall P T (spot_of f n z) m x gives c h u) a y))

  pub write_called : (S V U : List Site) (q at : ℕ) (x : Element) (c : Call) (h g : Node) → q ≡ length S → Pointed S (site at N false) V
      → WritesCall P path r q (waiting_in x.array) (push_for r.base x) V c h U
      → g ≡ seq (point q) h → WritesStmt P path r S (write at x (result c)) g U
  write_called S V U q at x c h g i e y a = record {
    walked = walk_then S (plain_site path at N ∷ []) (inside P path r path N c) V (passed U) e y.walked;
    placed = λ T f b is.
        let b' = begins_join V U T (begins_walk V (inside P path r path N c) U y.walked) b in
        let y' = calls_as T f N q (length S) (length V) (suc (length S)) (waiting_in x.array) (push_for r.base x) (push_for f.here.base x) c h (length U) i
        (one_longer S V (site at N false) e) (ap (λ z. push_for z x) (sym is.base)) (y.placed T f b is) in
        rw (a, i) (as_write_call (has_point S V T f at N false e b' is) y');
  }

  -- a call whose arguments are given alone gives a receiver its value
  pub result_given : (S U : List Site) (q : ℕ) (x : Receiver) (c : Call) (g : Node) → WritesCall P path r q x (push r.base) S c g U
      → WritesRvalue P path r q x S (result c) g U
  result_given S U q x c g y = record {
    walked = y.walked;
    placed = λ T f b is. as_result
        (calls_as T f N q q (length S) (length S) x (push r.base) (push f.here.base) c g (length U) refl refl
        (ap (λ z. push z) (sym is.base)) (y.placed T f b is));
  }

  pub call_written : (S V U : List Site) (q at : ℕ) (c : Call) (h g : Node) → q ≡ length S → Pointed S (site at N false) V → WritesRvalue P path r q nobody V
      (result c) h U
      → g ≡ seq (point q) h → WritesStmt P path r S (call at c) g U
  call_written S V U q at c h g i e y a = record {
    walked = walk_then S (plain_site path at N ∷ []) (inside P path r path N c) V (passed U) e y.walked;
    placed = λ T f b is.
        let b' = begins_join V U T (begins_walk V (inside P path r path N c) U y.walked) b in
        let y' = gives_as T f N q (length S) (length V) (suc (length S)) nobody nobody (result c) h (length U) i (one_longer S V (site at N false) e) refl
        (y.placed T f b is) in
        rw (a, i) (as_call (has_point S V T f at N false e b' is) y');
  }

  pub if_written : (S V W U : List Site) (q at : ℕ) (c : Cond) (s t : Stmt) (h h' k g : Node) → q ≡ length S → Pointed S (site at N false) V → WritesStmt P path r V s h W
      → WritesStmt P path r W t h' U
      → k ≡ choose q r.base c h h' → g ≡ seq (point q) k → WritesStmt P path r S (if at c s t) g U
  if_written S V W U q at c s t h h' k g i e x y a a' = record {
    walked = walk_then S (plain_site path at N ∷ []) (stmt_events (inside P path r) path N s ++ stmt_events (inside P path r) path N t) V (passed U) e
        (walk_then V (stmt_events (inside P path r) path N s) (stmt_events (inside P path r) path N t) W (passed U) x.walked y.walked);
    placed = λ T f b is.
        let b' = begins_join W U T (begins_walk W (stmt_events (inside P path r) path N t) U y.walked) b in
        let b'' = begins_join V W T (begins_walk V (stmt_events (inside P path r) path N s) W x.walked) b' in
        let x' = inl_as T f N (length V) (suc (length S)) s h (length W) (one_longer S V (site at N false) e) (x.placed T f b' is) in
        rw (a', a, i, ← is.base) (as_if (has_point S V T f at N false e b'' is) x' (y.placed T f b is));
  }

  -- a loop after its own point
  pub rounds_written : (V W U : List Site) (q : ℕ) (c : Cond) (s t : Stmt) (h h' g : Node)
      → WritesStmt P path (record r { breaks = None; continues = None }) V t h' W
      → WritesStmt P path (record r { breaks = Some r.live; continues = Some r.live }) W s h U
      → g ≡ loop_node q r.base c h h' → WritesLoop P path r q V c s t g U
  rounds_written V W U q c s t h h' g x y a = record {
    walked = walk_then V (stmt_events (inside P path r) path N t) (stmt_events (inside P path r) path N s) W (passed U) x.walked y.walked;
    placed = λ T f b is at has.
        let b' = begins_join W U T (begins_walk W (stmt_events (inside P path r) path N s) U y.walked) b in
        rw (a, ← is.base) (is_loop has (x.placed T (record f { breaks = None; continues = None }) b' (in_loop None is))
        (y.placed T (record f { breaks = Some N; continues = Some N }) b (in_loop (Some N) is)));
  }

  loops_as : (T : List Site) (f : inlined.Frame) (n k k' m m' : ℕ) (s : Stmt) (g : Node) (u : ℕ) → k ≡ k' → m ≡ m' → InlineLoop P T (spot_of f n k) m s g u → InlineLoop P T (spot_of f n k') m' s g u
  loops_as T f n k k' m m' s g u a b y = subst (λ z. InlineLoop P T (spot_of f n k') z s g u) b (subst (λ z. InlineLoop P T (spot_of f n z) m s g u) a y)

  pub loop_written : (S V U : List Site) (q at : ℕ) (c : Cond) (s t : Stmt) (g : Node) → q ≡ length S → Pointed S (site at N false) V → WritesLoop P path r q V c s t g U
      → WritesStmt P path r S (loop at c s t) g U
  loop_written S V U q at c s t g i e x = record {
    walked = walk_then S (plain_site path at N ∷ []) (stmt_events (inside P path r) path N t ++ stmt_events (inside P path r) path N s) V (passed U) e x.walked;
    placed = λ T f b is.
        let b' = begins_join V U T (begins_walk V (stmt_events (inside P path r) path N t ++ stmt_events (inside P path r) path N s) U x.walked) b in
        let has : IsSiteAt T (spot_of f N q) at = subst (λ z. IsSiteAt T (spot_of f N z) at) (sym i) (has_point S V T f at N false e b' is) in
        as_loop
        (loops_as T f N q (length S) (length V) (suc (length S)) (loop at c s t) g (length U) i (one_longer S V (site at N false) e) (x.placed T f b is at has));
  }

  pub break_written : (S U : List Site) (q at m : ℕ) (h g : Node) → q ≡ length S → Pointed S (site at N false) U → r.breaks ≡ Some m → m ≤ N
      → h ≡ seq (act q (truncate_to m)) (leave N broken)
      → g ≡ seq (point q) h
      → WritesStmt P path r S (break at) g U
  break_written S U q at m h g i e j low a a' = record {
    walked = e;
    placed = λ T f b is. rw (a', a, i, one_longer S U (site at N false) e) (as_break (is.breaks ∙ j) low (has_point S U T f at N false e b is));
  }

  pub continue_written : (S U : List Site) (q at m : ℕ) (h g : Node) → q ≡ length S → Pointed S (site at N false) U → r.continues ≡ Some m → m ≤ N
      → h ≡ seq (act q (truncate_to m)) (leave N continued) → g ≡ seq (point q) h
      → WritesStmt P path r S (continue at) g U
  continue_written S U q at m h g i e j low a a' = record {
    walked = e;
    placed = λ T f b is. rw (a', a, i, one_longer S U (site at N false) e) (as_continue (is.continues ∙ j) low (has_point S U T f at N false e b is));
  }

  pub assert_written : (S U : List Site) (q at : ℕ) (c : Cond) (g : Node) → q ≡ length S → Pointed S (site at N true) U → g ≡ seq (point q) (check q r.base c) → WritesStmt P path r S (assert at c) g U
  assert_written S U q at c g i e a = record {
    walked = e;
    placed = λ T f b is. rw (a, i, ← is.base, one_longer S U (site at N true) e) (as_assert (has_point S U T f at N true e b is));
  }

  pub assume_written : (S U : List Site) (q at : ℕ) (c : Cond) (g : Node) → q ≡ length S → Pointed S (site at N false) U → g ≡ seq (point q) (act q (test r.base c true))
      → WritesStmt P path r S (assume at c) g U
  assume_written S U q at c g i e a = record {
    walked = e;
    placed = λ T f b is. rw (a, i, ← is.base, one_longer S U (site at N false) e) (as_assume (has_point S U T f at N false e b is));
  }

  pub for_written : (S V W U : List Site) (q at n : ℕ) (init : BlockItems) (c : Cond) (s t : Stmt) (h k l g : Node) → q ≡ length S → n ≡ live_after_items N init → Pointed S (site at n false) V
      → WritesItems P path r V init h W
      → WritesLoop P path (record r { live = n }) q W c s t k U → l ≡ seq k (act q (truncate_to N)) → g ≡ seq h l →
      WritesStmt P path r S (for at init c s t) g U
  for_written S V W U q at n init c s t h k l g i same e x y a a' =
      let m = live_after_items N init in
      let e' : Pointed S (site at m false) V = subst (λ z. Pointed S (site at z false) V) same e in
      let y' = subst (λ z. WritesLoop P path (record r { live = z }) q W c s t k U) same y in
      let begin = items_events (inside P path r) path N init in
      let turns = stmt_events (inside P path r) path m t in
      let rounds = stmt_events (inside P path r) path m s in
      let rest = turns ++ rounds in
      record {
        walked = subst (λ es. add_points S (plain_site path at m ∷ es) ≡ passed U) (sym (append_assoc begin turns rounds))
            (walk_then S (plain_site path at m ∷ []) (begin ++ rest) V (passed U) e' (walk_then V begin rest W (passed U) x.walked y'.walked));
        placed = λ T f b is.
            let b' = begins_join W U T (begins_walk W rest U y'.walked) b in
            let b'' = begins_join V W T (begins_walk V begin W x.walked) b' in
            let has : IsSiteAt T (spot_of f m q) at = subst (λ z. IsSiteAt T (spot_of f m z) at) (sym i) (has_point S V T f at m false e' b'' is) in
            rw (a', a, i) (as_for
            (subst (λ z. InlineItems P T (spot_of f N z) init h m (length W)) (one_longer S V (site at m false) e') (x.placed T f b' is))
            (loops_as T f m q (length S) (length W) (length W) (loop at c s t) k (length U) i refl (y'.placed T f b (with_live m is) at has)));
      }

  pub return_written : (S V U : List Site) (q at : ℕ) (o : Option Rvalue) (h g : Node) → q ≡ length S → Pointed S (site at N false) V → WritesReturn q V o h U → g ≡ seq (point q) h
      → WritesStmt P path r S (return at o) g U
  return_written S V U q at o h g i e x a = record {
    walked = walk_then S (plain_site path at N ∷ []) (given_events (inside P path r) path N o) V (passed U) e x.walked;
    placed = λ T f b is.
        let b' = begins_join V U T (begins_walk V (given_events (inside P path r) path N o) U x.walked) b in
        let has : IsSiteAt T (spot_of f N q) at = subst (λ z. IsSiteAt T (spot_of f N z) at) (sym i) (has_point S V T f at N false e b' is) in
        rw a (inl_as T f N q (length S) (return at o) (seq (point q) h) (length U) i (x.placed T f b is at (one_longer S V (site at N false) e ∙ ap suc (sym i)) has));
  }

  return_as : (T : List Site) (f : inlined.Frame) (q : ℕ) (s : Stmt) (op : Receiver → step.Op) (u : ℕ) (t t' : Receiver) (m m' : ℕ) → t ≡ t' → m ≡ m'
      → InlineStmt P T (spot_of f N q) s (seq (point q) (return_node q (op t) m N)) u
      → InlineStmt P T (spot_of f N q) s (seq (point q) (return_node q (op t') m' N)) u
  return_as T f q s op u t t' m m' a b y = subst (λ z. InlineStmt P T (spot_of f N q) s (seq (point q) (return_node q (op t') z N)) u) b
      (subst (λ z. InlineStmt P T (spot_of f N q) s (seq (point q) (return_node q (op z) m N)) u) a y)

  module _ (S : List Site) (q n : ℕ) (back : r.back ≡ Some n) (low : n ≤ N) where
    pub return_any_written : (g : Node) → g ≡ return_node q (havoc r.receiver) n N → WritesReturn q S None g S
    return_any_written g a = record {
      walked = refl;
      placed = λ T f bs is at long has.
          let z = back_there f.back n (is.back ∙ back) in
          let low' : z.0.length ≤ N = subst (λ m. m ≤ N) (sym z.2) low in
          rw (a, long) (return_as T f q (return at None) havoc (suc q) z.0.receiver r.receiver z.0.length n
          (receiver_there P f.back z.0 r.receiver z.1 is.receiver) z.2 (as_return z.1 low' has));
    }

    pub return_value_written : (e : Expr) (g : Node) → g ≡ return_node q (store_value r.base r.receiver e) n N → WritesReturn q S (Some (value e)) g S
    return_value_written e g a = record {
      walked = refl;
      placed = λ T f bs is at long has.
          let z = back_there f.back n (is.back ∙ back) in
          let low' : z.0.length ≤ N = subst (λ m. m ≤ N) (sym z.2) low in
          rw (a, long, ← is.base) (return_as T f q (return at (Some (value e))) (λ t. store_value f.here.base t e) (suc q) z.0.receiver r.receiver z.0.length n
          (receiver_there P f.back z.0 r.receiver z.1 is.receiver) z.2 (as_return_value z.1 low' has));
    }

    pub return_call_written : (U : List Site) (c : Call) (h k g : Node) → WritesRvalue P path r q r.receiver S (result c) h U → k ≡ seq (act q (truncate_to n))
        (leave N returned) → g ≡ seq h k
        → WritesReturn q S (Some (result c)) g U
    return_call_written U c h k g y a a' = record {
      walked = y.walked;
      placed = λ T f bs is at long has.
          let z = back_there f.back n (is.back ∙ back) in
          let low' : z.0.length ≤ N = subst (λ m. m ≤ N) (sym z.2) low in
          rw (a', a, ← z.2) (as_return_call z.1 low' has
          (gives_as T f N q q (length S) (suc q) r.receiver z.0.receiver (result c) h (length U) refl long
          (sym (receiver_there P f.back z.0 r.receiver z.1 is.receiver)) (y.placed T f bs is)));
    }

  module _ (S : List Site) (q : ℕ) (back : r.back ≡ None) where
    pub end_any_written : (g : Node) → g ≡ leave N returned → WritesReturn q S None g S
    end_any_written g a = record { walked = refl; placed = λ T f bs is at long has. rw (a, long) (as_end (no_back_there f.back (is.back ∙ back)) has) }

    pub end_value_written : (e : Expr) (g : Node) → g ≡ seq (act q (store_value r.base r.receiver e)) (leave N returned) → WritesReturn q S (Some (value e)) g S
    end_value_written e g a = record {
      walked = refl;
      placed = λ T f bs is at long has.
          let none = no_back_there f.back (is.back ∙ back) in
          rw (a, long, ← is.base) (subst (λ x. InlineStmt P T (spot_of f N q) (return at (Some (value e)))
          (seq (point q) (seq (act q (store_value f.here.base x e)) (leave N returned))) (suc q))
          (main_there P f.back r.receiver none is.receiver) (as_end_value none has));
    }

    pub end_call_written : (U : List Site) (c : Call) (h g : Node) → WritesRvalue P path r q r.receiver S (result c) h U → g ≡ seq h (leave N returned) →
        WritesReturn q S (Some (result c)) g U
    end_call_written U c h g y a = record {
      walked = y.walked;
      placed = λ T f bs is at long has.
          let none = no_back_there f.back (is.back ∙ back) in
          rw a (as_end_call none has
          (gives_as T f N q q (length S) (suc q) r.receiver (main_receiver P) (result c) h (length U) refl long
          (sym (main_there P f.back r.receiver none is.receiver)) (y.placed T f bs is)));
    }

  -- a whole `return`, in a called function or in `main`
  module _ (V : List Site) (q : ℕ) (low : (n : ℕ) → r.back ≡ Some n → n ≤ N) where
    any_back : (o : Option ℕ) → r.back ≡ o → WritesReturn q V None (any_left o r.receiver q N) V
    any_back None e = end_any_written V q e (leave N returned) refl
    any_back (Some n) e = return_any_written V q n e (low n e) (any_left (Some n) r.receiver q N) refl

    value_back : (x : Expr) (o : Option ℕ) → r.back ≡ o → WritesReturn q V (Some (value x)) (value_left o r.receiver q r.base x N) V
    value_back x None e = end_value_written V q e x (value_left None r.receiver q r.base x N) refl
    value_back x (Some n) e = return_value_written V q n e (low n e) x (value_left (Some n) r.receiver q r.base x N) refl

    call_back : (U : List Site) (c : Call) (h : Node) (o : Option ℕ) → r.back ≡ o → WritesRvalue P path r q r.receiver V (result c) h U
        → WritesReturn q V (Some (result c)) (call_left o q h N) U
    call_back U c h None e y = end_call_written V q e U c h (call_left None q h N) y refl
    call_back U c h (Some n) e y =
        return_call_written V q n e (low n e) U c h (seq (act q (truncate_to n)) (leave N returned)) (call_left (Some n) q h N) y refl refl

    module _ (S : List Site) (at : ℕ) (g : Node) (i : q ≡ length S) (pointed : Pointed S (site at N false) V) where
      pub any_returned : g ≡ seq (point q) (any_left r.back r.receiver q N) → WritesStmt P path r S (return at None) g V
      any_returned a = return_written S V V q at None (any_left r.back r.receiver q N) g i pointed (any_back r.back refl) a

      pub value_returned : (x : Expr) → g ≡ seq (point q) (value_left r.back r.receiver q r.base x N) → WritesStmt P path r S (return at (Some (value x))) g V
      value_returned x a = return_written S V V q at (Some (value x)) (value_left r.back r.receiver q r.base x N) g i pointed (value_back x r.back refl) a

      pub call_returned : (U : List Site) (c : Call) (h : Node) → WritesRvalue P path r q r.receiver V (result c) h U → g ≡ seq (point q)
          (call_left r.back q h N)
          → WritesStmt P path r S (return at (Some (result c))) g U
      call_returned U c h y a = return_written S V U q at (Some (result c)) (call_left r.back q h N) g i pointed (call_back U c h r.back refl y) a

  -- the statements of a `switch`, one after the other
  pub no_cases_written : (S : List Site) → WritesCases P path r S no_cases no_arms S
  no_cases_written S = record { walked = refl; placed = λ T f b is. as_no_cases }

  pub labelled_written : (S U : List Site) (l : CaseLabel) (cs : Cases) (arms : Arms) → WritesCases P path r S cs arms U
      → WritesCases P path r S (labelled l cs) (entry l arms) U
  labelled_written S U l cs arms x = record { walked = x.walked; placed = λ T f b is. as_labelled (x.placed T f b is) }

  pub stated_written : (S V U : List Site) (a : Stmt) (cs : Cases) (h : Node) (arms : Arms) → WritesStmt P path r S a h V → WritesCases P path r V cs arms U
      → WritesCases P path r S (stated a cs) (arm h arms) U
  stated_written S V U a cs h arms x y = record {
    walked = walk_then S (stmt_events (inside P path r) path N a) (cases_events (inside P path r) path N cs) V (passed U) x.walked y.walked;
    placed = λ T f b is.
        let b' = begins_join V U T (begins_walk V (cases_events (inside P path r) path N cs) U y.walked) b in
        as_stated (x.placed T f b' is) (y.placed T f b is);
  }

  cases_as : (T : List Site) (f : inlined.Frame) (n k k' : ℕ) (cs : Cases) (arms : Arms) (u : ℕ) → k ≡ k' → InlineCases P T (spot_of f n k) cs arms u
      → InlineCases P T (spot_of f n k') cs arms u
  cases_as T f n k k' cs arms u e y = subst (λ z. InlineCases P T (spot_of f n z) cs arms u) e y

  pub switch_written : (S V U : List Site) (q at : ℕ) (e : Expr) (cs : Cases) (arms : Arms) (g : Node) → q ≡ length S → Pointed S (site at N false) V
      → WritesCases P path (cases_frame r) V cs arms U
      → g ≡ seq (point q) (switch_node q r.base e arms) → WritesStmt P path r S (switch at e cs) g U
  switch_written S V U q at e cs arms g i pointed y a = record {
    walked = walk_then S (plain_site path at N ∷ []) (cases_events (inside P path r) path N cs) V (passed U) pointed y.walked;
    placed = λ T f b is.
        let b' = begins_join V U T (begins_walk V (cases_events (inside P path r) path N cs) U y.walked) b in
        let y' = cases_as T (record f { breaks = Some N }) N (length V) (suc (length S)) cs arms (length U) (one_longer S V (site at N false) pointed)
        (y.placed T (record f { breaks = Some N }) b (among_cases is)) in
        rw (a, i, ← is.base) (as_switch (has_point S V T f at N false pointed b' is) y');
  }

  pub none_written : (S : List Site) → WritesItems P path r S no_more empty S
  none_written S = record { walked = refl; placed = λ T f b is. as_none }

  pub statement_written : (S V U : List Site) (a : Stmt) (b : BlockItems) (h k g : Node) → WritesStmt P path r S a h V → WritesItems P path r V b k U → g ≡ seq h k
      → WritesItems P path r S (statement a b) g U
  statement_written S V U a b h k g x y e = record {
    walked = walk_then S (stmt_events (inside P path r) path N a) (items_events (inside P path r) path N b) V (passed U) x.walked y.walked;
    placed = λ T f bs is.
        let bs' = begins_join V U T (begins_walk V (items_events (inside P path r) path N b) U y.walked) bs in
        rw e (as_statement (x.placed T f bs' is) (y.placed T f bs is));
  }

  pub declaration_written : (S V W U : List Site) (q n : ℕ) (d : Declarator) (b : BlockItems) (h j k g : Node) → q ≡ length S → n ≡ suc N → Pointed S (site d.label N false) V
      → WritesDeclared P path r q V d.number_type d.rvalue h W
      → WritesItems P path (record r { live = n }) W b k U → j ≡ seq (point q) h → g ≡ seq j k → WritesItems P path r S (declaration d b) g U
  declaration_written S V W U q n d b h j k g i same e x y a a' =
      let y' = subst (λ z. WritesItems P path (record r { live = z }) W b k U) same y in
      let mid = given_events (inside P path r) path (suc N) d.rvalue in
      let rest = items_events (inside P path r) path (suc N) b in
      record {
        walked = walk_then S (plain_site path d.label N ∷ []) (mid ++ rest) V (passed U) e (walk_then V mid rest W (passed U) x.walked y'.walked);
        placed = λ T f bs is.
            let bs' = begins_join W U T (begins_walk W rest U y'.walked) bs in
            let bs'' = begins_join V W T (begins_walk V mid W x.walked) bs' in
            let x' : InlineDeclarator P T (spot_of f N (length S)) (suc (length S)) d.number_type d.rvalue h (length W) =
            subst (λ z. InlineDeclarator P T (spot_of f N (length S)) z d.number_type d.rvalue h (length W)) (one_longer S V (site d.label N false) e)
            (subst (λ z. InlineDeclarator P T (spot_of f N z) (length V) d.number_type d.rvalue h (length W)) i (x.placed T f bs' is)) in
            rw (a', a, i) (as_declaration (has_point S V T f d.label N false e bs'' is) x'
            (y'.placed T f bs (with_live (suc N) is)));
      }

  pub array_written : (S V U : List Site) (q at : ℕ) (x : Array) (b : BlockItems) (h j k g : Node) → q ≡ length S → Pointed S (site at N false) V
      → WritesItems P path r V b k U → h ≡ act q (fill x) → j ≡ seq (point q) h → g ≡ seq j k → WritesItems P path r S (array at x b) g U
  array_written S V U q at x b h j k g i e y a a' a'' =
      let rest = items_events (inside P path r) path N b in
      record {
        walked = walk_then S (plain_site path at N ∷ []) rest V (passed U) e y.walked;
        placed = λ T f bs is.
            let bs' = begins_join V U T (begins_walk V rest U y.walked) bs in
            let y' = subst (λ z. InlineItems P T (spot_of f N z) b k (live_after_items N b) (length U)) (one_longer S V (site at N false) e)
            (y.placed T f bs is) in
            rw (a'', a', a, i) (as_array (has_point S V T f at N false e bs' is) y');
      }

  pub fresh_written : (S : List Site) (q : ℕ) (t : NumberType) (g : Node) → g ≡ act q (append t) → WritesDeclared P path r q S t None g S
  fresh_written S q t g a = record { walked = refl; placed = λ T f b is. rw a as_fresh }

  pub given_written : (S U : List Site) (q n : ℕ) (t : NumberType) (e : Rvalue) (h g : Node) → n ≡ suc N → WritesRvalue P path (record r { live = n }) q
      (variable_at r.live t) S e h U
      → g ≡ seq (act q (append t)) h → WritesDeclared P path r q S t (Some e) g U
  given_written S U q n t e h g same y a =
      let y' = subst (λ z. WritesRvalue P path (record r { live = z }) q (variable_at r.live t) S e h U) same y in
      record { walked = y'.walked; placed = λ T f b is. rw a (as_given (y'.placed T f b (with_live (suc N) is))) }

  pub value_written : (S : List Site) (q : ℕ) (x : Receiver) (e : Expr) (g : Node) → g ≡ act q (store_value r.base x e) →
      WritesRvalue P path r q x S (value e) g S
  value_written S q x e g a = record { walked = refl; placed = λ T f b is. rw (a, ← is.base) as_value }

  -- a call that may still be made
  pub result_written : (S V U : List Site) (q k n more : ℕ) (x : Receiver) (gives : List Argument → Op) (c : Call) (fn : Function) (h g : Node)
      → r.calls_left ≡ suc more → slice_get
      P.functions c.function ≡ Some fn
      → length c.arguments ≡ length fn.parameters
      → WritesItems P (c.label ∷ path) (record {
        base = r.live;
        live = r.live + length fn.parameters;
        calls_left = more;
        breaks = None;
        continues = None;
        receiver =
            result_receiver fn.result_type x;
        back = Some r.live;
      }) S
      fn.body h V
      → n ≡ live_after_items (N + length fn.parameters) fn.body → k ≡ length V → Pointed V
      (record { path = c.label ∷ path; label = fn.end; live = n; asserts = false }) U
      → g ≡ callee_node q k N (result_receiver fn.result_type x) (gives (arguments_for fn.parameters c.arguments)) (length fn.parameters) h
      → WritesCall P path r q x gives S c g U
  result_written S V U q k n more x gives c fn h g left found wide y same i e a =
      let m = live_after_items (N + length fn.parameters) fn.body in
      let last : Site = record { path = c.label ∷ path; label = fn.end; live = m; asserts = false } in
      let e' : Pointed V last U = subst (λ z. Pointed V (record { path = c.label ∷ path; label = fn.end; live = z; asserts = false }) U) same e in
      record {
        walked = subst (λ z. add_points S (call_events P z path N c) ≡ passed U) (sym left)
            (subst (λ o. add_points S (function_events (call_events P more) (c.label ∷ path) N o) ≡ passed U) (sym found)
            (walk_then S (items_events (call_events P more) (c.label ∷ path) (N + length fn.parameters) fn.body) (plain_site (c.label ∷ path) fn.end m ∷ []) V
            (passed U) y.walked e'));
        placed = λ T f b is.
            let is' : IsFrame P (c.label ∷ path)
            (record {
              base = r.live;
              live = r.live + length fn.parameters;
              calls_left = more;
              breaks = None;
              continues = None;
              receiver = result_receiver fn.result_type x;
              back = Some r.live;
            }) (callee f N (result_receiver fn.result_type x) c) = record
            { path = ap (λ z. c.label ∷ z) is.path; base = refl; breaks = refl; continues = refl; receiver = refl; back = refl } in
            rw (a, i, one_longer V U last e')
            (is_call {s = spot_of f N q} found wide (y.placed T (callee f N (result_receiver fn.result_type x) c)
            (begins_join V U T (pointed_begins V U last e') b) is')
            (rw is.path (point_there V U T last e' b)));
      }

-- `break` and `continue`
module _ (path : List ℕ) (r : Frame) where
  pub leaves_written : (S U : List Site) (q at m : ℕ) (exit : Exit) (h g : Node) → q ≡ length S
      → Pointed S (record { path = path; label = at; live = r.live; asserts = false }) U → length_left exit r ≡ Some m
      → h ≡ seq (act q (truncate_to m)) (leave r.live exit) → g ≡ seq (point q) h → LeavesLoop path r S at exit g U
  leaves_written S U q at m broken h g i e j a a' P d low = break_written P path r S U q at m h g i e j (low m j) a a'
  leaves_written S U q at m continued h g i e j a a' P d low = continue_written P path r S U q at m h g i e j (low m j) a a'
  leaves_written S U q at m returned h g i e j a a' P d low = absurd (d refl)
