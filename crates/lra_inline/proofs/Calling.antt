-- A call written out as the code has it: the callee's path, its body and the number of its parameters are known by equations.
use Rattle.std.proofs.Common.{◌≡◌, ◌≢◌, ℕ, suc, ◌+◌, ◌-◌, ◌<◌, ◌≤◌, List, [], ◌∷◌, length, Some, None, false, slice_get, refl, sym, ap, ◌∙◌, subst, arith}
use Rattle.std.proofs.lemmas.Option.{same_Some}
use Rattle.lra_base.specs.Limits.{greatest_live}
use Rattle.lra_program.specs.Program.{Call, BlockItems, Function, Program}
use Rattle.lra_program.specs.Sites.{Site, plain_site, live_after_items, items_events, function_events, call_events}
use Rattle.lra_program.specs.{ProgramViews.call_view, Receivers.result_receiver, Step.Op, Step.arguments_for, Value.Argument, WellFormed.IsWellFormed, declared.receivers.Receiver.Receiver}
use Rattle.lra_operations.specs.{Inlined.callee_node, Tree.Node}
use Rattle.lra_inline_steps.specs.{Building.inside, Building.callee_frame, Building.CallStands, Building.ItemsStand, Building.WritesItems, Building.WritesCall, Building.WritesBody, Limits.Progress}
use Rattle.lra_inline_steps.specs.{Limits.passed, Limits.stopped, Limits.add_points, Stack.inline_task, Stack.all_items, Stack.a_call, Stack.IsInlineFrame, Steps.items_steps, Steps.body_steps}
use Rattle.lra_inline_steps.specs.{Steps.call_steps, declared.frame.Frame.Frame, declared.points.Limit.Limit, declared.points.Limit.TheVariants.Calls, declared.stack.CalledFrom.CalledFrom}
use Rattle.lra_inline_steps.specs.declared.stack.InlineContext.TheVariants as place
use Rattle.lra_inline_steps.proofs.{Standing.callee_stands, Walking.walk_then, Walking.walk_stop, Writing.Pointed, Writing.result_written}

pub one_less : (n : ℕ) → (n ≡ 0 → ⊥) → n ≡ suc (n - 1)
one_less n some = omega (arith, some)

-- no call more
pub no_call_more : (P : Program) (path : List ℕ) (left live : ℕ) (S : List Site) (c : Call) → left ≡ 0 → add_points S (call_events P left path live c) ≡ stopped (Calls c.label)
no_call_more P path left live S c none = subst (λ z. add_points S (call_events P z path live c) ≡ stopped (Calls c.label)) (sym none) refl

module _ (P : Program) (path : List ℕ) (r : Frame) (S : List Site) (c : Call) (fn : Function) (less : ℕ) (x : Receiver) (p : List ℕ) (k : ℕ) (b : BlockItems)
    (left : r.calls_left ≡ suc less) (found : slice_get P.functions c.function ≡ Some fn) (within : p ≡ c.label ∷ path) (wide : k ≡ length fn.parameters)
    (body : b ≡ fn.body) where
  call_walk : (w : Progress) → add_points S (function_events (call_events P less) (c.label ∷ path) r.live (Some fn)) ≡ w → add_points S (call_events P r.calls_left path r.live c) ≡ w
  call_walk w e = subst (λ z. add_points S (call_events P z path r.live c) ≡ w) (sym left)
      (subst (λ o. add_points S (function_events (call_events P less) (c.label ∷ path) r.live o) ≡ w) (sym found) e)

  items_as : (w : Progress) → add_points S (items_events (call_events P less) p (r.live + k) b) ≡ w → add_points S
      (items_events (call_events P less) (c.label ∷ path) (r.live + length fn.parameters) fn.body) ≡ w
  items_as w e =
      subst (λ z. add_points S (items_events (call_events P less) (c.label ∷ path) (r.live + length fn.parameters) z) ≡ w) body
      (subst (λ z. add_points S (items_events (call_events P less) (c.label ∷ path) (r.live + z) b) ≡ w) wide
      (subst (λ z. add_points S (items_events (call_events P less) z (r.live + k) b) ≡ w) within e))

  lives_as : (n : ℕ) → n ≡ live_after_items (r.live + k) b → n ≡ live_after_items (r.live + length fn.parameters) fn.body
  lives_as n same = same ∙ ap (λ z. live_after_items (r.live + z) b) wide ∙ ap (λ z. live_after_items (r.live + length fn.parameters) z) body

  end_as : (n : ℕ) (V : List Site) (w : Progress) → n ≡ live_after_items (r.live + k) b → add_points V (plain_site p fn.end n ∷ []) ≡ w
      → add_points V (plain_site (c.label ∷ path) fn.end (live_after_items (r.live + length fn.parameters) fn.body) ∷ []) ≡ w
  end_as n V w same e =
      subst (λ z. add_points V (plain_site (c.label ∷ path) fn.end z ∷ []) ≡ w) (lives_as n same)
      (subst (λ z. add_points V (plain_site z fn.end n ∷ []) ≡ w) within e)

  pub call_at_body : (l : Limit) → add_points S (items_events (call_events P less) p (r.live + k) b) ≡ stopped l → add_points S (call_events P r.calls_left path r.live c) ≡ stopped l
  call_at_body l e = call_walk (stopped l) (walk_stop S (items_events (call_events P less) (c.label ∷ path) (r.live + length fn.parameters) fn.body)
      (plain_site (c.label ∷ path) fn.end (live_after_items (r.live + length fn.parameters) fn.body) ∷ []) l (items_as (stopped l) e))

  pub call_at_end : (V : List Site) (n : ℕ) (l : Limit) → n ≡ live_after_items (r.live + k) b → add_points S (items_events (call_events P less) p (r.live + k) b) ≡ passed V
      → add_points V (plain_site p fn.end n ∷ []) ≡ stopped l
      → add_points S (call_events P r.calls_left path r.live c) ≡ stopped l
  call_at_end V n l same e f = call_walk (stopped l) (walk_then S (items_events (call_events P less) (c.label ∷ path) (r.live + length fn.parameters) fn.body)
      (plain_site (c.label ∷ path) fn.end (live_after_items (r.live + length fn.parameters) fn.body) ∷ []) V (stopped l) (items_as (passed V) e)
      (end_as n V (stopped l) same f))

  abbrev inner : ℕ → Frame
  inner m = record {
    base = r.live;
    live = r.live + m;
    calls_left = less;
    breaks = None;
    continues = None;
    receiver = result_receiver fn.result_type x;
    back = Some r.live;
  }

  pub invoked : (V U : List Site) (q e n : ℕ) (gives : List Argument → Op) (h g : Node) → length c.arguments ≡ length fn.parameters
      → WritesItems P p (inner k) S b h V → n ≡ live_after_items
      (r.live + k) b → e ≡ length V
      → Pointed V (record { path = p; label = fn.end; live = n; asserts = false }) U
      → g ≡ callee_node q e r.live (result_receiver fn.result_type x) (gives (arguments_for fn.parameters c.arguments)) k h
      → WritesCall P path r q x gives S c g U
  invoked V U q e n gives h g fits y same i pointed a =
      let y' = subst (λ z. WritesItems P (c.label ∷ path) (inner (length fn.parameters)) S z h V) body
      (subst (λ z. WritesItems P (c.label ∷ path) (inner z) S b h V) wide (subst (λ z. WritesItems P z (inner k) S b h V) within y)) in
      let pointed' : Pointed V (record { path = c.label ∷ path; label = fn.end; live = n; asserts = false }) U = subst
      (λ z. Pointed V (record { path = z; label = fn.end; live = n; asserts = false }) U) within pointed in
      let a' : g ≡ callee_node q e r.live (result_receiver fn.result_type x) (gives (arguments_for fn.parameters c.arguments)) (length fn.parameters) h =
      subst (λ z. g ≡ callee_node q e r.live (result_receiver fn.result_type x) (gives (arguments_for fn.parameters c.arguments)) z h) wide a in
      result_written P path r S V U q e n less x gives c fn h g left found fits y' (lives_as n same) i pointed' a'

-- into a callee's body fewer steps are left
body_falls : (P : Program) (left : ℕ) (c : Call) (fn : Function) (b : BlockItems) → left ≢ 0 → slice_get P.functions c.function ≡ Some fn → b ≡ fn.body
    → 1 + (1 + items_steps (call_steps P (left - 1)) b) < call_steps P left c
body_falls P left c fn b some found body =
    let e : left ≡ suc (left - 1) = omega (arith, some) in
    let inside = 1 + (1 + items_steps (call_steps P (left - 1)) b) in
    let whole : inside < 3 + items_steps (call_steps P (left - 1)) b = omega arith in
    subst (λ z. inside < call_steps P z c) (sym e) (subst (λ o. inside < 3 + body_steps (call_steps P (left - 1)) o) (sym found)
    (subst (λ z. inside < 3 + items_steps (call_steps P (left - 1)) z) body whole))

-- the callee's body as the code has it: its path, its frame and its items are known by equations
pub record IsCallee (P : Program) (path : List ℕ) (r : Frame) (x : Receiver) (c : Call) (p : List ℕ) (f : Frame) (b : BlockItems) : Type 0 where
  pub fn : Function
  pub found : slice_get P.functions c.function ≡ Some fn
  pub some_left : r.calls_left ≡ 0 → ⊥
  pub within : p ≡ c.label ∷ path
  pub frame : f ≡ callee_frame r (result_receiver fn.result_type x) (length fn.parameters)
  pub body : b ≡ fn.body

module _ (P : Program) (path : List ℕ) (r : Frame) (x : Receiver) (c : Call) (p : List ℕ) (f : Frame) (b : BlockItems) (is : IsCallee P path r x c p f b) where
  pub callee_body_stands : IsWellFormed P → CallStands P r c → ItemsStand P f b
  callee_body_stands well s = subst (λ z. ItemsStand P f z) (sym is.body) (subst (λ z. ItemsStand P z is.fn.body) (sym is.frame)
      (callee_stands P r r.live (r.calls_left - 1) (r.live + length is.fn.parameters) (result_receiver is.fn.result_type x) c is.fn well s is.found refl refl))

  pub callee_falls : 1 + (1 + items_steps (call_steps P f.calls_left) b) < call_steps P r.calls_left c
  callee_falls = subst (λ (z : Frame). 1 + (1 + items_steps (call_steps P z.calls_left) b) < call_steps P r.calls_left c) (sym is.frame)
      (body_falls P r.calls_left c is.fn b is.some_left is.found is.body)

  pub callee_stopped : (S : List Site) (l : Limit) → add_points S (items_events (inside P p f) p f.live b) ≡ stopped l → add_points S (call_events P r.calls_left path r.live c) ≡ stopped l
  callee_stopped S l e =
      call_at_body P path r S c is.fn (r.calls_left - 1) x p (length is.fn.parameters) b (one_less r.calls_left is.some_left) is.found is.within refl is.body l
      (subst (λ (z : Frame). add_points S (items_events (inside P p z) p z.live b) ≡ stopped l) is.frame e)

  pub callee_written : (S V : List Site) (h : Node) (n : ℕ) → WritesItems P p f S b h V → n ≡ live_after_items f.live b → WritesBody P path r x c S h n V
  callee_written S V h n y last = record {
    fn = is.fn;
    found = is.found;
    some_left = is.some_left;
    written = subst (λ z. WritesItems P (c.label ∷ path) (callee_frame r (result_receiver is.fn.result_type x) (length is.fn.parameters)) S z h V) is.body
        (subst (λ z. WritesItems P (c.label ∷ path) z S b h V) is.frame (subst (λ z. WritesItems P z f S b h V) is.within y));
    last = last ∙ ap (λ (z : Frame). live_after_items z.live b) is.frame ∙ ap (λ z. live_after_items (r.live + length is.fn.parameters) z) is.body;
  }

-- the place of a call opens, in which its callee's body is under way
pub body_opens : (P : Program) (path : List ℕ) (r : Frame) (S : List Site) (p : List ℕ) (f : Frame) (b : BlockItems) (from : CalledFrom)
    → IsCallee P path r from.caller.receiver (call_view from.call.now) p f b → from.path ≡ path → IsWellFormed P → CallStands P r (call_view from.call.now) →
    r.live ≤ greatest_live + 1
    → IsInlineFrame P (inline_task (a_call from.caller (call_view from.call.now)) path r S) (inline_task (all_items b) p f S) (record { frame = r; place = place.Callee from }) × ItemsStand P f b
body_opens P path r S p f b from is at well stands few =
    let x = from.caller.receiver in
    let c = call_view from.call.now in (
      record {
        frame = refl;
        path = is.within;
        continues = record { is = refl; path = at; stands = stands; few = few; writes = λ g n V w. callee_written P path r x c p f b is S V g n w.0 w.1 };
        stops = callee_stopped P path r x c p f b is S;
      },
      callee_body_stands P path r x c p f b is well stands,
    )

-- the call after its callee's body
module _ (P : Program) (path : List ℕ) (r : Frame) (x : Receiver) (c : Call) (S V : List Site) (h : Node) (n : ℕ) (w : WritesBody P path r x c S h n V) where
  module _ (fn : Function) (found : slice_get P.functions c.function ≡ Some fn) (p : List ℕ) (within : p ≡ c.label ∷ path) where
    same : fn ≡ w.fn
    same = same_Some fn w.fn (sym found ∙ w.found)

    end_seen : (y : Progress) → add_points V (plain_site p fn.end n ∷ []) ≡ y → add_points V (plain_site (c.label ∷ path) w.fn.end n ∷ []) ≡ y
    end_seen y e = subst (λ (z : Function). add_points V (plain_site (c.label ∷ path) z.end n ∷ []) ≡ y) same (subst (λ z. add_points V (plain_site z fn.end n ∷ []) ≡ y) within e)

    pub end_stopped : (l : Limit) → add_points V (plain_site p fn.end n ∷ []) ≡ stopped l → add_points S (call_events P r.calls_left path r.live c) ≡ stopped l
    end_stopped l e = call_at_end P path r S c w.fn (r.calls_left - 1) x (c.label ∷ path) (length w.fn.parameters) w.fn.body
        (one_less r.calls_left w.some_left) w.found refl refl refl V n l w.last
        w.written.walked (end_seen (stopped l) e)

    pub end_written : (U : List Site) (q e : ℕ) (gives : List Argument → Op) (g : Node) → length c.arguments ≡ length fn.parameters
        → e ≡ length V → add_points V (plain_site p fn.end n ∷ []) ≡
        passed U
        → g ≡ callee_node q e r.live (result_receiver fn.result_type x) (gives (arguments_for fn.parameters c.arguments)) (length fn.parameters) h
        → WritesCall P path r q x gives S c g U
    end_written U q e gives g fits i pointed a =
        let params = ap (λ (z : Function). length z.parameters) same in
        invoked P path r S c w.fn (r.calls_left - 1) x (c.label ∷ path) (length w.fn.parameters) w.fn.body (one_less r.calls_left w.some_left) w.found refl
        refl refl V U q e n gives h g (fits ∙ params)
        w.written w.last i (end_seen (passed U) pointed)
        (subst (λ (z : Function). g ≡ callee_node q e r.live (result_receiver z.result_type x) (gives (arguments_for z.parameters c.arguments))
        (length z.parameters) h) same a)
