-- A whole program written out: its points are those of the definition, its tree is the definition's, and it is refused for the limit that
-- stopped the writing.
use Rattle.std.proofs.Common.{◌≡◌, ℕ, zero, suc, ◌≤◌, ◌<◌, List, [], ◌∷◌, ◌++◌, length, Option, Some, None, Bool, true, false, slice_get, refl, sym, ap, ◌∙◌, subst, arith, append-nil, append_assoc}
use Rattle.std.proofs.{Common.length-append, Common.add-zero, lemmas.Bool.lt-ltb, lemmas.Bool.le-ltb, lemmas.Bool.ltb-false, lemmas.Option.none-some, lemmas.Option.same_Some}
use Rattle.std.specs.Prelude.{nat_lt, if◌then◌else◌}
use Rattle.lra_base.specs.declared.refusals.Refusal.{Refusal}
use Rattle.lra_program.specs.Sites.{Site, Event, comes, one_call_more, plain_site, live_after_items, items_events, call_events, events_of, event_sites, sites_of}
use Rattle.lra_program.specs.{Program.BlockItems, Program.Program, Step.main_receiver, WellFormed.IsWellFormed}
use Rattle.lra_inline.specs.Crates.{lra_resolution_spec.Refuse.greatest_live, lra_resolution_spec.Refuse.greatest_points, lra_resolution_spec.Refuse.limit_fault, lra_syntax.Labels.Labelled}
use Rattle.lra_operations.specs.{Agree.IsInlinedTree, Inlined.move, Inlined.IsSiteAt, Inlined.InlineItems, Inlined.main_frame, Inlined.main_inline_state, Tree.Node, Tree.seq, Tree.point}
use Rattle.lra_inline_steps.specs.Limits.{Progress, passed, stopped, add_points, refusal_of}
use Rattle.lra_inline_steps.specs.declared.points.Limit.TheVariants.{Variables, Points, Calls}
use Rattle.lra_inline_steps.specs.{Building.inside, Building.WritesItems, Building.IsFrame, declared.frame.Frame.Frame, declared.points.Limit.Limit}
use Rattle.lra_inline_steps.proofs.Walking.{walk_then, walk_stop, chosen, chosen_passed, point_there, one_longer, begins_same, passed_same, not_passed}
use Rattle.lra_inline_steps.proofs.Writing.{Pointed, pointed_begins}

pub walk_sites : (S : List Site) (es : List Event) (U : List Site) → add_points S es ≡ passed U → U ≡ S ++ event_sites es
walk_sites S [] U e = sym (passed_same S U e) ∙ sym (append-nil S)
walk_sites S (comes s ∷ es) U e =
    walk_sites (S ++ s ∷ []) es U (chosen_passed (nat_lt greatest_live s.live) (nat_lt greatest_points (suc (length S))) (Variables s.label) (Points s.label) (add_points (S ++ s ∷ []) es) U e)
    ∙ append_assoc S (s ∷ []) (event_sites es)
walk_sites S (one_call_more at ∷ es) U e = absurd (not_passed (Calls at) U e)

-- what a progress says of the refusal
abbrev pub fault_in : List Labelled → Progress → Option Refusal
fault_in ls (passed U) = None
fault_in ls (stopped x) = Some (refusal_of ls x)

same_fault : (ls : List Labelled) (many full : Bool) (x y : Limit) (r : Progress) (f : Option Refusal) → fault_in ls r ≡ f
    → fault_in ls (chosen many full x y r) ≡ (if many then Some (refusal_of ls x) else (if full then Some (refusal_of ls y) else f))
same_fault ls true full x y r f e = refl
same_fault ls false true x y r f e = refl
same_fault ls false false x y r f e = e

pub walk_fault : (ls : List Labelled) (S : List Site) (es : List Event) → fault_in ls (add_points S es) ≡ limit_fault ls (length S) es
walk_fault ls S [] = refl
walk_fault ls S (comes s ∷ es) =
    let longer : length (S ++ s ∷ []) ≡ suc (length S) = rw length-append (omega arith) in
    same_fault ls (nat_lt greatest_live s.live) (nat_lt greatest_points (suc (length S))) (Variables s.label) (Points s.label) (add_points (S ++ s ∷ []) es) (limit_fault ls (suc (length S)) es)
    (subst (λ n. fault_in ls (add_points (S ++ s ∷ []) es) ≡ limit_fault ls n es) longer (walk_fault ls (S ++ s ∷ []) es))
walk_fault ls S (one_call_more at ∷ es) = refl

-- no point has more live variables than may be
few_there : (n : ℕ) (full : Bool) (x y : Limit) (r : Progress) (U : List Site) → chosen (nat_lt greatest_live n) full x y r ≡ passed U → n ≤ greatest_live
few_there n full x y r U e =
    let no : greatest_live < n → ⊥ = λ l. not_passed x U (subst (λ many. chosen many full x y r ≡ passed U) (lt-ltb greatest_live n l) e) in
    omega (arith, no)

pub few_live : (S : List Site) (es : List Event) (U : List Site) → add_points S es ≡ passed U → (q : ℕ) (s : Site) → slice_get (event_sites es) q ≡ Some s → s.live ≤ greatest_live
few_live S [] U e q s f = absurd (none-some s f)
few_live S (comes t ∷ es) U e zero s f =
    subst (λ (z : Site). z.live ≤ greatest_live) (same_Some t s f) (few_there t.live (nat_lt greatest_points (suc (length S))) (Variables t.label) (Points t.label) (add_points (S ++ t ∷ []) es) U e)
few_live S (comes t ∷ es) U e (suc q) s f =
    few_live (S ++ t ∷ []) es U (chosen_passed (nat_lt greatest_live t.live) (nat_lt greatest_points (suc (length S))) (Variables t.label) (Points t.label) (add_points (S ++ t ∷ []) es) U e) q s f
few_live S (one_call_more at ∷ es) U e q s f = absurd (not_passed (Calls at) U e)

pub whole_sites : (P : Program) (U : List Site) → add_points [] (events_of P) ≡ passed U → U ≡ sites_of P
whole_sites P U e = walk_sites [] (events_of P) U e

abbrev pub first_frame : Program → Frame
first_frame P = record {
  base = length P.globals;
  live = length P.globals;
  calls_left = 32;
  breaks = None;
  continues = None;
  receiver = main_receiver P;
  back = None;
}

module _ (P : Program) (alone : P.main.parameters ≡ []) where
  -- main's items, and the point of its end
  abbrev main_events : List Event
  main_events = items_events (call_events P 32) [] (length P.globals) P.main.body ++ plain_site [] P.main.end (live_after_items (length P.globals) P.main.body)
      ∷ []

  pub events_are : main_events ≡ events_of P
  events_are = rw alone (rw add-zero refl)

  abbrev last_site : ℕ → Site
  last_site n = record { path = []; label = P.main.end; live = n; asserts = false }

  pub whole_walk : (S V U : List Site) (h : Node) → WritesItems P [] (first_frame P) S P.main.body h V
      → Pointed V (last_site (live_after_items (length P.globals) P.main.body)) U
      → add_points S (events_of P) ≡ passed U
  whole_walk S V U h x e = subst (λ es. add_points S es ≡ passed U) events_are
      (walk_then S (items_events (call_events P 32) [] (length P.globals) P.main.body)
      (plain_site [] P.main.end (live_after_items (length P.globals) P.main.body) ∷ []) V (passed U) x.walked e)

  -- where the items are stopped, and where their end is
  pub items_stopped : (S : List Site) (x : Limit) → add_points S (items_events (call_events P 32) [] (length P.globals) P.main.body) ≡ stopped x
      → add_points S (events_of P) ≡ stopped x
  items_stopped S x e = subst (λ es. add_points S es ≡ stopped x) events_are
      (walk_stop S (items_events (call_events P 32) [] (length P.globals) P.main.body)
      (plain_site [] P.main.end (live_after_items (length P.globals) P.main.body) ∷ []) x e)

  pub end_stopped : (S V : List Site) (x : Limit) → add_points S (items_events (call_events P 32) [] (length P.globals) P.main.body) ≡ passed V
      → add_points V (plain_site [] P.main.end (live_after_items (length P.globals) P.main.body) ∷ []) ≡ stopped x → add_points S (events_of P) ≡ stopped x
  end_stopped S V x e f = subst (λ es. add_points S es ≡ stopped x) events_are
      (walk_then S (items_events (call_events P 32) [] (length P.globals) P.main.body)
      (plain_site [] P.main.end (live_after_items (length P.globals) P.main.body) ∷ []) V (stopped x) e f)

  pub whole_graph : (V U : List Site) (h g : Node) (q : ℕ) → WritesItems P [] (first_frame P) [] P.main.body h V → Pointed V (last_site (live_after_items (length P.globals) P.main.body)) U
      → q ≡ length V → g ≡ seq h (point q) → IsInlinedTree P g
  whole_graph V U h g q x e i a =
      let n = live_after_items (length P.globals) P.main.body in
      let same : U ≡ sites_of P = whole_sites P U (whole_walk [] V U h x e) in
      let is : IsFrame P [] (first_frame P) (main_frame P) = record {
        path = refl;
        base = refl;
        breaks = refl;
        continues = refl;
        receiver = refl;
        back = refl;
      } in
      record {
        body = h;
        last = length V;
        live = n;
        inlined = subst (λ T. InlineItems P T (main_inline_state P) P.main.body h n (length V)) same
            (x.placed U (main_frame P) (pointed_begins V U (last_site n) e) is);
        ends = subst (λ T. IsSiteAt T (move (main_inline_state P) n (length V)) P.main.end) same (point_there V U U (last_site n) e (begins_same U));
        all = rw (← same) (one_longer V U (last_site n) e);
        parts = rw (← i) a;
      }

-- as the code has it: the path, the frame, the items and the label of the end are known by equations
module _ (P : Program) (well : IsWellFormed P) (p : List ℕ) (r : Frame) (S : List Site) (b : BlockItems) (at : ℕ) (from : p ≡ []) (first : r ≡ first_frame P)
    (body : P.main.body ≡ b) (ends : P.main.end ≡ at) where
  writes_as : (h : Node) (V : List Site) → WritesItems P p r S b h V → WritesItems P [] (first_frame P) S P.main.body h V
  writes_as h V x =
      subst (λ z. WritesItems P [] (first_frame P) S z h V) (sym body)
      (subst (λ z. WritesItems P [] z S b h V) first (subst (λ z. WritesItems P z r S b h V) from x))

  lives_as : (n : ℕ) → n ≡ live_after_items r.live b → n ≡ live_after_items (length P.globals) P.main.body
  lives_as n same = same ∙ ap (λ (z : Frame). live_after_items z.live b) first ∙ ap (λ z. live_after_items (length P.globals) z) (sym body)

  end_as : (n : ℕ) (V : List Site) (w : Progress) → n ≡ live_after_items r.live b → add_points V (plain_site p at n ∷ []) ≡ w
      → add_points V (plain_site [] P.main.end (live_after_items (length P.globals) P.main.body) ∷ []) ≡ w
  end_as n V w same e =
      subst (λ z. add_points V (plain_site [] P.main.end z ∷ []) ≡ w) (lives_as n same)
      (subst (λ z. add_points V (plain_site [] z n ∷ []) ≡ w) (sym ends) (subst (λ z. add_points V (plain_site z at n ∷ []) ≡ w) from e))

  module _ (V U : List Site) (n q : ℕ) (h : Node) (same : n ≡ live_after_items r.live b) (x : WritesItems P p r S b h V) (e : add_points V (plain_site p at n ∷ []) ≡ passed U) where
    pub made_walk : add_points S (events_of P) ≡ passed U
    made_walk = whole_walk P well.alone S V U h (writes_as h V x) (end_as n V (passed U) same e)

    pub made_graph : (g : Node) → q ≡ length V → g ≡ seq h (point q) → S ≡ [] → IsInlinedTree P g
    made_graph g i a none =
        whole_graph P well.alone V U h g q (subst (λ z. WritesItems P [] (first_frame P) z P.main.body h V) none (writes_as h V x))
        (end_as n V (passed U) same e) i a

  pub stopped_in_items : (x : Limit) → add_points S (items_events (inside P p r) p r.live b) ≡ stopped x → add_points S (events_of P) ≡ stopped x
  stopped_in_items x e = items_stopped P well.alone S x
      (subst (λ z. add_points S (items_events (call_events P 32) [] (length P.globals) z) ≡ stopped x) (sym body)
      (subst (λ (z : Frame). add_points S (items_events (inside P [] z) [] z.live b) ≡ stopped x) first
      (subst (λ z. add_points S (items_events (inside P z r) z r.live b) ≡ stopped x) from e)))

  pub stopped_at_end : (V : List Site) (h : Node) (n : ℕ) (x : Limit) → n ≡ live_after_items r.live b → WritesItems P p r S b h V
      → add_points V (plain_site p at n ∷ []) ≡ stopped x
      → add_points S (events_of P) ≡ stopped x
  stopped_at_end V h n x same y e = end_stopped P well.alone S V x (writes_as h V y).walked (end_as n V (stopped x) same e)

-- a program that is written out after these points, or passes a limit there
module _ (P : Program) (S : List Site) where
  module _ (U : List Site) (e : add_points S (events_of P) ≡ passed U) where
    -- if it is the first one
    pub made_sites : S ≡ [] → U ≡ sites_of P
    made_sites none = whole_sites P U (subst (λ z. add_points z (events_of P) ≡ passed U) none e)

    pub made_few : (k : ℕ) (s : Site) → slice_get (sites_of P) k ≡ Some s → s.live ≤ greatest_live
    made_few k s f = few_live S (events_of P) U e k s f

    pub made_within : (ls : List Labelled) → limit_fault ls (length S) (events_of P) ≡ None
    made_within ls = sym (walk_fault ls S (events_of P)) ∙ ap (fault_in ls) e

  pub made_refused : (x : Limit) (ls : List Labelled) → add_points S (events_of P) ≡ stopped x →
      limit_fault ls (length S) (events_of P) ≡ Some (refusal_of ls x)
  made_refused x ls e = sym (walk_fault ls S (events_of P)) ∙ ap (fault_in ls) e

-- fewer points before it, and it passes no limit either
fewer_then : (many full less : Bool) (x y : Refusal) (f g : Option Refusal) → (full ≡ false → less ≡ false) → (f ≡ None → g ≡ None)
    → (if many then Some x else (if full then Some y else f)) ≡ None → (if many then Some x else (if less then Some y else g)) ≡ None
fewer_then true full less x y f g room rest e = absurd (none-some x (sym e))
fewer_then false true less x y f g room rest e = absurd (none-some y (sym e))
fewer_then false false less x y f g room rest e = rw (room refl) (rest e)

room_for : (n m : ℕ) → n ≤ m → nat_lt greatest_points (suc m) ≡ false → nat_lt greatest_points (suc n) ≡ false
room_for n m few e = let room = ltb-false greatest_points (suc m) e in le-ltb greatest_points (suc n) (omega (arith, few, room))

pub fewer_within : (ls : List Labelled) (n m : ℕ) (es : List Event) → n ≤ m → limit_fault ls m es ≡ None → limit_fault ls n es ≡ None
fewer_within ls n m [] few e = refl
fewer_within ls n m (comes s ∷ es) few e =
    fewer_then (nat_lt greatest_live s.live) (nat_lt greatest_points (suc m)) (nat_lt greatest_points (suc n)) _ _ (limit_fault ls (suc m) es)
    (limit_fault ls (suc n) es)
    (room_for n m few) (fewer_within ls (suc n) (suc m) es (omega (arith, few))) e
fewer_within ls n m (one_call_more at ∷ es) few e = absurd (none-some _ (sym e))
