-- The points of a well-formed program differ in call path or label: a call has the label of its statement, and labels are distinct,
-- so a path of labels names one chain of calls.
use Rattle.std.proofs.Common.{◌≡◌, ℕ, zero, suc, ◌+◌, List, [], ◌∷◌, ◌++◌, length, Option, Some, None, slice_get, inl, inr, refl, sym, ap, ◌∙◌, subst, append_assoc}
use Rattle.std.proofs.lemmas.Option.{same_Some, none-some, slice_get-get_or}
use Rattle.std.specs.List.{AllByRecursion}
use Rattle.lra_inline_sound.specs.Crates.lra_program.Program.{Call, Rvalue, value, result, Stmt, absent, nothing, block, assign, write, call, if, loop, for, break, continue, return, assert, assume}
use Rattle.lra_inline_sound.specs.Crates.lra_program.Program.{BlockItems, no_more, declaration, array, statement, switch, Cases, no_cases, labelled, stated, Function, Program}
use Rattle.lra_inline_sound.specs.Crates.lra_program.Sites.{Site, Event, comes, one_call_more, live_after_items, rvalue_events, given_events, stmt_events, cases_events, items_events, function_events}
use Rattle.lra_inline_sound.specs.Crates.lra_program.Sites.{call_events, events_of, event_sites, sites_of, greatest_calls}
use Rattle.lra_inline_sound.specs.Crates.lra_program.WellFormed.{stmt_numbers, cases_numbers, items_numbers, function_numbers, Jumps, in_switch, IsGoodCall, IsGoodRvalue, IsGoodGiven, IsGoodStmt}
use Rattle.lra_inline_sound.specs.Crates.lra_program.WellFormed.{AreGoodCases, AreGoodItems, IsGoodFunction, IsWellFormed}
use Rattle.lra_operations.specs.Agree.{AreDistinct}
use Rattle.lra_inline_sound.proofs.DistinctLists.{IsIn, AllDiffer, in_left, in_right, in_either, differ_join, differ_left, differ_right, differ_apart, differ_range, differ_piece, one_place, longer}
use Rattle.lra_inline_sound.proofs.DistinctLists.{one_before}

-- a point's label and call path in one list
abbrev pub key : Site → List ℕ
key s = s.label ∷ s.path

abbrev pub keys_in : List Event → List (List ℕ)
keys_in [] = []
keys_in (comes s ∷ es) = key s ∷ keys_in es
keys_in (one_call_more at ∷ es) = keys_in es

keys_append : (es fs : List Event) → keys_in (es ++ fs) ≡ keys_in es ++ keys_in fs
keys_append [] fs = refl
keys_append (comes s ∷ es) fs = ap (λ ks. key s ∷ ks) (keys_append es fs)
keys_append (one_call_more at ∷ es) fs = keys_append es fs

-- on the path, after one of the labels
abbrev pub Under : List ℕ → List ℕ → List ℕ → Type 0
Under path labels k = (before : List ℕ) × (a : ℕ) × IsIn a labels × (k ≡ before ++ a ∷ path)

-- keys that differ, all of them on the path and after the labels
pub record Spread (path labels : List ℕ) (ks : List (List ℕ)) : Type 0 where
  pub differ : AllDiffer ks
  pub under : (k : List ℕ) → IsIn k ks → Under path labels k

spread_none : (path labels : List ℕ) → Spread path labels []
spread_none path labels = record { differ = tt; under = λ k i. absurd i }

spread_join : (path labels more : List ℕ) (ks ls : List (List ℕ)) → ((a : ℕ) → IsIn a labels → IsIn a more → ⊥) → Spread path labels ks → Spread path more ls → Spread path (labels ++ more) (ks ++ ls)
spread_join path labels more ks ls apart x y = record {
  differ = differ_join ks ls x.differ y.differ (λ k i j.
      let u = x.under k i in
      let v = y.under k j in
      apart u.1 u.2 (subst (λ a. IsIn a more) (sym (one_before u.0 v.0 path u.1 v.1 (sym u.3 ∙ v.3))) v.2));
  under = λ k i. elim (in_either k ks ls i) [
    | inl j ↦ let u = x.under k j in (u.0, u.1, in_left u.1 labels more u.2, u.3)
    | inr j ↦ let u = y.under k j in (u.0, u.1, in_right u.1 labels more u.2, u.3)
  ];
}

deeper : (at : ℕ) (path before : List ℕ) (a : ℕ) → before ++ a ∷ at ∷ path ≡ (before ++ a ∷ []) ++ at ∷ path
deeper at path before a = sym (append_assoc before (a ∷ []) (at ∷ path))

-- a statement's own point, and those of the call that it makes
spread_point : (at : ℕ) (path labels : List ℕ) (ks : List (List ℕ)) → Spread (at ∷ path) labels ks → Spread path (at ∷ []) ((at ∷ path) ∷ ks)
spread_point at path labels ks x = record {
  differ = (λ i. let u = x.under (at ∷ path) i in longer u.0 (at ∷ path) u.1 (sym u.3), x.differ);
  under = λ k i. elim i [
    | inl e ↦ ([], at, inl refl, e)
    | inr j ↦ let u = x.under k j in (u.0 ++ u.1 ∷ [], at, inl refl, u.3 ∙ deeper at path u.0 u.1)
  ];
}

spread_alone : (at : ℕ) (path : List ℕ) → Spread path (at ∷ []) ((at ∷ path) ∷ [])
spread_alone at path = spread_point at path [] [] (spread_none (at ∷ path) [])

head_apart : (at : ℕ) (labels : List ℕ) → (IsIn at labels → ⊥) → (a : ℕ) → IsIn a (at ∷ []) → IsIn a labels → ⊥
head_apart at labels d a (inl e) j = d (subst (λ z. IsIn z labels) e j)
head_apart at labels d a (inr i) j = i

-- a point of its own, and then two parts
spread_parts : (at : ℕ) (path labels more : List ℕ) (ks ls : List (List ℕ)) → AllDiffer (at ∷ (labels ++ more)) → Spread path labels ks → Spread path more ls
    → Spread path (at ∷ (labels ++ more)) ((at ∷ path) ∷ (ks ++ ls))
spread_parts at path labels more ks ls d x y = spread_join path (at ∷ []) (labels ++ more) ((at ∷ path) ∷ []) (ks ++ ls) (head_apart at (labels ++ more) d.0) (spread_alone at path)
    (spread_join path labels more ks ls (differ_apart labels more d.1) x y)

module _ (P : Program) where
  -- the points of a call that stands in a program lie after the call's label
  abbrev pub Inside : (List ℕ → ℕ → Call → List Event) → Type 0
  Inside inside = (path : List ℕ) (live at here : ℕ) (c : Call) → IsGoodCall P at here c → (labels : List ℕ) × Spread (at ∷ path) labels (keys_in (inside path live c))

  module _ (inside : List ℕ → ℕ → Call → List Event) (calls : Inside inside) (path : List ℕ) where
    spread_rvalue : (at here live : ℕ) (e : Rvalue) → IsGoodRvalue P at here e → (labels : List ℕ) × Spread (at ∷ path) labels (keys_in (rvalue_events inside path live e))
    spread_rvalue at here live (value e) good = ([], spread_none (at ∷ path) [])
    spread_rvalue at here live (result c) good = calls path live at here c good

    spread_given : (at here live : ℕ) (o : Option Rvalue) → IsGoodGiven P at here o → (labels : List ℕ) × Spread (at ∷ path) labels (keys_in (given_events inside path live o))
    spread_given at here live None good = ([], spread_none (at ∷ path) [])
    spread_given at here live (Some e) good = spread_rvalue at here live e good

    mutual
      spread_stmt : (b : Jumps) (here live : ℕ) (s : Stmt) → IsGoodStmt P b here s → AllDiffer (stmt_numbers s)
          → Spread path (stmt_numbers s) (keys_in (stmt_events inside path live s))
      spread_stmt b here live absent good d = spread_none path []
      spread_stmt b here live (nothing at) good d = spread_alone at path
      spread_stmt b here live (block items end) good d = rw keys_append (spread_join path (items_numbers items) (end ∷ []) (keys_in (items_events inside path live items)) ((end ∷ path) ∷ [])
          (differ_apart (items_numbers items) (end ∷ []) d) (spread_items b here live items good (differ_left (items_numbers items) (end ∷ []) d)) (spread_alone end path))
      spread_stmt b here live (assign at x e) good d = let y = spread_rvalue at here live e good.1 in spread_point at path y.0 (keys_in (rvalue_events inside path live e)) y.1
      spread_stmt b here live (write at x e) good d = let y = spread_rvalue at here live e good.1 in spread_point at path y.0
          (keys_in (rvalue_events inside path live e)) y.1
      spread_stmt b here live (call at c) good d = let y = calls path live at here c good in spread_point at path y.0 (keys_in (inside path live c)) y.1
      spread_stmt b here live (if at c s t) good d = rw keys_append
          (spread_parts at path (stmt_numbers s) (stmt_numbers t) (keys_in (stmt_events inside path live s)) (keys_in (stmt_events inside path live t)) d
          (spread_stmt b here live s good.1 (differ_left (stmt_numbers s) (stmt_numbers t) d.1)) (spread_stmt b here live t good.2 (differ_right (stmt_numbers s) (stmt_numbers t) d.1)))
      spread_stmt b here live (loop at c s step) good d = rw keys_append
          (spread_parts at path (stmt_numbers step) (stmt_numbers s) (keys_in (stmt_events inside path live step)) (keys_in (stmt_events inside path live s)) d
          (spread_stmt _ here live step good.2 (differ_left (stmt_numbers step) (stmt_numbers s) d.1)) (spread_stmt _ here live s good.1 (differ_right (stmt_numbers step) (stmt_numbers s) d.1)))
      spread_stmt b here live (for at init c s step) good d =
          let front = items_numbers init in
          let turns = stmt_numbers step in
          let rounds = stmt_numbers s in
          let later = live_after_items live init in
          let early = differ_left (front ++ turns) rounds d.1 in
          let init_events = items_events inside path live init in
          let step_events = stmt_events inside path later step in
          let body_events = stmt_events inside path later s in
          subst (λ ks. Spread path (at ∷ (front ++ turns ++ rounds)) ((at ∷ path) ∷ ks))
          (sym (keys_append (init_events ++ step_events) body_events ∙ ap (λ ks. ks ++ keys_in body_events) (keys_append init_events step_events)))
          (spread_parts at path (front ++ turns) rounds (keys_in init_events ++ keys_in step_events) (keys_in body_events) d
          (spread_join path front turns (keys_in init_events) (keys_in step_events) (differ_apart front turns early)
          (spread_items _ here live init good.0 (differ_left front turns early))
          (spread_stmt _ (live_after_items here init) later step good.3 (differ_right front turns early)))
          (spread_stmt _ (live_after_items here init) later s good.2 (differ_right (front ++ turns) rounds d.1)))
      spread_stmt b here live (break at) good d = spread_alone at path
      spread_stmt b here live (continue at) good d = spread_alone at path
      spread_stmt b here live (return at e) good d = let y = spread_given at here live e good in spread_point at path y.0 (keys_in (given_events inside path live e)) y.1
      spread_stmt b here live (assert at c) good d = spread_alone at path
      spread_stmt b here live (assume at c) good d = spread_alone at path
      spread_stmt b here live (switch at e cs) good d = spread_join path (at ∷ []) (cases_numbers cs) ((at ∷ path) ∷ [])
          (keys_in (cases_events inside path live cs))
          (head_apart at (cases_numbers cs) d.0) (spread_alone at path) (spread_cases (in_switch b) here live cs good.1 d.1)

      spread_cases : (b : Jumps) (here live : ℕ) (cs : Cases) → AreGoodCases P b here cs → AllDiffer (cases_numbers cs)
          → Spread path (cases_numbers cs) (keys_in (cases_events inside path live cs))
      spread_cases b here live no_cases good d = spread_none path []
      spread_cases b here live (labelled l cs) good d = spread_cases b here live cs good d
      spread_cases b here live (stated s cs) good d = rw keys_append
          (spread_join path (stmt_numbers s) (cases_numbers cs) (keys_in (stmt_events inside path live s)) (keys_in (cases_events inside path live cs))
          (differ_apart (stmt_numbers s) (cases_numbers cs) d) (spread_stmt b here live s good.0 (differ_left (stmt_numbers s) (cases_numbers cs) d))
          (spread_cases b here live cs good.1 (differ_right (stmt_numbers s) (cases_numbers cs) d)))

      spread_items : (b : Jumps) (here live : ℕ) (items : BlockItems) → AreGoodItems P b here items → AllDiffer (items_numbers items)
          → Spread path (items_numbers items) (keys_in (items_events inside path live items))
      spread_items b here live no_more good d = spread_none path []
      spread_items b here live (declaration e items) good d =
          let y = spread_given e.label (suc here) (suc live) e.rvalue good.0 in
          rw keys_append (spread_join path (e.label ∷ []) (items_numbers items) ((e.label ∷ path) ∷ keys_in (given_events inside path (suc live) e.rvalue))
          (keys_in (items_events inside path (suc live) items)) (head_apart e.label (items_numbers items) d.0)
          (spread_point e.label path y.0 (keys_in (given_events inside path (suc live) e.rvalue)) y.1) (spread_items b (suc here) (suc live) items good.1 d.1))
      spread_items b here live (array at a items) good d =
          spread_join path (at ∷ []) (items_numbers items) ((at ∷ path) ∷ []) (keys_in (items_events inside path live items))
          (head_apart at (items_numbers items) d.0)
          (spread_alone at path) (spread_items b here live items good d.1)
      spread_items b here live (statement s items) good d = rw keys_append
          (spread_join path (stmt_numbers s) (items_numbers items) (keys_in (stmt_events inside path live s)) (keys_in (items_events inside path live items))
          (differ_apart (stmt_numbers s) (items_numbers items) d) (spread_stmt b here live s good.0 (differ_left (stmt_numbers s) (items_numbers items) d))
          (spread_items b here live items good.1 (differ_right (stmt_numbers s) (items_numbers items) d)))

    spread_function : (live : ℕ) (f : Function) → IsGoodFunction P f → AllDiffer (function_numbers f) → Spread path (function_numbers f) (keys_in (function_events inside path live (Some f)))
    spread_function live f good d = rw keys_append (spread_join path (items_numbers f.body) (f.end ∷ []) (keys_in (items_events inside path (live + length f.parameters) f.body)) ((f.end ∷ path) ∷ [])
        (differ_apart (items_numbers f.body) (f.end ∷ []) d) (spread_items _ (length f.parameters) (live + length f.parameters) f.body good (differ_left (items_numbers f.body) (f.end ∷ []) d))
        (spread_alone f.end path))

pub all_at : (P : Program) (fs : List Function) (i : ℕ) (f : Function) → AllByRecursion (IsGoodFunction P) fs → slice_get fs i ≡ Some f → IsGoodFunction P f
all_at P [] i f good e = absurd (none-some f e)
all_at P (g ∷ fs) zero f good e = subst (λ x. IsGoodFunction P x) (same_Some g f e) good.0
all_at P (g ∷ fs) (suc i) f good e = all_at P fs i f good.1 e

module _ (P : Program) (well : IsWellFormed P) where
  labels_differ : (i : ℕ) (f : Function) → slice_get P.functions i ≡ Some f → AllDiffer (function_numbers f)
  labels_differ i f e = differ_piece function_numbers P.functions i f (subst AllDiffer (sym well.labels) (differ_range _ _)) e

  spread_call : (more : ℕ) → Inside P (call_events P more)
  spread_call zero path live at here c good = ([], spread_none (at ∷ path) [])
  spread_call (suc more) path live at here c good = (
    function_numbers good.callee,
    subst (λ o. Spread (at ∷ path) (function_numbers good.callee) (keys_in (function_events (call_events P more) (c.label ∷ path) live o))) (sym good.is_callee)
        (subst (λ l. Spread (l ∷ path) (function_numbers good.callee) (keys_in (function_events (call_events P more) (c.label ∷ path) live (Some good.callee)))) good.label
        (spread_function P (call_events P more) (spread_call more) (c.label ∷ path) live good.callee (all_at P P.functions c.function good.callee well.functions good.is_callee)
        (labels_differ c.function good.callee good.is_callee))),
  )

  pub main_at : (i : ℕ) × (slice_get P.functions i ≡ Some P.main)
  main_at = (well.main.0, slice_get-get_or P.functions well.main.0 P.main well.main.1 ∙ ap Some well.main.2)

  spread_program : Spread [] (function_numbers P.main) (keys_in (events_of P))
  spread_program = spread_function P (call_events P greatest_calls) (spread_call greatest_calls) [] (length P.globals) P.main
      (all_at P P.functions main_at.0 P.main well.functions main_at.1) (labels_differ main_at.0 P.main main_at.1)

key_at : (es : List Event) (i : ℕ) (s : Site) → slice_get (event_sites es) i ≡ Some s → slice_get (keys_in es) i ≡ Some (key s)
key_at [] i s e = absurd (none-some s e)
key_at (comes t ∷ es) zero s e = ap (λ x. Some (key x)) (same_Some t s e)
key_at (comes t ∷ es) (suc i) s e = key_at es i s e
key_at (one_call_more at ∷ es) i s e = key_at es i s e

-- no two points of a well-formed program have one call path and one label
pub distinct_sites : (P : Program) → IsWellFormed P → AreDistinct (sites_of P)
distinct_sites P well i j a b x y same_path same_label =
    let same : key a ≡ key b = cc in
    one_place (keys_in (events_of P)) i j (key a) (spread_program P well).differ (key_at (events_of P) i a x) (rw same (key_at (events_of P) j b y))
