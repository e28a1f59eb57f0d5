-- The points of a program with its calls written out, in text order, a callee's points after its call's.
-- No path has more than 32 calls: a further one is reported in place of its points.
use Rattle.std.specs.Prelude.{ℕ, zero, suc, ◌+◌, Bool, true, false, List, [], ◌∷◌, ◌++◌, length, Option, Some, None}
use Rattle.std.specs.Prelude.{slice_get}
use Rattle.lra_base.specs.TextOrder.{for_order}
use Rattle.lra_program.specs.Program.{Call, Rvalue, value, result, Stmt, absent, nothing, block, assign, write, call}
use Rattle.lra_program.specs.Program.{if, loop, for, break, continue, return, assert, assume, switch, Cases, no_cases}
use Rattle.lra_program.specs.Program.{labelled, stated, BlockItems, no_more, declaration, array, statement, Function}
use Rattle.lra_program.specs.Program.{Program}

-- a point: its calls, the innermost first, its label, how many variables live there, and whether it is an assertion
pub record Site : Type 0 where
  pub path : List ℕ
  pub label : ℕ
  pub live : ℕ
  pub asserts : Bool

pub data Event : Type 0 where
  comes : Site → Event
  -- a call on a path that has 32 already: the call's label
  one_call_more : ℕ → Event

abbrev pub greatest_calls : ℕ
greatest_calls = 32

abbrev pub plain_site : List ℕ → ℕ → ℕ → Event
plain_site path at live = comes (record { path = path; label = at; live = live; asserts = false })

-- how many variables live after some items; an array is none
abbrev pub live_after_items : ℕ → BlockItems → ℕ
live_after_items live no_more = live
live_after_items live (declaration d items) = live_after_items (suc live) items
live_after_items live (array at a items) = live_after_items live items
live_after_items live (statement s items) = live_after_items live items

-- a call's points, on a path with so many live variables
module _ (inside : List ℕ → ℕ → Call → List Event) (path : List ℕ) where
  abbrev pub rvalue_events : ℕ → Rvalue → List Event
  rvalue_events live (value e) = []
  rvalue_events live (result c) = inside path live c

  abbrev pub given_events : ℕ → Option Rvalue → List Event
  given_events live None = []
  given_events live (Some e) = rvalue_events live e

  abbrev mutual
    pub stmt_events : ℕ → Stmt → List Event
    stmt_events live absent = []
    stmt_events live (nothing at) = plain_site path at live ∷ []
    stmt_events live (block items end) =
        items_events live items ++ plain_site path end (live_after_items live items) ∷ []
    stmt_events live (assign at x e) = plain_site path at live ∷ rvalue_events live e
    stmt_events live (write at x e) = plain_site path at live ∷ rvalue_events live e
    stmt_events live (call at c) = plain_site path at live ∷ inside path live c
    stmt_events live (if at c a b) = plain_site path at live ∷ stmt_events live a ++ stmt_events live b
    stmt_events live (loop at c a step) = for_order (plain_site path at live) [] (stmt_events live step)
        (stmt_events live a)
    stmt_events live (for at init c a step) =
        let inside = live_after_items live init in
        for_order (plain_site path at inside) (items_events live init) (stmt_events inside step) (stmt_events inside a)
    stmt_events live (break at) = plain_site path at live ∷ []
    stmt_events live (continue at) = plain_site path at live ∷ []
    stmt_events live (return at e) = plain_site path at live ∷ given_events live e
    stmt_events live (assert at c) = comes (record { path = path; label = at; live = live; asserts = true }) ∷ []
    stmt_events live (assume at c) = plain_site path at live ∷ []
    stmt_events live (switch at e cs) = plain_site path at live ∷ cases_events live cs

    -- labels are no points, and nothing is declared among the statements
    pub cases_events : ℕ → Cases → List Event
    cases_events live no_cases = []
    cases_events live (labelled l cs) = cases_events live cs
    cases_events live (stated a cs) = stmt_events live a ++ cases_events live cs

    pub items_events : ℕ → BlockItems → List Event
    items_events live no_more = []
    items_events live (declaration d items) = plain_site path d.label live ∷ given_events (suc live) d.rvalue ++
        items_events (suc live) items
    items_events live (array at a items) = plain_site path at live ∷ items_events live items
    items_events live (statement s items) = stmt_events live s ++ items_events live items

-- a function's points: its body's and that of its end
abbrev pub function_events : (List ℕ → ℕ → Call → List Event) → List ℕ → ℕ → Option Function → List Event
function_events inside path live None = []
function_events inside path live (Some f) =
    items_events inside path (live + length f.parameters) f.body ++
    plain_site path f.end (live_after_items (live + length f.parameters) f.body) ∷ []

-- a call's points, if the path may have so many calls more
abbrev pub call_events : Program → ℕ → List ℕ → ℕ → Call → List Event
call_events P zero path live c = one_call_more c.label ∷ []
call_events P (suc more) path live c = function_events (call_events P more) (c.label ∷ path) live
    (slice_get P.functions c.function)

abbrev pub events_of : Program → List Event
events_of P = function_events (call_events P greatest_calls) [] (length P.globals) (Some P.main)

abbrev pub event_sites : List Event → List Site
event_sites [] = []
event_sites (comes s ∷ es) = s ∷ event_sites es
event_sites (one_call_more at ∷ es) = event_sites es

-- all points; the n-th has the number n, from 1
abbrev pub sites_of : Program → List Site
sites_of P = event_sites (events_of P)
