-- No point of a program has a path of more calls than the greatest number.
use Rattle.std.proofs.Common.{ℕ, zero, suc, ◌+◌, ◌≤◌, List, [], ◌∷◌, ◌++◌, length, arith, Option, Some, None, slice_get}
use Rattle.std.specs.{List.AllByRecursion, Prelude.⊤}
use Rattle.lra_report.specs.Crates.lra_program.Program.{Call, Rvalue, value, result, Stmt, absent, nothing, block, assign, call, if, loop, for, break, continue, return, assert, assume, BlockItems}
use Rattle.lra_report.specs.Crates.lra_program.Program.{no_more, declaration, array, write, switch, Cases, no_cases, labelled, stated, statement, Function, Program}
use Rattle.lra_report.specs.Crates.lra_program.Sites.{Site, Event, comes, one_call_more, greatest_calls, plain_site, live_after_items, rvalue_events, given_events, stmt_events, cases_events}
use Rattle.lra_report.specs.Crates.lra_program.Sites.{items_events, function_events, call_events, events_of, event_sites, sites_of}
use Rattle.lra_report.proofs.Every.{every_append}

abbrev IsShallow : Event → Type 0
IsShallow (comes s) = length s.path ≤ greatest_calls
IsShallow (one_call_more at) = ⊤

-- if the calls inside are so
module _ (inside : List ℕ → ℕ → Call → List Event) (path : List ℕ) (here : length path ≤ greatest_calls) (deeper : (live : ℕ) (c : Call) → AllByRecursion IsShallow (inside path live c)) where
  rvalue_shallow : (live : ℕ) (e : Rvalue) → AllByRecursion IsShallow (rvalue_events inside path live e)
  rvalue_shallow live (value e) = tt
  rvalue_shallow live (result c) = deeper live c

  given_shallow : (live : ℕ) (e : Option Rvalue) → AllByRecursion IsShallow (given_events inside path live e)
  given_shallow live None = tt
  given_shallow live (Some e) = rvalue_shallow live e

  mutual
    stmt_shallow : (live : ℕ) (t : Stmt) → AllByRecursion IsShallow (stmt_events inside path live t)
    stmt_shallow live absent = tt
    stmt_shallow live (nothing at) = (here, tt)
    stmt_shallow live (block items end) =
        every_append IsShallow (items_events inside path live items) (plain_site path end (live_after_items live items) ∷ []) (items_shallow live items)
        (here, tt)
    stmt_shallow live (assign at x e) = (here, rvalue_shallow live e)
    stmt_shallow live (write at x e) = (here, rvalue_shallow live e)
    stmt_shallow live (call at c) = (here, deeper live c)
    stmt_shallow live (if at c a b) = (here, every_append IsShallow (stmt_events inside path live a) (stmt_events inside path live b) (stmt_shallow live a) (stmt_shallow live b))
    stmt_shallow live (loop at c a step) = (here, every_append IsShallow (stmt_events inside path live step) (stmt_events inside path live a) (stmt_shallow live step) (stmt_shallow live a))
    stmt_shallow live (for at init c a step) =
        let n = live_after_items live init in
        let begin = items_events inside path live init in
        let turns = stmt_events inside path n step in (
          here,
          every_append IsShallow (begin ++ turns) (stmt_events inside path n a) (every_append IsShallow begin turns (items_shallow live init) (stmt_shallow n step)) (stmt_shallow n a),
        )
    stmt_shallow live (break at) = (here, tt)
    stmt_shallow live (continue at) = (here, tt)
    stmt_shallow live (return at e) = (here, given_shallow live e)
    stmt_shallow live (assert at c) = (here, tt)
    stmt_shallow live (assume at c) = (here, tt)
    stmt_shallow live (switch at e cs) = (here, cases_shallow live cs)

    cases_shallow : (live : ℕ) (cs : Cases) → AllByRecursion IsShallow (cases_events inside path live cs)
    cases_shallow live no_cases = tt
    cases_shallow live (labelled l cs) = cases_shallow live cs
    cases_shallow live (stated a cs) =
        every_append IsShallow (stmt_events inside path live a) (cases_events inside path live cs) (stmt_shallow live a) (cases_shallow live cs)

    items_shallow : (live : ℕ) (items : BlockItems) → AllByRecursion IsShallow (items_events inside path live items)
    items_shallow live no_more = tt
    items_shallow live (declaration d items) =
        (here, every_append IsShallow (given_events inside path (suc live) d.rvalue) (items_events inside path (suc live) items) (given_shallow (suc live) d.rvalue) (items_shallow (suc live) items))
    items_shallow live (array at a items) = (here, items_shallow live items)
    items_shallow live (statement t items) =
        every_append IsShallow (stmt_events inside path live t) (items_events inside path live items) (stmt_shallow live t) (items_shallow live items)

  function_shallow : (live : ℕ) (f : Option Function) → AllByRecursion IsShallow (function_events inside path live f)
  function_shallow live None = tt
  function_shallow live (Some f) =
      let n = live + length f.parameters in
      every_append IsShallow (items_events inside path n f.body) (plain_site path f.end (live_after_items n f.body) ∷ []) (items_shallow n f.body) (here, tt)

call_shallow : (P : Program) (more : ℕ) (path : List ℕ) (live : ℕ) (c : Call) → length path + more ≤ greatest_calls → AllByRecursion IsShallow (call_events P more path live c)
call_shallow P zero path live c h = (tt, tt)
call_shallow P (suc more) path live c h =
    function_shallow (call_events P more) (c.label ∷ path) (omega (arith, h)) (λ n d. call_shallow P more (c.label ∷ path) n d (omega (arith, h))) live (slice_get P.functions c.function)

events_shallow : (P : Program) → AllByRecursion IsShallow (events_of P)
events_shallow P = function_shallow (call_events P greatest_calls) [] (omega arith) (λ n d. call_shallow P greatest_calls [] n d (omega arith)) (length P.globals) (Some P.main)

shallow_sites : (es : List Event) → AllByRecursion IsShallow es → AllByRecursion (λ (s : Site). length s.path ≤ greatest_calls) (event_sites es)
shallow_sites [] h = tt
shallow_sites (comes s ∷ es) h = (h.0, shallow_sites es h.1)
shallow_sites (one_call_more at ∷ es) h = shallow_sites es h.1

pub sites_shallow : (P : Program) → AllByRecursion (λ (s : Site). length s.path ≤ greatest_calls) (sites_of P)
sites_shallow P = shallow_sites (events_of P) (events_shallow P)
