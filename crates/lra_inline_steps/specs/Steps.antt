-- How many steps the writing out may still take: so it ends. Calls are counted as they are written out.
use Rattle.std.specs.List.{sum_by}
use Rattle.std.specs.Prelude.{◌<◌, ℕ, zero, suc, ◌+◌, List, map, Option, Some, None, slice_get}
use Rattle.lra_program.specs.Program.{Call, Rvalue, value, result, Stmt, absent, nothing, block, assign, write, call}
use Rattle.lra_program.specs.Program.{if, loop, for, break, continue, return, assert, assume, switch, Cases, no_cases}
use Rattle.lra_program.specs.Program.{labelled, stated, BlockItems, no_more, declaration, array, statement, Function}
use Rattle.lra_program.specs.ProgramViews.{stmt_view, item_view, items_of, case_view, cases_of}
use Rattle.lra_program.specs.{Program.Program, declared.program.CaseItem.CaseItem}
use Rattle.lra_inline_steps.specs.Inlining.{body_of, program_around}
use Rattle.lra_inline_steps.specs.Stack.{Work, a_stmt, a_declaration, an_array, all_items, a_call, all_rounds}
use Rattle.lra_inline_steps.specs.declared.stack.Forked.TheVariants.{OnTrue, Step}
use Rattle.lra_inline_steps.specs.declared.stack.InlineContext.TheVariants.{Items as ItemsAt, Cases as CasesAt, Forked}
use Rattle.lra_inline_steps.specs.declared.stack.Next.TheVariants.{Written, Opens}
use Rattle.lra_inline_steps.specs.{Stack.part_view, declared.frame.Around.Around, declared.frame.Frame.Frame}
use Rattle.lra_inline_steps.specs.{declared.stack.InlineContext.TheVariants.Init}
use Rattle.lra_inline_steps.specs.{declared.stack.InlineFrame.InlineFrame, declared.stack.Part.TheVariants.Rounds}
use Rattle.lra_inline_steps.specs.declared.stack.InlineContext as place
use Rattle.lra_inline_steps.specs.declared.stack.Next as next

-- of parts, by what their calls take
module _ (called : Call → ℕ) where
  abbrev pub rvalue_steps : Rvalue → ℕ
  rvalue_steps (value e) = 0
  rvalue_steps (result c) = suc (called c)

  abbrev pub given_steps : Option Rvalue → ℕ
  given_steps None = 0
  given_steps (Some e) = rvalue_steps e

  abbrev mutual
    pub stmt_steps : Stmt → ℕ
    stmt_steps absent = 1
    stmt_steps (nothing at) = 1
    stmt_steps (block items end) = 3 + items_steps items
    stmt_steps (assign at x e) = 1 + rvalue_steps e
    stmt_steps (write at x e) = 1 + rvalue_steps e
    stmt_steps (call at c) = 2 + called c
    stmt_steps (if at c a b) = 3 + (stmt_steps a + stmt_steps b)
    stmt_steps (loop at c a step) = 3 + (stmt_steps a + stmt_steps step)
    stmt_steps (for at init c a step) = 7 + (items_steps init + (stmt_steps a + stmt_steps step))
    stmt_steps (break at) = 1
    stmt_steps (continue at) = 1
    stmt_steps (return at e) = 1 + given_steps e
    stmt_steps (assert at c) = 1
    stmt_steps (assume at c) = 1
    stmt_steps (switch at e cs) = 1 + cases_steps cs

    -- labels take none of their own
    pub cases_steps : Cases → ℕ
    cases_steps no_cases = 1
    cases_steps (labelled l cs) = cases_steps cs
    cases_steps (stated a cs) = 1 + (stmt_steps a + cases_steps cs)

    pub items_steps : BlockItems → ℕ
    items_steps no_more = 1
    items_steps (declaration d items) = 2 + (given_steps d.rvalue + items_steps items)
    items_steps (array at a items) = 2 + items_steps items
    items_steps (statement a items) = 1 + (stmt_steps a + items_steps items)

abbrev pub body_steps : (Call → ℕ) → Option Function → ℕ
body_steps called None = 0
body_steps called (Some f) = items_steps called f.body

-- if so many calls more may be made
abbrev pub call_steps : Program → ℕ → Call → ℕ
call_steps P zero c = 1
call_steps P (suc more) c = 3 + body_steps (call_steps P more) (slice_get P.functions c.function)

module _ (P : Program) where
  abbrev pub work_steps : Frame → Work → ℕ
  work_steps r (a_stmt s) = stmt_steps (call_steps P r.calls_left) s
  work_steps r (a_declaration d) = 1 + given_steps (call_steps P r.calls_left) d.rvalue
  work_steps r (an_array at a) = 1
  work_steps r (all_items b) = 1 + items_steps (call_steps P r.calls_left) b
  work_steps r (a_call caller c) = call_steps P r.calls_left c
  work_steps r (all_rounds q c a step) =
      3 + (stmt_steps (call_steps P r.calls_left) a + stmt_steps (call_steps P r.calls_left) step)

  -- of a `switch`, what comes after those that are written
  abbrev pub cases_left : Frame → List CaseItem → ℕ
  cases_left r cs = cases_steps (call_steps P r.calls_left) (cases_of (map case_view cs))

  -- at a place, after the part that is under way there
  abbrev pub kind_left : Frame → place.InlineContext → ℕ
  kind_left r (ItemsAt row) = work_steps r (all_items (items_of (map item_view row.rest.now)))
  kind_left r (CasesAt row) = cases_left r row.rest.now
  kind_left r (Forked (OnTrue b)) = 2 + work_steps r (a_stmt (stmt_view b.on_false.now))
  kind_left r (Forked (Step q x)) = 2 + work_steps r (a_stmt (body_of x))
  kind_left r (Init q x) = 2 + work_steps r (part_view (Rounds q x))
  kind_left r p = 1

  abbrev pub place_left : InlineFrame → ℕ
  place_left o = kind_left o.frame o.place

  abbrev pub next_left : next.Next → ℕ
  next_left (Written w) = 0
  next_left (Opens o r p) = place_left o + work_steps r (part_view p)

  abbrev pub all_left : List InlineFrame → next.Next → ℕ
  all_left places n = sum_by place_left places + next_left n

-- the step into this work leaves fewer than the work takes
abbrev pub FallsFrom : Around → Work → next.Next → Type 0
FallsFrom at w n = next_left (program_around at) n < work_steps (program_around at) at.frame w
