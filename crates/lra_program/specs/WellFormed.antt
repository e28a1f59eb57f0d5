-- Well-formed programs: what holds of the program that a source without faults means. A program made by hand may have a
-- number that its type doesn't have, one label twice, a variable that isn't there, or a call without a callee; its runs
-- are reported all the same, and stop or go on as they may. Whether a variable has the type that it is read with isn't
-- asked here, nor whether an array is there: the steps ask it where they read one, and lose what is written to one.
use Rattle.std.specs.List.{AllByRecursion, Contains, flat_map, range_with_len}
use Rattle.std.specs.Prelude.{◌≡◌, ℕ, suc, ◌<◌, pos, Bool, true, false, List, [], ◌∷◌, ◌++◌, length, Option, Some, None}
use Rattle.std.specs.Prelude.{slice_get, IsTrue, ⊤}
use Rattle.lra_base.specs.{NumberTypes.fits, TextOrder.for_order}
use Rattle.lra_program.specs.Program.{Slot, global, local, Expr, literal, read, input, negate, binary, element, Cond}
use Rattle.lra_program.specs.Program.{compare, nonzero, opposite, both_of, either_of, Call, Rvalue, value, result, Stmt}
use Rattle.lra_program.specs.Program.{absent, nothing, block, assign, write, call, if, loop, for, break, continue}
use Rattle.lra_program.specs.Program.{return, assert, assume, switch, Cases, no_cases, labelled, stated, BlockItems}
use Rattle.lra_program.specs.Program.{no_more, declaration, array, statement, Function, Program}
use Rattle.lra_program.specs.{Sites.live_after_items, declared.program.GlobalVariable.GlobalVariable}

-- labels -----------------------------------------------------------------------------------------------------------

-- in text order
abbrev mutual
  pub stmt_numbers : Stmt → List ℕ
  stmt_numbers absent = []
  stmt_numbers (nothing at) = at ∷ []
  stmt_numbers (block items end) = items_numbers items ++ end ∷ []
  stmt_numbers (assign at x e) = at ∷ []
  stmt_numbers (write at x e) = at ∷ []
  stmt_numbers (call at c) = at ∷ []
  stmt_numbers (if at c a b) = at ∷ stmt_numbers a ++ stmt_numbers b
  stmt_numbers (loop at c a step) = for_order at [] (stmt_numbers step) (stmt_numbers a)
  stmt_numbers (for at init c a step) = for_order at (items_numbers init) (stmt_numbers step) (stmt_numbers a)
  stmt_numbers (break at) = at ∷ []
  stmt_numbers (continue at) = at ∷ []
  stmt_numbers (return at e) = at ∷ []
  stmt_numbers (assert at c) = at ∷ []
  stmt_numbers (assume at c) = at ∷ []
  stmt_numbers (switch at e cs) = at ∷ cases_numbers cs

  pub cases_numbers : Cases → List ℕ
  cases_numbers no_cases = []
  cases_numbers (labelled l cs) = cases_numbers cs
  cases_numbers (stated a cs) = stmt_numbers a ++ cases_numbers cs

  pub items_numbers : BlockItems → List ℕ
  items_numbers no_more = []
  items_numbers (declaration d items) = d.label ∷ items_numbers items
  items_numbers (array at a items) = at ∷ items_numbers items
  items_numbers (statement s items) = stmt_numbers s ++ items_numbers items

abbrev pub function_numbers : Function → List ℕ
function_numbers f = items_numbers f.body ++ f.end ∷ []

-- the labels of the functions, in their order, are 1, 2, 3 ..
abbrev pub AreInTextOrder : List Function → Type 0
AreInTextOrder fs = flat_map function_numbers fs ≡ range_with_len 1 (length (flat_map function_numbers fs))

-- whether a loop or a `switch` is there for `break` to leave, and a loop for `continue` to go on with
pub record Jumps : Type 0 where
  pub breaks : Bool
  pub continues : Bool

abbrev pub no_jumps : Jumps
no_jumps = record { breaks = false; continues = false }

abbrev pub in_loop : Jumps
in_loop = record { breaks = true; continues = true }

-- in a `switch`, `continue` goes where it does around it
abbrev pub in_switch : Jumps → Jumps
in_switch j = record j { breaks = true }

-- what stands in a program, if so many of the call's own variables live ---------------------------

module _ (P : Program) where
  abbrev pub IsLive : ℕ → Slot → Type 0
  IsLive live (global k) = k < length P.globals
  IsLive live (local k) = k < live

  -- literals have their type, and variables live
  abbrev pub IsGoodExpr : ℕ → Expr → Type 0
  IsGoodExpr live (literal t n) = IsTrue (fits t (pos n))
  IsGoodExpr live (read v) = IsLive live v.slot
  IsGoodExpr live input = ⊤
  IsGoodExpr live (negate e) = IsGoodExpr live e
  IsGoodExpr live (binary op a b) = IsGoodExpr live a × IsGoodExpr live b
  IsGoodExpr live (element a at e) = IsGoodExpr live e

  abbrev pub IsGoodCond : ℕ → Cond → Type 0
  IsGoodCond live (compare op a b) = IsGoodExpr live a × IsGoodExpr live b
  IsGoodCond live (nonzero e) = IsGoodExpr live e
  IsGoodCond live (opposite c) = IsGoodCond live c
  IsGoodCond live (both_of c d) = IsGoodCond live c × IsGoodCond live d
  IsGoodCond live (either_of c d) = IsGoodCond live c × IsGoodCond live d

  -- a call of a function with so many parameters, under the label of its statement or declarator
  pub record IsGoodCall (at live : ℕ) (c : Call) : Type 0 where
    pub label : c.label ≡ at
    pub callee : Function
    pub is_callee : slice_get P.functions c.function ≡ Some callee
    pub width : length c.arguments ≡ length callee.parameters
    pub arguments : AllByRecursion (IsGoodExpr live) c.arguments

  abbrev pub IsGoodRvalue : ℕ → ℕ → Rvalue → Type 0
  IsGoodRvalue at live (value e) = IsGoodExpr live e
  IsGoodRvalue at live (result c) = IsGoodCall at live c

  abbrev pub IsGoodGiven : ℕ → ℕ → Option Rvalue → Type 0
  IsGoodGiven at live None = ⊤
  IsGoodGiven at live (Some e) = IsGoodRvalue at live e

  abbrev mutual
    -- `break` stands in a loop's body or a `switch`, `continue` in a loop's body
    pub IsGoodStmt : Jumps → ℕ → Stmt → Type 0
    IsGoodStmt j live absent = ⊤
    IsGoodStmt j live (nothing at) = ⊤
    IsGoodStmt j live (block items end) = AreGoodItems j live items
    IsGoodStmt j live (assign at x e) = IsLive live x.slot × IsGoodRvalue at live e
    IsGoodStmt j live (write at x e) = IsGoodExpr live x.index × IsGoodRvalue at live e
    IsGoodStmt j live (call at c) = IsGoodCall at live c
    IsGoodStmt j live (if at c a b) = IsGoodCond live c × IsGoodStmt j live a × IsGoodStmt j live b
    IsGoodStmt j live (loop at c a step) = IsGoodCond live c × IsGoodStmt in_loop live a × IsGoodStmt no_jumps live step
    IsGoodStmt j live (for at init c a step) =
        let inside = live_after_items live init in
        AreGoodItems no_jumps live init × IsGoodCond inside c × IsGoodStmt in_loop inside a ×
        IsGoodStmt no_jumps inside step
    IsGoodStmt j live (break at) = IsTrue j.breaks
    IsGoodStmt j live (continue at) = IsTrue j.continues
    IsGoodStmt j live (return at e) = IsGoodGiven at live e
    IsGoodStmt j live (assert at c) = IsGoodCond live c
    IsGoodStmt j live (assume at c) = IsGoodCond live c
    IsGoodStmt j live (switch at e cs) = IsGoodExpr live e × AreGoodCases (in_switch j) live cs

    pub AreGoodCases : Jumps → ℕ → Cases → Type 0
    AreGoodCases j live no_cases = ⊤
    AreGoodCases j live (labelled l cs) = AreGoodCases j live cs
    AreGoodCases j live (stated a cs) = IsGoodStmt j live a × AreGoodCases j live cs

    -- a declarator's variable lives in what it gets
    pub AreGoodItems : Jumps → ℕ → BlockItems → Type 0
    AreGoodItems j live no_more = ⊤
    AreGoodItems j live (declaration d items) = IsGoodGiven d.label (suc live) d.rvalue ×
        AreGoodItems j (suc live) items
    AreGoodItems j live (array at a items) = AreGoodItems j live items
    AreGoodItems j live (statement s items) = IsGoodStmt j live s × AreGoodItems j live items

  abbrev pub IsGoodFunction : Function → Type 0
  IsGoodFunction f = AreGoodItems no_jumps (length f.parameters) f.body

-- first values are numbers of their types
abbrev pub AreGoodGlobals : List GlobalVariable → Type 0
AreGoodGlobals gs = AllByRecursion (λ g. IsTrue (fits g.number_type g.value)) gs

pub record IsWellFormed (P : Program) : Type 0 where
  pub globals : AreGoodGlobals P.globals
  pub labels : AreInTextOrder P.functions
  pub functions : AllByRecursion (IsGoodFunction P) P.functions
  -- `main` is one of them, without parameters
  pub main : Contains P.functions P.main
  pub alone : P.main.parameters ≡ []
