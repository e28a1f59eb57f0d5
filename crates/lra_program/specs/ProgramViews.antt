-- The resolved program that a value of the code's types stands for: one step for each type, over what its parts stand
-- for.
use Rattle.std.specs.Prelude.{List, [], ◌∷◌, map, option_map, Option, Some, None, slice_get}
use Rattle.lra_program.specs.declared.program.BlockItem.TheFolds.{fold-BlockItem, fold-Stmt, fold-CaseItem}
use Rattle.lra_program.specs.declared.program.BlockItem.TheFolds.{fold-BlockItems}
use Rattle.lra_program.specs.declared.program.BlockItem.TheOpen.{BlockItem-F, Stmt-F, CaseItem-F, BlockItems-F}
use Rattle.lra_program.specs.declared.program.Expr.TheFolds.{fold-Expr, fold-Operation}
use Rattle.lra_program.specs.declared.program.Expr.TheOpen.{Expr-F, Operation-F}
use Rattle.lra_program.specs.{declared.program.Argument.Argument, declared.program.BlockItem.BlockItem}
use Rattle.lra_program.specs.{declared.program.BlockItems.BlockItems, declared.program.Call.Call}
use Rattle.lra_program.specs.{declared.program.CaseItem.CaseItem, declared.program.Cond.Cond}
use Rattle.lra_program.specs.{declared.program.Cond.TheFolds.fold-Cond, declared.program.Cond.TheOpen.Cond-F}
use Rattle.lra_program.specs.{declared.program.Declarator.Declarator, declared.program.Element.Element}
use Rattle.lra_program.specs.{declared.program.Expr.Expr, declared.program.Function.Function}
use Rattle.lra_program.specs.{declared.program.Operation.Operation, declared.program.Program.Program}
use Rattle.lra_program.specs.{declared.program.Rvalue.Rvalue, declared.program.Slot.Slot, declared.program.Stmt.Stmt}
use Rattle.lra_program.specs.{declared.program.Variable.Variable}
use Rattle.lra_program.specs.declared.program.Slot.TheVariants as slot
use Rattle.lra_program.specs.declared.program.Rvalue.TheVariants as rvalue
use Rattle.lra_program.specs.Program as program
use Rattle.lra_program.specs.Value as value
use Rattle.lra_base.specs.Operators as operators
use Rattle.lra_base.specs.OperatorViews.{operator_view, comparison_view}

abbrev pub slot_view : Slot → program.Slot
slot_view (slot.Global k) = program.global k
slot_view (slot.Local k) = program.local k

abbrev pub variable_view : Variable → program.Variable
variable_view v = record { slot = slot_view v.slot; number_type = v.number_type }

-- expressions: a chain nests to the left -----------------------------------------------------------------------------

abbrev pub chained : program.Expr → List (operators.Operator × program.Expr) → program.Expr
chained e [] = e
chained e (o ∷ os) = chained (program.binary o.0 e o.1) os

abbrev pub expr_step : Expr-F program.Expr (operators.Operator × program.Expr) → program.Expr
expr_step (Expr-F.Literal t n) = program.literal t n
expr_step (Expr-F.Read v) = program.read (variable_view v)
expr_step Expr-F.Input = program.input
expr_step (Expr-F.Negate e) = program.negate e.value
expr_step (Expr-F.Chain e os) = chained e.value os.items
expr_step (Expr-F.Element a at e) = program.element a at e.value

abbrev pub operation_step : Operation-F program.Expr (operators.Operator × program.Expr)
    → operators.Operator × program.Expr
operation_step o = (operator_view o.operator, o.operand)

abbrev pub expr_view : Expr → program.Expr
expr_view = fold-Expr program.Expr (operators.Operator × program.Expr) expr_step operation_step

abbrev pub operation_view : Operation → operators.Operator × program.Expr
operation_view = fold-Operation program.Expr (operators.Operator × program.Expr) expr_step operation_step

abbrev pub element_view : Element → program.Element
element_view x = record { array = x.array; place = x.place; index = expr_view x.index }

-- conditions: a chain nests to the right -----------------------------------------------------------------------------

abbrev pub all_of : program.Cond → List program.Cond → program.Cond
all_of c [] = c
all_of c (d ∷ ds) = program.both_of c (all_of d ds)

abbrev pub any_of : program.Cond → List program.Cond → program.Cond
any_of c [] = c
any_of c (d ∷ ds) = program.either_of c (any_of d ds)

abbrev pub cond_step : Cond-F program.Cond → program.Cond
cond_step (Cond-F.Compare op a b) = program.compare (comparison_view op) (expr_view a) (expr_view b)
cond_step (Cond-F.Nonzero e) = program.nonzero (expr_view e)
cond_step (Cond-F.Opposite c) = program.opposite c.value
cond_step (Cond-F.All c cs) = all_of c.value cs.items
cond_step (Cond-F.Any c cs) = any_of c.value cs.items

abbrev pub cond_view : Cond → program.Cond
cond_view = fold-Cond program.Cond cond_step

-- calls and declarators ----------------------------------------------------------------------------------------------

abbrev pub call_view : Call → program.Call
call_view c = record { label = c.label; function = c.function; arguments = map expr_view c.arguments.items }

abbrev pub argument_view : Argument → value.Argument
argument_view a = record { number_type = a.number_type; value = expr_view a.value }

abbrev pub rvalue_view : Rvalue → program.Rvalue
rvalue_view (rvalue.Value e) = program.value (expr_view e)
rvalue_view (rvalue.Result c) = program.result (call_view c)

abbrev pub given_view : Option Rvalue → Option program.Rvalue
given_view = option_map rvalue_view

abbrev pub declarator_view : Declarator → program.Declarator
declarator_view d = record { label = d.label; number_type = d.number_type; rvalue = given_view d.rvalue }

-- statements: an item of a block is what it puts before the items after it ------------------------

abbrev pub ItemPart : Type 0
ItemPart = program.BlockItems → program.BlockItems

abbrev pub items_of : List ItemPart → program.BlockItems
items_of [] = program.no_more
items_of (f ∷ fs) = f (items_of fs)

-- an item of a `switch` is what it puts before the items after it
abbrev pub CasePart : Type 0
CasePart = program.Cases → program.Cases

abbrev pub cases_of : List CasePart → program.Cases
cases_of [] = program.no_cases
cases_of (f ∷ fs) = f (cases_of fs)

abbrev pub case_step : CaseItem-F ItemPart CasePart program.Stmt program.BlockItems → CasePart
case_step (CaseItem-F.Label l) = program.labelled l
case_step (CaseItem-F.Stated s) = program.stated s

abbrev pub item_step : BlockItem-F ItemPart CasePart program.Stmt program.BlockItems → ItemPart
item_step (BlockItem-F.Declaration d) = program.declaration (declarator_view d)
item_step (BlockItem-F.Array at a) = program.array at a
item_step (BlockItem-F.Statement s) = program.statement s

abbrev pub items_step : BlockItems-F ItemPart CasePart program.Stmt program.BlockItems → program.BlockItems
items_step b = items_of b.items.items

abbrev pub stmt_step : Stmt-F ItemPart CasePart program.Stmt program.BlockItems → program.Stmt
stmt_step Stmt-F.Absent = program.absent
stmt_step (Stmt-F.Nothing at) = program.nothing at
stmt_step (Stmt-F.Block b end) = program.block b end
stmt_step (Stmt-F.Assign at x e) = program.assign at (variable_view x) (rvalue_view e)
stmt_step (Stmt-F.Write at x e) = program.write at (element_view x) (rvalue_view e)
stmt_step (Stmt-F.Call at c) = program.call at (call_view c)
stmt_step (Stmt-F.If at c a b) = program.if at (cond_view c) a.value b.value
stmt_step (Stmt-F.Loop at c a step) = program.loop at (cond_view c) a.value step.value
stmt_step (Stmt-F.For at init c a step) = program.for at init (cond_view c) a.value step.value
stmt_step (Stmt-F.Break at) = program.break at
stmt_step (Stmt-F.Continue at) = program.continue at
stmt_step (Stmt-F.Return at e) = program.return at (given_view e)
stmt_step (Stmt-F.Assert at c) = program.assert at (cond_view c)
stmt_step (Stmt-F.Assume at c) = program.assume at (cond_view c)
stmt_step (Stmt-F.Switch at e cs) = program.switch at (expr_view e) (cases_of cs.items)

abbrev pub item_view : BlockItem → ItemPart
item_view = fold-BlockItem ItemPart CasePart program.Stmt program.BlockItems item_step case_step stmt_step items_step

abbrev pub case_view : CaseItem → CasePart
case_view = fold-CaseItem ItemPart CasePart program.Stmt program.BlockItems item_step case_step stmt_step items_step

abbrev pub stmt_view : Stmt → program.Stmt
stmt_view = fold-Stmt ItemPart CasePart program.Stmt program.BlockItems item_step case_step stmt_step items_step

abbrev pub items_view : BlockItems → program.BlockItems
items_view = fold-BlockItems ItemPart CasePart program.Stmt program.BlockItems item_step case_step stmt_step items_step

-- the whole ----------------------------------------------------------------------------------------------------------

abbrev pub function_view : Function → program.Function
function_view f = record {
  result_type = f.result_type;
  parameters = f.parameters.items;
  body = items_view f.body;
  end = f.end;
}

-- the function at the place; one that isn't there does nothing
abbrev pub function_or : Option program.Function → program.Function
function_or None = record { result_type = None; parameters = []; body = program.no_more; end = 0 }
function_or (Some f) = f

abbrev pub program_view : Program → program.Program
program_view p =
    let functions = map function_view p.functions.items in
    record {
      globals = p.globals.items;
      arrays = p.arrays.items;
      functions = functions;
      main = function_or (slice_get functions p.main);
    }
