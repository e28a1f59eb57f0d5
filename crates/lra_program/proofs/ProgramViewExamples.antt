-- Values of the types of programs, and what they stand for.
use Rattle.std.proofs.Common.{◌≡◌, ℕ, ◌∷◌, [], map, refl, rules, Box, Vec, Global}
use Rattle.lra_program.specs.ProgramViews.{expr_view, operation_view, chained, cond_view, all_of, stmt_view, items_view, case_view, cases_of}
use Rattle.lra_program.specs.declared.program.Cond.{Cond, All, the_lemmas as cond_lemmas}
use Rattle.lra_program.specs.declared.program.Expr.{Expr, Negate, Chain, Element, the_lemmas as expr_lemmas}
use Rattle.lra_program.specs.declared.program.Stmt.{Stmt, Block, Loop, Switch, the_lemmas as stmt_lemmas}
use Rattle.lra_program.specs.{declared.arrays.Array.Array, declared.program.BlockItems.BlockItems, declared.program.CaseItem.CaseItem, declared.program.Operation.Operation}
use Rattle.lra_base.specs.{declared.case_labels.CaseLabel.CaseLabel, declared.refusals.Place.Place}
use Rattle.lra_program.specs.Program as program
use Rattle.lra_base.specs.Operators as operators

negate_view : (e : Box Expr Global) → expr_view (Negate e) ≡ program.negate (expr_view e.value)
negate_view e = search (rules, expr_lemmas)

-- a chain is its first operand and the further ones, from the left
chain_view : (e : Box Expr Global) (os : Vec Operation Global) → expr_view (Chain e os) ≡ chained (expr_view e.value) (map operation_view os.items)
chain_view e os = search (rules, expr_lemmas)

element_view : (a : Array) (at : Place) (e : Box Expr Global) → expr_view (Element a at e) ≡ program.element a at (expr_view e.value)
element_view a at e = search (rules, expr_lemmas)

-- and of conditions from the right
all_view : (c : Box Cond Global) (cs : Vec Cond Global) → cond_view (All c cs) ≡ all_of (cond_view c.value) (map cond_view cs.items)
all_view c cs = search (rules, cond_lemmas)

-- a - b - c
three_operands : (a b c : program.Expr) → chained a ((operators.minus, b) ∷ (operators.minus, c) ∷ []) ≡ program.binary operators.minus (program.binary operators.minus a b) c
three_operands a b c = refl

block_view : (b : BlockItems) (end : ℕ) → stmt_view (Block b end) ≡ program.block (items_view b) end
block_view b end = search (rules, stmt_lemmas)

loop_view : (at : ℕ) (c : Cond) (a step : Box Stmt Global) → stmt_view (Loop at c a step) ≡ program.loop at (cond_view c) (stmt_view a.value) (stmt_view step.value)
loop_view at c a step = search (rules, stmt_lemmas)

-- labels and statements in the order of their list
switch_view : (at : ℕ) (e : Expr) (cs : Vec CaseItem Global) → stmt_view (Switch at e cs) ≡ program.switch at (expr_view e) (cases_of (map case_view cs.items))
switch_view at e cs = search (rules, stmt_lemmas)

two_cases : (l : CaseLabel) (a : program.Stmt) → cases_of (program.labelled l ∷ program.stated a ∷ []) ≡ program.labelled l (program.stated a program.no_cases)
two_cases l a = refl
