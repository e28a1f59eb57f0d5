-- The tree that a value of the front end's types stands for: one step for each type, over trees of its parts.
use Rattle.std.specs.Prelude.{List, [], ◌∷◌, map, option_map}
use Rattle.lra_base.specs.{OperatorViews.comparison_view, OperatorViews.operator_view, declared.refusals.Place.Place}
use Rattle.lra_syntax.specs.declared.trees.BlockItem.TheFolds.{fold-BlockItem, fold-CaseItem, fold-Stmt, fold-Block}
use Rattle.lra_syntax.specs.declared.trees.BlockItem.TheFolds.{fold-Cases}
use Rattle.lra_syntax.specs.declared.trees.BlockItem.TheOpen.{BlockItem-F, CaseItem-F, Stmt-F, Block-F, Cases-F}
use Rattle.lra_syntax.specs.declared.trees.ExternalDeclaration.{ExternalDeclaration}
use Rattle.lra_syntax.specs.declared.trees.Negation.TheFolds.{fold-Negation, fold-Test, fold-Conjunction, fold-Cond}
use Rattle.lra_syntax.specs.declared.trees.Negation.TheOpen.{Negation-F, Test-F, Conjunction-F, Cond-F}
use Rattle.lra_syntax.specs.declared.trees.Unary.TheFolds.{fold-Unary, fold-Expr, fold-Term, fold-Factor, fold-Summand}
use Rattle.lra_syntax.specs.declared.trees.Unary.TheOpen.{Unary-F, Factor-F, Term-F, Summand-F, Expr-F}
use Rattle.lra_syntax.specs.{declared.trees.Assign.Assign, declared.trees.Block.Block}
use Rattle.lra_syntax.specs.{declared.trees.BlockItem.BlockItem, declared.trees.Call.Call}
use Rattle.lra_syntax.specs.{declared.trees.CaseItem.CaseItem, declared.trees.Cases.Cases, declared.trees.Cond.Cond}
use Rattle.lra_syntax.specs.{declared.trees.Conjunction.Conjunction, declared.trees.Declaration.Declaration}
use Rattle.lra_syntax.specs.{declared.trees.Declarator.Declarator, declared.trees.Expr.Expr}
use Rattle.lra_syntax.specs.{declared.trees.Factor.Factor, declared.trees.FactorOperator.FactorOperator}
use Rattle.lra_syntax.specs.{declared.trees.Function.Function, declared.trees.Global.Global}
use Rattle.lra_syntax.specs.{declared.trees.Globals.Globals, declared.trees.Init.Init, declared.trees.Negation.Negation}
use Rattle.lra_syntax.specs.{declared.trees.Rvalue.Rvalue, declared.trees.ScalarOrArray.ScalarOrArray}
use Rattle.lra_syntax.specs.{declared.trees.Step.Step, declared.trees.Stmt.Stmt, declared.trees.SumOperator.SumOperator}
use Rattle.lra_syntax.specs.{declared.trees.Summand.Summand, declared.trees.Term.Term, declared.trees.Test.Test}
use Rattle.lra_syntax.specs.{declared.trees.TranslationUnit.TranslationUnit, declared.trees.Unary.Unary}
use Rattle.lra_syntax.specs.declared.trees.FactorOperator.TheVariants as factor
use Rattle.lra_syntax.specs.declared.trees.SumOperator.TheVariants as sum
use Rattle.lra_syntax.specs.declared.trees.Rvalue.TheVariants as rvalue
use Rattle.lra_syntax.specs.declared.trees.Step.TheVariants as step
use Rattle.lra_syntax.specs.declared.trees.Assign.TheVariants as assign
use Rattle.lra_syntax.specs.declared.trees.ScalarOrArray.TheVariants as shape
use Rattle.lra_syntax.specs.declared.trees.Init.TheVariants as init
use Rattle.lra_syntax.specs.declared.trees.ExternalDeclaration.TheVariants as item
use Rattle.lra_syntax.specs.Trees as tree

-- expressions ------------------------------------------------------------------------------------------------------

abbrev pub further_factor : tree.TermTree → FactorOperator → tree.UnaryTree → tree.TermTree
further_factor t factor.Times u = tree.times t u
further_factor t factor.Over u = tree.over t u
further_factor t factor.Modulo u = tree.modulo t u

abbrev pub product : tree.TermTree → List (FactorOperator × tree.UnaryTree) → tree.TermTree
product t [] = t
product t (f ∷ fs) = product (further_factor t f.0 f.1) fs

abbrev pub further_term : tree.ExprTree → SumOperator → tree.TermTree → tree.ExprTree
further_term e sum.Plus t = tree.plus e t
further_term e sum.Minus t = tree.minus e t

abbrev pub sum_of : tree.ExprTree → List (SumOperator × tree.TermTree) → tree.ExprTree
sum_of e [] = e
sum_of e (s ∷ ss) = sum_of (further_term e s.0 s.1) ss

abbrev UnaryLayer : Type 0
UnaryLayer = Unary-F tree.UnaryTree tree.ExprTree (FactorOperator × tree.UnaryTree)
    (SumOperator × tree.TermTree) tree.TermTree

abbrev pub unary_step : UnaryLayer → tree.UnaryTree
unary_step (Unary-F.Negated u) = tree.negated u.value
unary_step (Unary-F.Positive u) = tree.positive u.value
unary_step (Unary-F.Literal t n) = tree.literal t n
unary_step (Unary-F.Variable x) = tree.variable x
unary_step Unary-F.Input = tree.input
unary_step (Unary-F.Group e) = tree.group e.value
unary_step (Unary-F.Element x e) = tree.element x e.value

abbrev pub factor_step : Factor-F tree.UnaryTree tree.ExprTree (FactorOperator × tree.UnaryTree)
    (SumOperator × tree.TermTree) tree.TermTree → FactorOperator × tree.UnaryTree
factor_step f = (f.operator, f.unary)

abbrev pub term_step : Term-F tree.UnaryTree tree.ExprTree (FactorOperator × tree.UnaryTree)
    (SumOperator × tree.TermTree) tree.TermTree → tree.TermTree
term_step t = product (tree.unary t.first) t.rest.items

abbrev pub summand_step : Summand-F tree.UnaryTree tree.ExprTree (FactorOperator × tree.UnaryTree)
    (SumOperator × tree.TermTree) tree.TermTree → SumOperator × tree.TermTree
summand_step s = (s.operator, s.term)

abbrev pub expr_step : Expr-F tree.UnaryTree tree.ExprTree (FactorOperator × tree.UnaryTree)
    (SumOperator × tree.TermTree) tree.TermTree → tree.ExprTree
expr_step e = sum_of (tree.term e.first) e.rest.items

abbrev pub unary_view : Unary → tree.UnaryTree
unary_view = fold-Unary tree.UnaryTree tree.ExprTree (FactorOperator × tree.UnaryTree)
    (SumOperator × tree.TermTree) tree.TermTree unary_step expr_step factor_step summand_step term_step

abbrev pub term_view : Term → tree.TermTree
term_view = fold-Term tree.UnaryTree tree.ExprTree (FactorOperator × tree.UnaryTree)
    (SumOperator × tree.TermTree) tree.TermTree unary_step expr_step factor_step summand_step term_step

-- an operator and its operand
abbrev pub factor_view : Factor → FactorOperator × tree.UnaryTree
factor_view = fold-Factor tree.UnaryTree tree.ExprTree (FactorOperator × tree.UnaryTree)
    (SumOperator × tree.TermTree) tree.TermTree unary_step expr_step factor_step summand_step term_step

abbrev pub summand_view : Summand → SumOperator × tree.TermTree
summand_view = fold-Summand tree.UnaryTree tree.ExprTree (FactorOperator × tree.UnaryTree)
    (SumOperator × tree.TermTree) tree.TermTree unary_step expr_step factor_step summand_step term_step

abbrev pub expr_view : Expr → tree.ExprTree
expr_view = fold-Expr tree.UnaryTree tree.ExprTree (FactorOperator × tree.UnaryTree)
    (SumOperator × tree.TermTree) tree.TermTree unary_step expr_step factor_step summand_step term_step

-- conditions -------------------------------------------------------------------------------------------------------

abbrev pub all_tests : tree.ConjunctionTree → List tree.TestTree → tree.ConjunctionTree
all_tests c [] = c
all_tests c (t ∷ ts) = all_tests (tree.and c t) ts

abbrev pub any_conjunction : tree.CondTree → List tree.ConjunctionTree → tree.CondTree
any_conjunction c [] = c
any_conjunction c (a ∷ further) = any_conjunction (tree.or c a) further

abbrev pub negation_step : Negation-F tree.NegationTree tree.TestTree tree.CondTree tree.ConjunctionTree →
    tree.NegationTree
negation_step (Negation-F.Again n) = tree.opposite_again n.value
negation_step (Negation-F.Operand u) = tree.value_of_unary (unary_view u)
negation_step (Negation-F.Strict c) = tree.group_opposed c.value

abbrev pub test_step : Test-F tree.NegationTree tree.TestTree tree.CondTree tree.ConjunctionTree → tree.TestTree
test_step (Test-F.Opposite n) = tree.opposite n
test_step (Test-F.Value e) = tree.value (expr_view e)
test_step (Test-F.Compare a op b) = tree.compare (expr_view a) (comparison_view op) (expr_view b)
test_step (Test-F.Group c) = tree.group_of c.value

abbrev pub conjunction_step : Conjunction-F tree.NegationTree tree.TestTree tree.CondTree tree.ConjunctionTree →
    tree.ConjunctionTree
conjunction_step c = all_tests (tree.test c.first) c.rest.items

abbrev pub cond_step : Cond-F tree.NegationTree tree.TestTree tree.CondTree tree.ConjunctionTree → tree.CondTree
cond_step c = any_conjunction (tree.conjunction c.first) c.rest.items

abbrev pub negation_view : Negation → tree.NegationTree
negation_view = fold-Negation tree.NegationTree tree.TestTree tree.CondTree tree.ConjunctionTree negation_step test_step
    cond_step conjunction_step

abbrev pub test_view : Test → tree.TestTree
test_view = fold-Test tree.NegationTree tree.TestTree tree.CondTree tree.ConjunctionTree negation_step test_step
    cond_step conjunction_step

abbrev pub conjunction_view : Conjunction → tree.ConjunctionTree
conjunction_view = fold-Conjunction tree.NegationTree tree.TestTree tree.CondTree tree.ConjunctionTree negation_step
    test_step cond_step conjunction_step

abbrev pub cond_view : Cond → tree.CondTree
cond_view = fold-Cond tree.NegationTree tree.TestTree tree.CondTree tree.ConjunctionTree negation_step test_step
    cond_step conjunction_step

-- assignments and declarations -------------------------------------------------------------------------------------

abbrev pub step_view : Step → tree.StepTree
step_view step.Increment = tree.increment
step_view step.Decrement = tree.decrement

abbrev pub call_view : Call → tree.CallTree
call_view c = record { name = c.name; arguments = map expr_view c.arguments.items.items }

abbrev pub rvalue_view : Rvalue → tree.RvalueTree
rvalue_view (rvalue.Value e) = tree.expression (expr_view e)
rvalue_view (rvalue.Result c) = tree.result (call_view c)

abbrev pub assign_view : Assign → tree.AssignTree
assign_view (assign.Set x e) = tree.set x (rvalue_view e)
assign_view (assign.SetElement x i e) = tree.set_element x (expr_view i) (rvalue_view e)
assign_view (assign.Update x op e) = tree.update x (operator_view op) (expr_view e)
assign_view (assign.After x s) = tree.after x (step_view s)
assign_view (assign.Before at s x) = tree.before at (step_view s) x

-- by what a value stands for
abbrev pub shape_view : {A B : Type 0} → (A → B) → ScalarOrArray A → tree.ScalarOrArrayTree B
shape_view f (shape.Scalar e) = tree.scalar (option_map f e)
shape_view f (shape.Array n) = tree.array n

abbrev pub declarator_view : Declarator → tree.DeclaratorTree
declarator_view d = record { name = d.name; shape = shape_view rvalue_view d.shape }

abbrev pub declaration_view : Declaration → tree.DeclarationTree
declaration_view d = record {
  number_type = d.number_type;
  first = declarator_view d.first;
  rest = map declarator_view d.rest.items;
}

abbrev pub init_view : Init → tree.InitTree
init_view init.Nothing = tree.no_init
init_view (init.Declaration d) = tree.declared (declaration_view d)
init_view (init.Assign a) = tree.assigned (assign_view a)

-- statements: an item of a block or of a `switch` is what it puts before those after it -------------------------------

abbrev pub ItemPart : Type 0
ItemPart = tree.ItemsTree → tree.ItemsTree

abbrev pub items_of : List ItemPart → tree.ItemsTree
items_of [] = tree.no_items
items_of (f ∷ fs) = f (items_of fs)

abbrev pub CasePart : Type 0
CasePart = tree.CasesTree → tree.CasesTree

abbrev pub cases_of : List CasePart → tree.CasesTree
cases_of [] = tree.no_cases
cases_of (f ∷ fs) = f (cases_of fs)

abbrev pub item_step : BlockItem-F ItemPart CasePart tree.StmtTree (tree.ItemsTree × Place) tree.CasesTree → ItemPart
item_step (BlockItem-F.Declaration d) = tree.declaration (declaration_view d)
item_step (BlockItem-F.Statement s) = tree.statement s

abbrev pub case_step : CaseItem-F ItemPart CasePart tree.StmtTree (tree.ItemsTree × Place) tree.CasesTree → CasePart
case_step (CaseItem-F.Label l) = tree.labelled l
case_step (CaseItem-F.Stated s) = tree.stated s

abbrev pub block_step : Block-F ItemPart CasePart tree.StmtTree (tree.ItemsTree × Place) tree.CasesTree →
    tree.ItemsTree × Place
block_step b = (items_of b.items.items, b.end)

abbrev pub cases_step : Cases-F ItemPart CasePart tree.StmtTree (tree.ItemsTree × Place) tree.CasesTree →
    tree.CasesTree
cases_step c = cases_of c.items.items

abbrev pub stmt_step : Stmt-F ItemPart CasePart tree.StmtTree (tree.ItemsTree × Place) tree.CasesTree → tree.StmtTree
stmt_step (Stmt-F.Block b) = tree.block b.0 b.1
stmt_step (Stmt-F.Nothing at) = tree.nothing at
stmt_step (Stmt-F.Assign a) = tree.assign (assign_view a)
stmt_step (Stmt-F.Call c) = tree.call (call_view c)
stmt_step (Stmt-F.If at c a) = tree.if_only at (cond_view c) a.value
stmt_step (Stmt-F.IfElse at c a b) = tree.if_else at (cond_view c) a.value b.value
stmt_step (Stmt-F.While at c a) = tree.while at (cond_view c) a.value
stmt_step (Stmt-F.For at i c s a) = tree.for at (init_view i) (option_map cond_view c)
    (option_map assign_view s) a.value
stmt_step (Stmt-F.Break at) = tree.break at
stmt_step (Stmt-F.Continue at) = tree.continue at
stmt_step (Stmt-F.Return at e) = tree.return at (option_map rvalue_view e)
stmt_step (Stmt-F.Assert at c) = tree.assert at (cond_view c)
stmt_step (Stmt-F.Assume at c) = tree.assume at (cond_view c)
stmt_step (Stmt-F.Switch at e cs) = tree.switch at (expr_view e) cs

abbrev pub item_view : BlockItem → ItemPart
item_view = fold-BlockItem ItemPart CasePart tree.StmtTree (tree.ItemsTree × Place) tree.CasesTree
    item_step case_step stmt_step block_step cases_step

abbrev pub case_view : CaseItem → CasePart
case_view = fold-CaseItem ItemPart CasePart tree.StmtTree (tree.ItemsTree × Place) tree.CasesTree
    item_step case_step stmt_step block_step cases_step

abbrev pub stmt_view : Stmt → tree.StmtTree
stmt_view = fold-Stmt ItemPart CasePart tree.StmtTree (tree.ItemsTree × Place) tree.CasesTree
    item_step case_step stmt_step block_step cases_step

abbrev pub block_view : Block → tree.ItemsTree × Place
block_view = fold-Block ItemPart CasePart tree.StmtTree (tree.ItemsTree × Place) tree.CasesTree
    item_step case_step stmt_step block_step cases_step

abbrev pub cases_view : Cases → tree.CasesTree
cases_view = fold-Cases ItemPart CasePart tree.StmtTree (tree.ItemsTree × Place) tree.CasesTree
    item_step case_step stmt_step block_step cases_step

-- the whole --------------------------------------------------------------------------------------------------------

abbrev pub function_view : Function → tree.FunctionTree
function_view f =
    let body = block_view f.body in
    record {
      result_type = f.result_type;
      name = f.name;
      parameters = f.parameters.items.items;
      body = body.0;
      end = body.1;
    }

abbrev pub global_view : Global → tree.GlobalTree
global_view g = record { name = g.name; shape = shape_view (λ v. v) g.shape }

abbrev pub globals_view : Globals → tree.GlobalsTree
globals_view g = record {
  number_type = g.number_type;
  first = global_view g.first;
  rest = map global_view g.rest.items;
}

abbrev pub external_view : ExternalDeclaration → tree.ExternalTree
external_view item.Prototype = tree.prototype
external_view (item.Globals g) = tree.globals (globals_view g)
external_view (item.Function f) = tree.function (function_view f)

abbrev pub tree_view : TranslationUnit → tree.FileTree
tree_view t = record { parts = map external_view t.items.items; end = t.end }
