-- What values of the code's types stand for, form by form.
use Rattle.std.proofs.Common.{◌≡◌, ℕ, map, Option, Some, ap, ◌∙◌, rules, Box, Vec, Global}
use Rattle.lra_program.specs.Program as program
use Rattle.lra_operations.specs.Tree as graph
use Rattle.lra_program.specs.ProgramViews.{variable_view, expr_view, element_view, cond_view, call_view, rvalue_view, given_view, declarator_view, stmt_view, item_view, items_of, items_view}
use Rattle.lra_program.specs.declared.program.BlockItems.{BlockItems, the_lemmas as items_lemmas}
use Rattle.lra_program.specs.{ProgramViews.case_view, ProgramViews.cases_of, declared.arrays.Array.Array, declared.program.BlockItem.the_lemmas as item_lemmas, declared.program.Call.Call}
use Rattle.lra_program.specs.{declared.program.CaseItem.CaseItem, declared.program.Cond.Cond, declared.program.Declarator.Declarator, declared.program.Element.Element, declared.program.Expr.Expr}
use Rattle.lra_program.specs.{declared.program.Rvalue.Rvalue, declared.program.Stmt.Stmt, declared.program.Stmt.the_lemmas as stmt_lemmas, declared.program.Variable.Variable}
use Rattle.lra_program.specs.declared.program.Rvalue.TheVariants as code_rvalue
use Rattle.lra_program.specs.declared.program.BlockItem as code_item
use Rattle.lra_program.specs.declared.program.CaseItem as code_case
use Rattle.lra_inline_steps.specs.Crates.lra_base.declared.case_labels.CaseLabel.{CaseLabel}
use Rattle.lra_program.specs.declared.program.Stmt as code
use Rattle.lra_operations.specs.{TreeViews.op_view, TreeViews.node_view, TreeViews.arm_view, declared.tree.Node.the_lemmas as node_lemmas, declared.tree.Op.Op}
use Rattle.lra_operations.specs.declared.tree.Node as code_node
use Rattle.lra_operations.specs.declared.tree.Arm as code_arm
use Rattle.lra_inline_steps.specs.Stack.{entry_part}

pub shown_empty : node_view code_node.Empty ≡ graph.empty
shown_empty = search (rules, node_lemmas)

pub shown_point : (q : ℕ) → node_view (code_node.Point q) ≡ graph.point q
shown_point q = search (rules, node_lemmas)

pub shown_act : (q : ℕ) (o : Op) → node_view (code_node.Act q o) ≡ graph.act q (op_view o)
shown_act q o = search (rules, node_lemmas)

pub shown_check : (q base : ℕ) (c : Cond) → node_view (code_node.Check q base c) ≡ graph.check q base (cond_view c)
shown_check q base c = search (rules, node_lemmas)

pub shown_entry : (l : CaseLabel) → arm_view (code_arm.Entry l) ≡ entry_part l
shown_entry l = search (rules, node_lemmas)

pub shown_tree : (g : code_node.Node) → arm_view (code_arm.Tree g) ≡ graph.arm (node_view g)
shown_tree g = search (rules, node_lemmas)

pub shown_items : (b : BlockItems) → items_view b ≡ items_of (map item_view b.items.items)
shown_items b = search (rules, items_lemmas)

pub shown_declaration : (d : Declarator) (rest : program.BlockItems) → item_view (code_item.Declaration d) rest ≡ program.declaration (declarator_view d) rest
shown_declaration d rest = search (rules, item_lemmas)

pub shown_array : (at : ℕ) (a : Array) (rest : program.BlockItems) → item_view (code_item.Array at a) rest ≡ program.array at a rest
shown_array at a rest = search (rules, item_lemmas)

pub shown_statement : (s : Stmt) (rest : program.BlockItems) → item_view (code_item.Statement s) rest ≡ program.statement (stmt_view s) rest
shown_statement s rest = search (rules, item_lemmas)

pub shown_absent : stmt_view code.Absent ≡ program.absent
shown_absent = search (rules, stmt_lemmas)

pub shown_nothing : (at : ℕ) → stmt_view (code.Nothing at) ≡ program.nothing at
shown_nothing at = search (rules, stmt_lemmas)

pub shown_block : (b : BlockItems) (at : ℕ) → stmt_view (code.Block b at) ≡ program.block (items_of (map item_view b.items.items)) at
shown_block b at = search (rules, stmt_lemmas)

pub shown_assign : (at : ℕ) (x : Variable) (e : Rvalue) → stmt_view (code.Assign at x e) ≡ program.assign at (variable_view x) (rvalue_view e)
shown_assign at x e = search (rules, stmt_lemmas)

pub shown_write : (at : ℕ) (x : Element) (e : Rvalue) → stmt_view (code.Write at x e) ≡ program.write at (element_view x) (rvalue_view e)
shown_write at x e = search (rules, stmt_lemmas)

pub shown_call : (at : ℕ) (c : Call) → stmt_view (code.Call at c) ≡ program.call at (call_view c)
shown_call at c = search (rules, stmt_lemmas)

pub shown_if : (at : ℕ) (c : Cond) (a b : Box Stmt Global) → stmt_view (code.If at c a b) ≡ program.if at (cond_view c) (stmt_view a.value) (stmt_view b.value)
shown_if at c a b = search (rules, stmt_lemmas)

pub shown_loop : (at : ℕ) (c : Cond) (a b : Box Stmt Global) → stmt_view (code.Loop at c a b) ≡ program.loop at (cond_view c) (stmt_view a.value) (stmt_view b.value)
shown_loop at c a b = search (rules, stmt_lemmas)

pub shown_for : (at : ℕ) (init : BlockItems) (c : Cond) (p q : Box Stmt Global)
    → stmt_view (code.For at init c p q) ≡ program.for at (items_of (map item_view init.items.items)) (cond_view c) (stmt_view p.value) (stmt_view q.value)
shown_for at init c p q = search (rules, stmt_lemmas)

pub shown_break : (at : ℕ) → stmt_view (code.Break at) ≡ program.break at
shown_break at = search (rules, stmt_lemmas)

pub shown_continue : (at : ℕ) → stmt_view (code.Continue at) ≡ program.continue at
shown_continue at = search (rules, stmt_lemmas)

pub shown_return : (at : ℕ) (e : Option Rvalue) → stmt_view (code.Return at e) ≡ program.return at (given_view e)
shown_return at e = search (rules, stmt_lemmas)

pub shown_assert : (at : ℕ) (c : Cond) → stmt_view (code.Assert at c) ≡ program.assert at (cond_view c)
shown_assert at c = search (rules, stmt_lemmas)

pub shown_assume : (at : ℕ) (c : Cond) → stmt_view (code.Assume at c) ≡ program.assume at (cond_view c)
shown_assume at c = search (rules, stmt_lemmas)

pub shown_switch : (at : ℕ) (e : Expr) (cs : Vec CaseItem Global)
    → stmt_view (code.Switch at e cs) ≡ program.switch at (expr_view e) (cases_of (map case_view cs.items))
shown_switch at e cs = search (rules, stmt_lemmas)

pub shown_label : (l : CaseLabel) (cs : program.Cases) → case_view (code_case.Label l) cs ≡ program.labelled l cs
shown_label l cs = ap (λ f. f cs) shown
  where
    shown : case_view (code_case.Label l) ≡ program.labelled l
    shown = search (rules, stmt_lemmas)

pub shown_stated : (s : Stmt) (cs : program.Cases) → case_view (code_case.Stated s) cs ≡ program.stated (stmt_view s) cs
shown_stated s cs = ap (λ f. f cs) shown
  where
    shown : case_view (code_case.Stated s) ≡ program.stated (stmt_view s)
    shown = search (rules, stmt_lemmas)

pub shown_result : (o : Option Rvalue) (x : Rvalue) (c : Call) → o ≡ Some x → x ≡ code_rvalue.Result c → given_view o ≡ Some (program.result (call_view c))
shown_result o x c e f = ap given_view e ∙ ap (λ (y : Rvalue). Some (rvalue_view y)) f

pub shown_value : (o : Option Rvalue) (x : Rvalue) (v : Expr) → o ≡ Some x → x ≡ code_rvalue.Value v → given_view o ≡ Some (program.value (expr_view v))
shown_value o x v e f = ap given_view e ∙ ap (λ (y : Rvalue). Some (rvalue_view y)) f
