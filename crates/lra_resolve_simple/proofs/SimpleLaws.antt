-- A statement is simple if it is none with statements in it; it is resolved by one label.
use Rattle.std.proofs.Common.{◌≡◌, suc, refl, sym, subst, arith, Option, Box, Global, Result, Ok, Err}
use Rattle.std.specs.Result.{IfOk, OnOk}
use Rattle.lra_base.specs.{declared.error.SourceError.SourceError, declared.refusals.Place.Place}
use Rattle.lra_syntax.specs.{Labels.stmt_labels, declared.trees.Stmt.Stmt, declared.trees.Stmt.Stmt-F, declared.trees.Stmt.out-Stmt, declared.trees.Stmt.roll-Stmt, declared.trees.Stmt.roll-out-Stmt}
use Rattle.lra_syntax.specs.{Trees.StmtTree, Views.stmt_view, declared.trees.Assign.Assign, declared.trees.Block.Block, declared.trees.BlockItem.BlockItem, declared.trees.Call.Call}
use Rattle.lra_syntax.specs.{declared.trees.CaseItem.CaseItem, declared.trees.Cases.Cases, declared.trees.Cond.Cond, declared.trees.Expr.Expr, declared.trees.Init.Init, declared.trees.Rvalue.Rvalue}
use Rattle.lra_syntax.specs.declared.trees.Stmt as code
use Rattle.lra_program.specs.{ProgramViews.stmt_view as program_stmt_view, declared.program.Stmt.Stmt as ProgramStmt}
use Rattle.lra_resolve_simple.specs.Crates.lra_resolution_spec.Resolve.{resolve_stmt, stmt_count}
use Rattle.lra_resolve_simple.specs.Crates.{lra_resolution_spec.NameFaults.Around, lra_resolution_spec.NameFaults.stmt_faults, lra_resolution_spec.Scope.Scope}
use Rattle.lra_scopes.specs.Outcome.{StopsAtFirstFault}
use Rattle.lra_resolve_simple.specs.{Labelling.LabelsSoFar, Labelling.Adds, Resolved.Resolves, Statements.IsSimple}
use Rattle.lra_resolve_simple.proofs.StatementLaws.{block_is, nothing_is, assign_is, call_is, break_is, continue_is, return_is, assert_is, assume_is, if_is, if_else_is, while_is, for_is, switch_is}

simple_as : (t u : StmtTree) → t ≡ u → IsSimple u → IsSimple t
simple_as t u e h = subst IsSimple (sym e) h

-- case by case, once it is opened
module _ (s : Stmt)
    (f : (b : Block) → s ≡ code.Block b → ⊥)
    (g : (at : Place) (c : Cond) (b : Box Stmt Global) → s ≡ code.If at c b → ⊥)
    (h : (at : Place) (c : Cond) (b e : Box Stmt Global) → s ≡ code.IfElse at c b e → ⊥)
    (i : (at : Place) (c : Cond) (b : Box Stmt Global) → s ≡ code.While at c b → ⊥)
    (j : (at : Place) (i : Init) (c : Option Cond) (e : Option Assign) (b : Box Stmt Global) → s ≡ code.For at i c e b → ⊥)
    (k : (at : Place) (e : Expr) (cs : Cases) → s ≡ code.Switch at e cs → ⊥) where
  opened_is_simple : (o : Stmt-F BlockItem CaseItem Stmt Block Cases) → s ≡ roll-Stmt o → IsSimple (stmt_view s)
  unfolding roll-Stmt denote.Hole.Carrier.roll
  opened_is_simple (Stmt-F.Nothing at) e = simple_as _ _ (nothing_is s at e) (tt {0})
  opened_is_simple (Stmt-F.Assign a) e = simple_as _ _ (assign_is s a e) (tt {0})
  opened_is_simple (Stmt-F.Call c) e = simple_as _ _ (call_is s c e) (tt {0})
  opened_is_simple (Stmt-F.Break at) e = simple_as _ _ (break_is s at e) (tt {0})
  opened_is_simple (Stmt-F.Continue at) e = simple_as _ _ (continue_is s at e) (tt {0})
  opened_is_simple (Stmt-F.Return at x) e = simple_as _ _ (return_is s at x e) (tt {0})
  opened_is_simple (Stmt-F.Assert at c) e = simple_as _ _ (assert_is s at c e) (tt {0})
  opened_is_simple (Stmt-F.Assume at c) e = simple_as _ _ (assume_is s at c e) (tt {0})
  opened_is_simple (Stmt-F.Block b) e = absurd (f b e)
  opened_is_simple (Stmt-F.If at c b) e = absurd (g at c b e)
  opened_is_simple (Stmt-F.IfElse at c b x) e = absurd (h at c b x e)
  opened_is_simple (Stmt-F.While at c b) e = absurd (i at c b e)
  opened_is_simple (Stmt-F.For at x c y b) e = absurd (j at x c y b e)
  opened_is_simple (Stmt-F.Switch at v cs) e = absurd (k at v cs e)

  pub rest_is_simple : IsSimple (stmt_view s)
  rest_is_simple = opened_is_simple (out-Stmt s) (sym (roll-out-Stmt s))

module _ (s : Stmt) (simple : IsSimple (stmt_view s))
    (f : (at : Place) → s ≡ code.Nothing at → ⊥) (g : (a : Assign) → s ≡ code.Assign a → ⊥) (h : (c : Call) → s ≡ code.Call c → ⊥)
    (i : (at : Place) → s ≡ code.Break at → ⊥) (j : (at : Place) → s ≡ code.Continue at → ⊥)
    (k : (at : Place) (e : Option Rvalue) → s ≡ code.Return at e → ⊥)
    (l : (at : Place) (c : Cond) → s ≡ code.Assert at c → ⊥) (m : (at : Place) (c : Cond) → s ≡ code.Assume at c → ⊥) where
  opened_is_other : (o : Stmt-F BlockItem CaseItem Stmt Block Cases) → s ≡ roll-Stmt o → ⊥
  unfolding roll-Stmt denote.Hole.Carrier.roll
  opened_is_other (Stmt-F.Nothing at) e = f at e
  opened_is_other (Stmt-F.Assign a) e = g a e
  opened_is_other (Stmt-F.Call c) e = h c e
  opened_is_other (Stmt-F.Break at) e = i at e
  opened_is_other (Stmt-F.Continue at) e = j at e
  opened_is_other (Stmt-F.Return at x) e = k at x e
  opened_is_other (Stmt-F.Assert at c) e = l at c e
  opened_is_other (Stmt-F.Assume at c) e = m at c e
  opened_is_other (Stmt-F.Block b) e = subst IsSimple (block_is s b e) simple
  opened_is_other (Stmt-F.If at c b) e = subst IsSimple (if_is s at c b b.value e refl) simple
  opened_is_other (Stmt-F.IfElse at c b x) e = subst IsSimple (if_else_is s at c b x b.value x.value e refl refl) simple
  opened_is_other (Stmt-F.While at c b) e = subst IsSimple (while_is s at c b b.value e refl) simple
  opened_is_other (Stmt-F.For at x c y b) e = subst IsSimple (for_is s at x c y b b.value e refl) simple
  opened_is_other (Stmt-F.Switch at v cs) e = subst IsSimple (switch_is s at v cs e) simple

  pub no_other : ⊥
  no_other = opened_is_other (out-Stmt s) (sym (roll-out-Stmt s))

pub by_one_label : {a : Around} {s : Scope} {old new : LabelsSoFar} {t u : StmtTree} (r : Result ProgramStmt SourceError) → t ≡ u → stmt_count u ≡ 1
    → StopsAtFirstFault (stmt_faults a s u) r → IfOk r (λ v. program_stmt_view v ≡ resolve_stmt a.functions s old.next u)
    → OnOk r (new.next ≡ suc old.next) → OnOk r (Adds old new (stmt_labels old.live u)) → Resolves a s old t r s new
by_one_label (Ok v) is one told found counted adds = rw is (record { told = told; found = found; kept = refl; counted = omega (arith, one, counted); adds = adds })
by_one_label (Err e) is one told found counted adds = rw is (record { told = told; found = tt {0}; kept = tt {0}; counted = tt {0}; adds = tt {0} })
