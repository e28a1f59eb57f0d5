-- Which statements have no parts and make no call.
use Rattle.std.proofs.Common.{◌≡◌, ℕ, ap, sym, ◌∙◌, subst}
use Rattle.lra_program.specs.Program as program
use Rattle.lra_program.specs.declared.program.Stmt.{Stmt, Stmt-F, out-Stmt, roll-Stmt, roll-out-Stmt}
use Rattle.lra_program.specs.{ProgramViews.stmt_view, declared.program.BlockItem.BlockItem, declared.program.BlockItems.BlockItems, declared.program.CaseItem.CaseItem, declared.program.Cond.Cond}
use Rattle.lra_program.specs.declared.program.Stmt as code
use Rattle.lra_inline_steps.specs.Inlining.{IsLone}
use Rattle.lra_inline_steps.proofs.Shown.{shown_block, shown_assign, shown_write, shown_call, shown_if, shown_loop, shown_for, shown_return, shown_switch}

module _ (s : Stmt) (c : Stmt) (t : program.Stmt) (e : s ≡ c) (f : stmt_view c ≡ t) where
  not_lone : IsLone (stmt_view s) → IsLone t
  not_lone h = subst IsLone (ap stmt_view e ∙ f) h

module _ (s : Stmt) (lone : IsLone (stmt_view s))
    (no_absent : s ≡ code.Absent → ⊥)
    (no_nothing : (at : ℕ) → s ≡ code.Nothing at → ⊥)
    (no_break : (at : ℕ) → s ≡ code.Break at → ⊥)
    (no_continue : (at : ℕ) → s ≡ code.Continue at → ⊥)
    (no_assert : (at : ℕ) (c : Cond) → s ≡ code.Assert at c → ⊥)
    (no_assume : (at : ℕ) (c : Cond) → s ≡ code.Assume at c → ⊥) where
  opened_is_other : (o : Stmt-F BlockItem CaseItem Stmt BlockItems) → s ≡ roll-Stmt o → ⊥
  unfolding roll-Stmt denote.Hole.Carrier.roll
  opened_is_other Stmt-F.Absent e = no_absent e
  opened_is_other (Stmt-F.Nothing at) e = no_nothing at e
  opened_is_other (Stmt-F.Block b end) e = not_lone s _ _ e (shown_block b end) lone
  opened_is_other (Stmt-F.Assign at x a) e = not_lone s _ _ e (shown_assign at x a) lone
  opened_is_other (Stmt-F.Write at x a) e = not_lone s _ _ e (shown_write at x a) lone
  opened_is_other (Stmt-F.Call at c) e = not_lone s _ _ e (shown_call at c) lone
  opened_is_other (Stmt-F.If at c a b) e = not_lone s _ _ e (shown_if at c a b) lone
  opened_is_other (Stmt-F.Loop at c a b) e = not_lone s _ _ e (shown_loop at c a b) lone
  opened_is_other (Stmt-F.For at i c a b) e = not_lone s _ _ e (shown_for at i c a b) lone
  opened_is_other (Stmt-F.Break at) e = no_break at e
  opened_is_other (Stmt-F.Continue at) e = no_continue at e
  opened_is_other (Stmt-F.Return at x) e = not_lone s _ _ e (shown_return at x) lone
  opened_is_other (Stmt-F.Assert at c) e = no_assert at c e
  opened_is_other (Stmt-F.Assume at c) e = no_assume at c e
  opened_is_other (Stmt-F.Switch at v cs) e = not_lone s _ _ e (shown_switch at v cs) lone

  pub no_other : ⊥
  no_other = opened_is_other (out-Stmt s) (sym (roll-out-Stmt s))
