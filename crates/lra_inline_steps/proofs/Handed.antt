-- What a call answers is handed on as that of the whole statement.
use Rattle.std.proofs.{Common.◌≡◌, Common.ℕ, Common.◌≤◌, Common.List, Common.Some, Common.Result, Common.IfOk, Common.sym, Common.subst, lemmas.Result.IfOk-weaker}
use Rattle.lra_program.specs.{Program.Stmt, Program.break, Program.continue, Program.Program, Sites.Site, Sites.Event, Sites.stmt_events}
use Rattle.lra_operations.specs.Tree.{broken, continued, returned, Node}
use Rattle.lra_inline_steps.specs.Building.{inside, WritesStmt, LeavesLoop}
use Rattle.lra_inline_steps.specs.{Limits.add_points, Limits.stopped, Limits.OnLimit, declared.frame.Frame.Frame, declared.points.InlineError.InlineError}

not_broken : broken ≡ returned → ⊥
not_broken e = cc

not_continued : continued ≡ returned → ⊥
not_continued e = cc

module _ (P : Program) (path : List ℕ) (r : Frame) (S : List Site) where
  abbrev on_stmt : Stmt → List Event
  on_stmt s = stmt_events (inside P path r) path r.live s

  module _ {A : Type 0} (b : Result A InlineError) where
    pub stmt_limit : (s s' : Stmt) → s ≡ s' → OnLimit b (λ x. add_points S (on_stmt s') ≡ stopped x) → OnLimit b (λ x. add_points S (on_stmt s) ≡ stopped x)
    stmt_limit s s' e h = subst (λ z. OnLimit b (λ x. add_points S (on_stmt z) ≡ stopped x)) (sym e) h

    module _ (view : A → Node) (U : List Site) where
      pub stmt_handed : (s s' : Stmt) → s ≡ s' → IfOk b (λ g. WritesStmt P path r S s' (view g) U) → IfOk b (λ g. WritesStmt P path r S s (view g) U)
      stmt_handed s s' e h = subst (λ z. IfOk b (λ g. WritesStmt P path r S z (view g) U)) (sym e) h

      pub break_handed : (s : Stmt) (at : ℕ) → s ≡ break at → ((m : ℕ) → r.breaks ≡ Some m → m ≤ r.live)
          → IfOk b (λ g. LeavesLoop path r S at broken (view g) U)
          → IfOk b (λ g. WritesStmt P path r S s (view g) U)
      break_handed s at e low h = stmt_handed s (break at) e
          (IfOk-weaker b (λ g. LeavesLoop path r S at broken (view g) U) (λ g. WritesStmt P path r S (break at) (view g) U) (λ g x. x P not_broken low) h)

      pub continue_handed : (s : Stmt) (at : ℕ) → s ≡ continue at → ((m : ℕ) → r.continues ≡ Some m → m ≤ r.live)
          → IfOk b (λ g. LeavesLoop path r S at continued (view g) U)
          → IfOk b (λ g. WritesStmt P path r S s (view g) U)
      continue_handed s at e low h = stmt_handed s (continue at) e (IfOk-weaker b (λ g. LeavesLoop path r S at continued (view g) U) (λ g. WritesStmt P path r S (continue at) (view g) U)
          (λ g x. x P not_continued low) h)

      pub any_handed : (s s' : Stmt) → s ≡ s' → IfOk b (λ g. (Q : Program) → WritesStmt Q path r S s' (view g) U) → IfOk b (λ g. WritesStmt P path r S s (view g) U)
      any_handed s s' e h = stmt_handed s s' e (IfOk-weaker b (λ g. (Q : Program) → WritesStmt Q path r S s' (view g) U) (λ g. WritesStmt P path r S s' (view g) U) (λ g x. x P) h)
