-- What it is to resolve a statement.
use Rattle.std.specs.Prelude.{◌≡◌, ◌+◌, Result, IfOk, OnOk}
use Rattle.lra_base.specs.declared.error.SourceError.{SourceError}
use Rattle.lra_syntax.specs.{Labels.stmt_labels, Trees.StmtTree}
use Rattle.lra_program.specs.{ProgramViews.stmt_view, declared.program.Stmt.Stmt}
use Rattle.lra_resolve_simple.specs.Crates.lra_resolution_spec.NameFaults.{Around, stmt_faults}
use Rattle.lra_resolve_simple.specs.Crates.lra_resolution_spec.Resolve.{resolve_stmt, stmt_count}
use Rattle.lra_resolve_simple.specs.Crates.lra_resolution_spec.Scope.{Scope}
use Rattle.lra_scopes.specs.Outcome.{StopsAtFirstFault}
use Rattle.lra_resolve_simple.specs.Labelling.{LabelsSoFar, Adds}

-- the statement is refused at its first fault, or else found with its labels, and the scope is as it was before
pub record Resolves (a : Around) (s : Scope) (old : LabelsSoFar) (t : StmtTree) (result : Result Stmt SourceError)
    (behind : Scope) (new : LabelsSoFar) : Type 0 where
  pub told : StopsAtFirstFault (stmt_faults a s t) result
  pub found : IfOk result (λ r. stmt_view r ≡ resolve_stmt a.functions s old.next t)
  pub kept : OnOk result (behind ≡ s)
  pub counted : OnOk result (new.next ≡ old.next + stmt_count t)
  pub adds : OnOk result (Adds old new (stmt_labels old.live t))
