-- Goals of `LoopHead::into_loop`: the whole `for`.
use Rattle.std.proofs.Common.{ap, sym, ◌∙◌}
use Rattle.lra_program.specs.{Program.Stmt, ProgramViews.cond_view, ProgramViews.stmt_view}
use Rattle.lra_resolve_simple.specs.{LoopHeads.loop_with, Statements.loop_of, declared.heads.LoopHead.LoopHead}
use Rattle.lra_scopes.proofs.Loops.{found_so}
use Rattle.lra_resolve_simple.proofs.StatementLaws.{absent_is}
use Rattle.lra_resolve_simple.proofs.heads.LoopHead.into_loop.Goals as goal

pub returns-in-While-clause-found : goal.returns-in-While-clause-found
returns-in-While-clause-found c =
    found_so c.repeat.result stmt_view _ _
    (ap (λ (x : Stmt). loop_of c.in-While.head.label (cond_view c.in-While.head.cond) (stmt_view c.args.body) x) absent_is
    ∙ sym (ap (λ (x : LoopHead). loop_with x (stmt_view c.args.body)) c.in-While.is))
    c.repeat.ensures.found

pub returns-in-For-clause-found : goal.returns-in-For-clause-found
returns-in-For-clause-found c =
    found_so c.into_loop.result stmt_view _ _ (sym (ap (λ (x : LoopHead). loop_with x (stmt_view c.args.body)) c.in-For.is)) c.into_loop.ensures.found
