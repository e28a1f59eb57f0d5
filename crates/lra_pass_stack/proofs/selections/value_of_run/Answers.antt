-- Goals of `value_of_run`: what runs in the arms; if nothing does, a value that no store has.
use Rattle.std.proofs.Common.{◌≡◌, ℕ, subst}
use Rattle.std.specs.Prelude.{IfOk}
use Rattle.lra_pass_stack.proofs.SelectFrames.{run_dims, run_none, run_some}
use Rattle.lra_pass_stack.proofs.selections.value_of_run.Goals as goal

pub returns-in-Some-clause-from : goal.returns-in-Some-clause-from
returns-in-Some-clause-from g c =
    let s = c.args.selecting.now in
    run_some g.D.Domain.abstraction (g.D.Domain.abstraction.dims s.from) s.selection.plan.now.parts c.args.normal c.in-Some.value c.in-Some.is

pub returns-in-Some-clause-dims : goal.returns-in-Some-clause-dims
returns-in-Some-clause-dims g c runs =
    let m = g.D.Domain.abstraction in
    run_dims m (m.dims c.args.selecting.now.from) c.args.normal c.in-Some.value c.in-Some.is runs

pub returns-in-None-clause-from : goal.returns-in-None-clause-from
returns-in-None-clause-from g c =
    let m = g.D.Domain.abstraction in
    let s = c.args.selecting.now in
    run_none m c.empty.result (m.dims s.from) c.dims.result s.selection.plan.now.parts c.parts.result c.args.normal c.in-None.is c.dims.ensures c.parts.ensures
    c.empty.ensures.defined c.empty.ensures.formed

pub returns-in-None-clause-dims : goal.returns-in-None-clause-dims
returns-in-None-clause-dims g c runs =
    let m = g.D.Domain.abstraction in
    subst (λ (n : ℕ). IfOk c.empty.result (λ v. m.dims v ≡ n)) c.dims.ensures c.empty.ensures.dims
