-- Goals of `come_out`: what comes out after the last arm; if nothing runs there, what has no match.
use Rattle.std.proofs.lemmas.Result.{IfOk-weaker}
use Rattle.lra_pass_results.specs.{Outcome.running_on, declared.outcome.PassOutcome.PassOutcome}
use Rattle.lra_pass_stack.specs.Stack.{ComesOutAt}
use Rattle.lra_pass_stack.proofs.SelectFrames.{comes_out_none, comes_out_some, run_dims}
use Rattle.lra_pass_stack.proofs.selections.come_out.Goals as goal

pub returns-in-None : goal.returns-in-None
returns-in-None g c =
    let s = c.args.selecting in
    comes_out_none g.D.Domain.abstraction s.selection.point s.has_default s.other c.args.so_far c.in-None.is

pub join_other-requires : goal.join_other-requires
join_other-requires g c =
    let m = g.D.Domain.abstraction in
    run_dims m (m.dims c.args.selecting.other) c.args.so_far.normal c.in-Some.normal c.in-Some.is c.requires

pub returns : goal.returns
returns g c =
    let m = g.D.Domain.abstraction in
    let s = c.args.selecting in
    let running : PassOutcome g.row.D.Denot = record { found = c.args.so_far.found; normal = c.in-Some.normal; flag = c.args.so_far.flag } in
    IfOk-weaker c.join_other.result (λ r. ComesOutAt m s.selection.point s.has_default s.other (running_on running) r)
    (λ r. ComesOutAt m s.selection.point s.has_default s.other c.args.so_far r)
    (λ r at. comes_out_some m s.selection.point s.has_default s.other c.args.so_far c.in-Some.normal r c.in-Some.is at) c.join_other.ensures
