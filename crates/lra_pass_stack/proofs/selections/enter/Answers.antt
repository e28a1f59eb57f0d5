-- Goals of `enter`: the label is entered.
use Rattle.std.proofs.{Common.ℕ, Common.sym, Common.subst, lemmas.Result.IfOk-weaker}
use Rattle.lra_pass_stack.specs.Stack.{EntersAt, JoinsAt, RunHas}
use Rattle.lra_pass_stack.proofs.SelectFrames.{entered_at}
use Rattle.lra_pass_stack.proofs.selections.enter.Goals as goal

pub join_running-requires : goal.join_running-requires
join_running-requires g c = subst (λ (n : ℕ). RunHas g.D.Domain.abstraction n c.args.so_far.normal) (sym c.in_ok-entered.ensures.dims) c.requires.running

pub returns : goal.returns
returns g c base e same =
    let m = g.D.Domain.abstraction in
    let s = c.args.selecting.now in
    let k = c.in_ok-entered.entered in
    let q = s.selection.point in
    IfOk-weaker c.join_running.result (λ r. JoinsAt m q k c.args.so_far r) (λ r. EntersAt m q base e c.args.label.now s.from s.other c.args.so_far r)
    (λ r joins. entered_at m q base e c.args.label.now s.from s.other k c.args.so_far r (c.in_ok-entered.ensures.enters base e same)
    c.in_ok-entered.ensures.dims joins)
    c.join_running.ensures
