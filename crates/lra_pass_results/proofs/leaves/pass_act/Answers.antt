-- Goals of `pass_act`: the value changes.
use Rattle.std.proofs.{Common.[], Common.map, Common.sym, lemmas.List.append-nil}
use Rattle.lra_pass_results.specs.Crates.{lra_analysis_spec.Pass.noted, lra_domain.Interference.no_interference}
use Rattle.lra_operations.specs.{Tree.act, TreeViews.op_view}
use Rattle.lra_pass_results.specs.Outcome.{entry_view}
use Rattle.lra_pass_results.proofs.LeafSteps.{flagged_so, goes_further}
use Rattle.lra_pass_results.proofs.leaves.pass_act.Goals as goal

pub returns : goal.returns
returns g c plan =
    let so_far = c.args.so_far.now in
    let new = c.transfer_op.new.value in
    let done = c.in_ok-exactness.ensures in
    goes_further no_interference g.D.Domain.abstraction plan so_far (act c.args.point (op_view c.args.op.now)) so_far.found.entries [] new
    c.note-so_far.result (sym (append-nil (map entry_view so_far.found.entries.items)))
    (new, c.in_ok-exactness.exactness, done.changes, flagged_so [] new c.note-so_far.result (noted c.args.point c.in_ok-exactness.exactness so_far.flag) c.note-so_far.ensures) done.dims
