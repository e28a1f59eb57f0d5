-- Goals of the functions that call each other around `take_condition`: as those of `give` (proofs/given/+give), with `HasTaken` for `HasMore`.
use Rattle.std.proofs.Common.{map, arith}
use Rattle.lra_linearize.proofs.{CondSizes.size_in, CondSteps.any_view, ThresholdSteps.any_taken, ThresholdSteps.chain_taken}
use Rattle.lra_linearize.specs.Crates.lra_program.ProgramViews.{cond_view}
use Rattle.lra_linearize.proofs.thresholds.+condition.Goals as goal

pub take_condition-returns-in-Any : goal.take_condition-returns-in-Any
take_condition-returns-in-Any t c =
    let inner = rw (c.deref-in-Any.ensures, c.as_slice-in-Any.ensures.value) at c.take_chain-in-Any.ensures in
    rw (c.in-Any.is, any_view c.in-Any.first c.in-Any.rest, any_taken c.args.rows.now.dims c.args.base (cond_view c.in-Any.first.value) (map cond_view c.in-Any.rest.items)) inner

pub take_chain-take_condition-requires-in-rest : goal.take_chain-take_condition-requires-in-rest
take_chain-take_condition-requires-in-rest t c =
    let smaller = size_in c.args.first.now c.args.rest.now c.rest.next-index c.next-item.result c.rest-test.true c.next-item.is in
    (omega (arith, c.decreases, smaller), (let same = c.rest.invariant.dims in let few = c.requires in omega (arith, same, few)))

pub take_chain-rest-preserved : goal.take_chain-rest-preserved
take_chain-rest-preserved t c =
    chain_taken c.args.base (cond_view c.args.first.now) c.args.rest.now c.rest.next-index c.next-item.result c.args.rows.now c.rest.rows c.take_condition-in-rest.new.rows
    c.rest-test.true c.next-item.is c.rest.invariant c.in_ok-take_condition-2.ensures
