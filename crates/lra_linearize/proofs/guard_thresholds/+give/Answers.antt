-- Goals of the functions that call each other around `give`: `give`.
use Rattle.std.proofs.Common.{map, arith}
use Rattle.lra_linearize.proofs.{CondSizes.size_in, CondSteps.any_view, GuardThresholdSteps.any_rows, GuardThresholdSteps.chain_more}
use Rattle.lra_linearize.specs.Crates.lra_program.ProgramViews.{cond_view}
use Rattle.lra_linearize.proofs.guard_thresholds.+give.Goals as goal

pub give-returns-in-Any : goal.give-returns-in-Any
give-returns-in-Any t c =
    let inner = rw (c.deref-in-Any.ensures, c.as_slice-in-Any.ensures.value) at c.give_chain-in-Any.ensures in
    rw (c.in-Any.is, any_view c.in-Any.first c.in-Any.rest, any_rows c.args.rows.now.dims c.args.base c.args.wanted (cond_view c.in-Any.first.value) (map cond_view c.in-Any.rest.items)) inner

pub give_chain-give-requires-in-rest : goal.give_chain-give-requires-in-rest
give_chain-give-requires-in-rest t c =
    let smaller = size_in c.args.first.now c.args.rest.now c.rest.next-index c.next-item.result c.rest-test.true c.next-item.is in
    (omega (arith, c.decreases, smaller), (let same = c.rest.invariant.dims in let few = c.requires in omega (arith, same, few)))

pub give_chain-rest-preserved : goal.give_chain-rest-preserved
give_chain-rest-preserved t c =
    chain_more c.args.base c.args.wanted (cond_view c.args.first.now) c.args.rest.now c.rest.next-index c.next-item.result c.args.rows.now c.rest.rows c.give-in-rest.new.rows
    c.rest-test.true c.next-item.is c.rest.invariant c.in_ok-give-2.ensures
