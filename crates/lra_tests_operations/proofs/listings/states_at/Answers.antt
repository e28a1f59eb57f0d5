-- Goals of `states_at`: what holds at each point.
use Rattle.std.proofs.Common.{arith}
use Rattle.lra_tests_operations.proofs.Given.{states_more}
use Rattle.lra_tests_operations.proofs.listings.states_at.Goals as goal

pub sites-preserved : goal.sites-preserved
sites-preserved c =
    states_more c.args.sites.now c.sites.states.items c.push.new.self.items c.site-item.result c.in_ok-state.state c.sites.site-index c.sites.invariant
    (omega (arith, c.sites-test.true, c.sites.auto.site-index-end)) c.site-item.is c.in_ok-push.ensures.items c.in_ok-state.ensures
