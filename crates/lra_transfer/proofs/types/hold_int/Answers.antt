-- Goals of `hold_int`: the tests after what gives an `int` its value.
use Rattle.std.proofs.Common.{pos, negsuc, sym, ◌∙◌}
use Rattle.lra_transfer.proofs.ChangeSteps.{one_wide, done_int}
use Rattle.lra_transfer.proofs.types.hold_int.Goals as goal

pub test-requires : goal.test-requires
test-requires g c = one_wide c.in_ok-low.low c.dims-live.result c.args.place (pos 1) (pos 2147483648) c.in_ok-low.ensures ∙ c.dims-live.ensures

pub test-requires-2 : goal.test-requires-2
test-requires-2 g c = one_wide c.in_ok-high.high c.dims-live.result c.args.place (negsuc 0) (pos 2147483647) c.in_ok-high.ensures ∙ c.dims-live.ensures ∙ sym
    c.in_ok-one.ensures.dims

pub returns-clause-holds : goal.returns-clause-holds
returns-clause-holds g c =
    let m = g.D.Domain.abstraction in
    let low = rw c.dims-live.ensures at c.in_ok-low.ensures in
    let high = rw c.dims-live.ensures at c.in_ok-high.ensures in
    rw (c.worse-2.ensures.is, c.worse.ensures.is) (λ p v made.
    done_int m p c.args.place v c.args.value.now c.test.new.self c.test-2.new.self c.args.before c.in_ok-one.one c.in_ok-two.two c.in_ok-low.low
    c.in_ok-high.high low high made
    c.in_ok-one.ensures.meets c.in_ok-one.ensures.dims c.in_ok-one.ensures.capped c.in_ok-two.ensures.meets c.in_ok-two.ensures.dims c.in_ok-two.ensures.capped)
