-- Goals of `join_all`: the values joined one by one, from the left.
use Rattle.std.proofs.Common.{sym}
use Rattle.lra_pass_results.proofs.Joining.{join_starts, join_wide, join_next, join_ends}
use Rattle.lra_pass_results.proofs.outcome.join_all.Goals as goal

pub others-init : goal.others-init
others-init g c = join_starts g.D.Domain.abstraction c.args.value.now c.args.others.now c.requires

pub others-preserved : goal.others-preserved
others-preserved g c =
    let m = g.D.Domain.abstraction in
    let all = c.args.others.now in
    let i = c.others.other-index in
    let u = c.other-item.result in
    let by = c.in_ok-one.ensures in
    let wide = join_wide m c.args.value.now c.others.value all i c.others.exactness c.others.invariant u
    c.others-test.true c.other-item.is in
    join_next m c.args.value.now c.others.value all i c.others.exactness c.others.invariant u c.join.new.self c.in_ok-one.one
    c.worse-exactness.result c.others-test.true c.other-item.is (by.joins, sym wide, by.dims, by.capped) by.dims
    c.worse-exactness.ensures.is

pub returns-clause-joined : goal.returns-clause-joined
returns-clause-joined g c = join_ends g.D.Domain.abstraction c.args.value.now c.others.value c.args.others.now
    c.others.other-index c.others.exactness c.others.invariant c.others-test.false
