-- Goals of `judge_each`: what is reported about each access comes after the others.
use Rattle.std.proofs.Common.{◌≤◌, length, map, arith}
use Rattle.lra_bounds_checks.specs.Listed.{access_view}
use Rattle.lra_bounds_checks.proofs.BoundsSteps.{all_told, none_told, told_more}
use Rattle.lra_bounds_checks.proofs.access_checks.judge_each.Goals as goal

pub accesses-init : goal.accesses-init
accesses-init g c = none_told g.D.Domain.abstraction c.args.value.now c.args.around.base (map access_view c.args.accesses.now) c.args.told.now.items

pub accesses-preserved : goal.accesses-preserved
accesses-preserved g c =
    told_more g.D.Domain.abstraction c.args.value.now c.args.around.base (map access_view c.args.accesses.now) c.args.told.now.items c.accesses.so_far
    c.accesses.told.items c.push.new.self.items c.args.accesses.now c.accesses.access-index c.access-item.result c.in_ok-inside.inside
    c.in_ok-inside.exactness c.worse-so_far.result c.accesses-test.true c.access-item.is c.accesses.invariant c.in_ok-inside.ensures
    c.in_ok-push.ensures.items c.worse-so_far.ensures.is

pub returns : goal.returns
returns g c =
    let all : length c.args.accesses.now ≤ c.accesses.access-index = omega (arith, c.accesses-test.false) in
    all_told g.D.Domain.abstraction c.args.value.now c.args.around.base (map access_view c.args.accesses.now) c.args.told.now.items c.accesses.so_far
    c.accesses.told.items c.accesses.told.items c.args.accesses.now c.accesses.access-index all c.accesses.invariant
