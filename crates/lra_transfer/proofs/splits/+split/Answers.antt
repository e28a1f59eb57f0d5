-- Goals of the functions that call each other around `split`: `split`, `split_all`, `split_any`.
use Rattle.std.proofs.Common.{rules, map, drop, ◌≤◌, length, true, false, arith}
use Rattle.lra_program.specs.ProgramViews.{all_of, any_of, cond_view}
use Rattle.lra_transfer.proofs.ChainSteps.{divided_first, divided_on, all_divided, any_divided, taken_have}
use Rattle.lra_transfer.proofs.SideSteps.{all_shown, any_shown, sides_as}
use Rattle.lra_linearize.proofs.CondSizes.{size_in}
use Rattle.lra_transfer.proofs.splits.+split.Goals as goal

pub split-returns-in-All : goal.split-returns-in-All
split-returns-in-All g t c =
    let base = c.args.base in
    let shown = all_shown c.args.condition.now c.deref-in-All.result.now c.as_slice.result.now c.in-All.first c.in-All.rest
    c.deref-in-All.ensures c.as_slice.ensures.value c.in-All.is in
    let chain = all_of (cond_view c.deref-in-All.result.now) (map cond_view c.as_slice.result.now) in
    sides_as g.D.Domain.abstraction base c.split_all.result c.args.from chain (cond_view c.args.condition.now) shown c.split_all.ensures

pub split-returns-in-Any : goal.split-returns-in-Any
split-returns-in-Any g t c =
    let base = c.args.base in
    let shown = any_shown c.args.condition.now c.deref-in-Any.result.now c.as_slice-in-Any.result.now c.in-Any.first
    c.in-Any.rest c.deref-in-Any.ensures c.as_slice-in-Any.ensures.value c.in-Any.is in
    let chain = any_of (cond_view c.deref-in-Any.result.now) (map cond_view c.as_slice-in-Any.result.now) in
    sides_as g.D.Domain.abstraction base c.split_any.result c.args.from chain (cond_view c.args.condition.now) shown c.split_any.ensures

pub split_all-rest-init : goal.split_all-rest-init
split_all-rest-init g t c =
    divided_first g.D.Domain.abstraction c.args.base true (cond_view c.args.first.now) (map cond_view c.args.rest.now) c.args.from c.new-before.result.items c.in_ok-sides.sides.on
    c.in_ok-sides.sides.off c.new-before.ensures.items c.in_ok-sides.ensures

pub split_all-split-requires-in-rest : goal.split_all-split-requires-in-rest
split_all-split-requires-in-rest g t c κs within =
    let smaller = size_in c.args.first.now c.args.rest.now c.rest.next-index c.next-item.result c.rest-test.true c.next-item.is in
    let same = taken_have g.D.Domain.abstraction c.args.base true (cond_view c.args.first.now) (map cond_view c.args.rest.now) c.args.from c.rest.before.items c.rest.sides.on c.rest.sides.off
    (map cond_view (drop c.rest.next-index c.args.rest.now)) c.rest.invariant in
    (omega (arith, c.decreases, smaller), (search rules, (search rules, omega (arith, same, c.requires))))

pub split_all-rest-preserved : goal.split_all-rest-preserved
split_all-rest-preserved g t c =
    divided_on g.D.Domain.abstraction c.args.base true (cond_view c.args.first.now) c.args.rest.now c.rest.next-index c.next-item.result c.args.from c.rest.before.items c.push.new.self.items
    c.rest.sides.on c.rest.sides.off c.in_ok-sides-2.sides.on c.in_ok-sides-2.sides.off c.rest-test.true c.next-item.is c.in_ok-push.ensures.items c.rest.invariant c.in_ok-sides-2.ensures

pub split_all-returns : goal.split_all-returns
split_all-returns g t c =
    let all : length c.args.rest.now ≤ c.rest.next-index = omega (arith, c.rest-test.false) in
    all_divided g.D.Domain.abstraction c.args.base c.join_off.result (cond_view c.args.first.now) c.args.rest.now c.rest.next-index c.args.from c.rest.before.items c.rest.sides all
    c.rest.invariant c.join_off.ensures.on c.join_off.ensures.off

pub split_any-rest-init : goal.split_any-rest-init
split_any-rest-init g t c =
    divided_first g.D.Domain.abstraction c.args.base false (cond_view c.args.first.now) (map cond_view c.args.rest.now) c.args.from c.new-before.result.items c.in_ok-sides.sides.off
    c.in_ok-sides.sides.on c.new-before.ensures.items c.in_ok-sides.ensures

pub split_any-split-requires-in-rest : goal.split_any-split-requires-in-rest
split_any-split-requires-in-rest g t c κs within =
    let smaller = size_in c.args.first.now c.args.rest.now c.rest.next-index c.next-item.result c.rest-test.true c.next-item.is in
    let same = taken_have g.D.Domain.abstraction c.args.base false (cond_view c.args.first.now) (map cond_view c.args.rest.now) c.args.from c.rest.before.items c.rest.sides.off c.rest.sides.on
    (map cond_view (drop c.rest.next-index c.args.rest.now)) c.rest.invariant in
    (omega (arith, c.decreases, smaller), (search rules, (search rules, omega (arith, same, c.requires))))

pub split_any-rest-preserved : goal.split_any-rest-preserved
split_any-rest-preserved g t c =
    divided_on g.D.Domain.abstraction c.args.base false (cond_view c.args.first.now) c.args.rest.now c.rest.next-index c.next-item.result c.args.from c.rest.before.items c.push.new.self.items
    c.rest.sides.off c.rest.sides.on c.in_ok-sides-2.sides.off c.in_ok-sides-2.sides.on c.rest-test.true c.next-item.is c.in_ok-push.ensures.items c.rest.invariant c.in_ok-sides-2.ensures

pub split_any-returns : goal.split_any-returns
split_any-returns g t c =
    let all : length c.args.rest.now ≤ c.rest.next-index = omega (arith, c.rest-test.false) in
    any_divided g.D.Domain.abstraction c.args.base c.join_on.result (cond_view c.args.first.now) c.args.rest.now c.rest.next-index c.args.from c.rest.before.items c.rest.sides all
    c.rest.invariant c.join_on.ensures.on c.join_on.ensures.off
