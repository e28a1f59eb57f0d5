-- Goals of `canonical_order`: puts the rows in order.
use Rattle.std.proofs.Common.{rules}
use Rattle.lra_canonical.specs.Ordered.{cmp_by}
use Rattle.lra_canonical.proofs.Orders.{sorted_by, one_order, cmp_by_total}
use Rattle.lra_canonical.proofs.order.canonical_order.Goals as goal

pub returns-clause-sorted : goal.returns-clause-sorted
returns-clause-sorted c = sorted_by (cmp_by c.args.order) (cmp_by_total c.args.order) _ c.in_ok-sort_by.ensures.sorted (λ a r q k. search rules)

pub returns-clause-one : goal.returns-clause-one
returns-clause-one c =
    one_order c.args.order c.args.rows.now.items c.sort_by.new.self.items c.in_ok-sort_by.ensures.permutation
    (sorted_by (cmp_by c.args.order) (cmp_by_total c.args.order) _ c.in_ok-sort_by.ensures.sorted (λ a r q k. search rules))
