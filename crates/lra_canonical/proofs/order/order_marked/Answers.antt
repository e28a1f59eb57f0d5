-- Goals of `order_marked`: puts marked rows in the order of their rows.
use Rattle.std.proofs.Common.{rules}
use Rattle.std.specs.Cmp.{on_total}
use Rattle.lra_canonical.specs.declared.order.Marked.{Marked}
use Rattle.lra_canonical.proofs.{MarkedOrder.marked_cmp, MarkedOrder.rows_sorted, Orders.cmp_by_total, Orders.sorted_by}
use Rattle.lra_canonical.proofs.order.order_marked.Goals as goal

pub returns-clause-sorted : goal.returns-clause-sorted
returns-clause-sorted c = rows_sorted c.args.order c.sort_by.new.self.items
    (sorted_by (marked_cmp c.args.order) (on_total (λ (m : Marked). m.row) (cmp_by_total c.args.order)) _ c.in_ok-sort_by.ensures.sorted
    (λ a r q k. search rules))
