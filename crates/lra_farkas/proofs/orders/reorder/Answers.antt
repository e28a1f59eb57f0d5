-- Goals of `reorder`: the same rows in another order.
use Rattle.std.proofs.{Common.◌∙◌, lemmas.Result.IfOk-weaker}
use Rattle.lra_systems.specs.LinearSystems.{constraints}
use Rattle.lra_farkas.proofs.KeyedRows.{sorted_widths, sorted_rows}
use Rattle.lra_farkas.proofs.orders.reorder.Goals as goal

pub unkey_rows-requires-clause-widths : goal.unkey_rows-requires-clause-widths
unkey_rows-requires-clause-widths c =
    sorted_widths c.args.rows.now.dims c.dims.result c.in_ok-keyed.keyed.items c.sort_by_key.new.self.items c.as_slice.result.now c.dims.ensures
    c.as_slice.ensures.value c.in_ok-sort_by_key.ensures.permutation c.in_ok-keyed.ensures.widths

pub returns-clause-dims : goal.returns-clause-dims
returns-clause-dims c = IfOk-weaker c.unkey_rows.result _ _ (λ reordered is. is ∙ c.dims.ensures) c.unkey_rows.ensures.dims

pub returns-clause-same : goal.returns-clause-same
returns-clause-same c =
    IfOk-weaker c.unkey_rows.result _ _ (λ reordered. sorted_rows (constraints c.args.rows.now) (constraints reordered) c.in_ok-keyed.keyed.items c.sort_by_key.new.self.items
    c.as_slice.result.now c.in_ok-keyed.ensures.rows c.in_ok-sort_by_key.ensures.permutation c.as_slice.ensures.value) c.unkey_rows.ensures.rows
