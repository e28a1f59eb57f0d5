-- Goals of `are_same`: whether they have the same constraints in the same order.
use Rattle.lra_systems.proofs.SameLists.{same_kinds_decide, same_rows_decide}
use Rattle.lra_systems.proofs.sameness.are_same.Goals as goal

pub returns-then-are_same_rows : goal.returns-then-are_same_rows
returns-then-are_same_rows c =
    same_kinds_decide c.args.one.now c.args.two.now c.rows.result.now c.rows-2.result.now c.kinds-kinds.result.now c.kinds-others.result.now c.are_same_rows.result c.are_same_kinds.result
    c.rows.ensures.rows c.rows-2.ensures.rows c.kinds-kinds.ensures.kinds c.kinds-others.ensures.kinds c.kinds-kinds.ensures.len c.kinds-others.ensures.len c.are_same_rows.ensures
    c.are_same_kinds.ensures
    c.if-are_same_rows.true

pub returns-else-are_same_rows : goal.returns-else-are_same_rows
returns-else-are_same_rows c =
    same_rows_decide c.args.one.now c.args.two.now c.rows.result.now c.rows-2.result.now c.kinds-kinds.result.now c.kinds-others.result.now c.are_same_rows.result
    c.rows.ensures.rows c.rows-2.ensures.rows c.kinds-kinds.ensures.kinds c.kinds-others.ensures.kinds c.kinds-kinds.ensures.len c.kinds-others.ensures.len c.are_same_rows.ensures
    c.if-are_same_rows.false
