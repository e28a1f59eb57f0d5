-- Goals of `try_at`: whether the constraint at the place is given, or what was lost as it was tried.
use Rattle.lra_poly_queries.proofs.SimplifiedRows.{told_at}
use Rattle.lra_poly_queries.proofs.context.try_at.Goals as goal

pub returns : goal.returns
returns c =
    told_at c.args.context.now.dims c.args.context.now.rows c.args.list.now c.args.kept.now c.in_ok-others.others
    c.args.place _ _ c.in_ok-told.told c.at-kind.ensures.row c.at-kind.ensures.kind c.in_ok-others.ensures.rows
    c.in_ok-told.ensures
