-- Goals of `push_copy`: puts a copy of the row after the others.
use Rattle.std.proofs.Common.{refl, ap, sym, ◌∙◌, length}
use Rattle.lra_poly_widening.proofs.Crates.lra_duality.JoinedLists.{row_added}
use Rattle.lra_poly_widening.proofs.lists.push_copy.Goals as goal

pub returns-clause-rows : goal.returns-clause-rows
returns-clause-rows c = row_added c.args.list.now c.args.list.now c.push.new.self c.in_ok-copied.copied c.args.row.now c.args.kind refl c.in_ok-push.ensures.rows c.in_ok-push.ensures.kinds
    c.in_ok-copied.ensures
    (ap length (sym c.kinds-kinds.ensures.kinds) ∙ c.kinds-kinds.ensures.len)
