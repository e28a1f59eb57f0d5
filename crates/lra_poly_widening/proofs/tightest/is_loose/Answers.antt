-- Goals of `is_loose`: whether one of the constraints is tighter than this one.
use Rattle.std.proofs.Common.{ap, length, sym, ◌∙◌}
use Rattle.lra_poly_widening.proofs.TightestLemmas.{loose_by, loose_never}
use Rattle.lra_poly_widening.proofs.tightest.is_loose.Goals as goal

pub returns-in-Eq : goal.returns-in-Eq
returns-in-Eq c = loose_never c.args.list.now c.args.row.now c.args.kind (ap length (sym c.kinds-kinds.ensures.kinds) ∙ c.kinds-kinds.ensures.len) c.in-Eq.is

pub returns-in-Ge : goal.returns-in-Ge
returns-in-Ge c =
    loose_by c.args.list.now c.args.row.now c.args.kind c.rows.result.now c.has_lower.result (ap length (sym c.kinds-kinds.ensures.kinds) ∙ c.kinds-kinds.ensures.len) c.in-Ge.is
    c.rows.ensures.rows c.has_lower.ensures
