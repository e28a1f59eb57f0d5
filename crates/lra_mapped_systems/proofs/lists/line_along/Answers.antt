-- Goals of `line_along`: a line along a dimension, alone.
use Rattle.std.proofs.Common.{◌∙◌, ◌+◌, ap, length, suc, sym}
use Rattle.lra_mapped_systems.proofs.Crates.lra_linear_spec.UnitRows.{unit_length}
use Rattle.lra_mapped_systems.proofs.lists.line_along.Goals as goal

pub push-requires : goal.push-requires
push-requires c = ap length c.in_ok-along.ensures ∙ unit_length c.args.n (c.args.x + 1) ∙ ap suc (sym c.new-all.ensures.dims)
