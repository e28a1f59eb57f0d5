-- Goals of `behind_positivity`: the constraints, after the positivity row.
use Rattle.std.proofs.Common.{◌∙◌, ap, length, suc, sym}
use Rattle.lra_duality.proofs.Crates.lra_linear_spec.UnitRows.{unit_length}
use Rattle.lra_duality.proofs.start.behind_positivity.Goals as goal

pub push-requires : goal.push-requires
push-requires c = ap length c.in_ok-positivity.ensures ∙ unit_length c.dims-n.result 0 ∙ ap suc (sym c.new-first.ensures.dims)
