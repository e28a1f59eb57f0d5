-- Goals of `nothing`: the one row -1 >= 0, which holds at no point.
use Rattle.std.proofs.Common.{ap, sym, ◌∙◌, length, suc}
use Rattle.lra_descriptions.proofs.Crates.{lra_linear_spec.Products.negated_length, lra_linear_spec.UnitRows.unit_length}
use Rattle.lra_descriptions.proofs.lists.nothing.Goals as goal

pub push-requires : goal.push-requires
push-requires c = ap length c.in_ok-negate.ensures ∙ negated_length c.in_ok-positivity.positivity ∙ ap length c.in_ok-positivity.ensures ∙ unit_length c.args.n 0 ∙ ap suc (sym c.new-list.ensures.dims)
