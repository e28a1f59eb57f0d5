-- Goals of `row_passes`: whether the product of the row with one of the generators does.
use Rattle.std.proofs.Common.{ap, length, sym, ◌∙◌}
use Rattle.std.specs.List.{list_any}
use Rattle.lra_linear_spec.specs.Kinds.{is_line}
use Rattle.lra_poly_domain.specs.Growth.{product_passes}
use Rattle.lra_poly_domain.proofs.ListLemmas.{any_given}
use Rattle.lra_poly_domain.proofs.lists.row_passes.Goals as goal

pub returns : goal.returns
returns c =
    c.passes_with_some.ensures ∙ ap (list_any (product_passes c.args.row.now)) c.rows.ensures.rows ∙
    any_given is_line (product_passes c.args.row.now) c.args.list.now.rows c.args.list.now.kinds (ap length (sym c.kinds-kinds.ensures.kinds) ∙ c.kinds-kinds.ensures.len)
