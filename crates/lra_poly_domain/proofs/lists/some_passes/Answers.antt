-- Goals of `some_passes`: whether the product of one of the constraints with one of the generators does.
use Rattle.std.proofs.Common.{ap, length, sym, ◌∙◌}
use Rattle.std.specs.List.{list_any}
use Rattle.lra_linear_spec.specs.Kinds.{is_equality}
use Rattle.lra_poly_domain.specs.Crates.lra_systems.LinearSystems.{generators}
use Rattle.lra_poly_domain.specs.Growth.{row_passes}
use Rattle.lra_poly_domain.proofs.ListLemmas.{any_given}
use Rattle.lra_poly_domain.proofs.lists.some_passes.Goals as goal

pub returns : goal.returns
returns c =
    c.some_row_passes.ensures ∙ ap (list_any (row_passes (generators c.args.list.now))) c.rows.ensures.rows ∙
    any_given is_equality (row_passes (generators c.args.list.now)) c.args.given.now.rows c.args.given.now.kinds (ap length (sym c.kinds-kinds.ensures.kinds) ∙ c.kinds-kinds.ensures.len)
