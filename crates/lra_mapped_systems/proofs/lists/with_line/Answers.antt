-- Goals of `with_line`: the generators, then a line along a dimension.
use Rattle.std.proofs.Common.{◌∙◌, ap, length, suc, sym}
use Rattle.lra_mapped_systems.specs.Crates.{lra_linear_spec.OperationStrain.unit_row, lra_linear_spec.declared.GenKind.GenKind}
use Rattle.lra_mapped_systems.proofs.Crates.lra_linear_spec.UnitRows.{unit_length}
use Rattle.lra_systems.specs.LinearSystems.{LinearSystem}
use Rattle.lra_mapped_systems.proofs.ListLemmas.{line_added, line_fits, unit_level, unit_seen}
use Rattle.lra_mapped_systems.proofs.lists.with_line.Goals as goal

pub push-requires : goal.push-requires
push-requires c =
    ap length (unit_seen c.args.list.now.dims c.dims-2.result c.args.x c.in_ok-row.row c.in_ok-row.ensures
    c.dims-2.ensures) ∙ unit_length c.args.list.now.dims (suc c.args.x) ∙
    ap (λ (l : LinearSystem GenKind). suc l.dims) (sym c.in_ok-all.ensures)

pub returns-clause-generators : goal.returns-clause-generators
returns-clause-generators c =
    line_added c.args.list.now c.in_ok-all.all c.push.new.self c.in_ok-row.row
    (unit_row c.args.list.now.dims (suc c.args.x)) c.in_ok-all.ensures c.in_ok-push.ensures.rows
    c.in_ok-push.ensures.kinds (unit_seen c.args.list.now.dims c.dims-2.result c.args.x c.in_ok-row.row
    c.in_ok-row.ensures c.dims-2.ensures) (ap length (sym c.kinds-kinds.ensures.kinds) ∙ c.kinds-kinds.ensures.len)

pub returns-clause-kinds : goal.returns-clause-kinds
returns-clause-kinds c =
    line_fits c.args.list.now c.in_ok-all.all c.push.new.self c.in_ok-row.row
    (unit_row c.args.list.now.dims (suc c.args.x)) c.in_ok-all.ensures c.in_ok-push.ensures.rows
    c.in_ok-push.ensures.kinds (unit_seen c.args.list.now.dims c.dims-2.result c.args.x c.in_ok-row.row
    c.in_ok-row.ensures c.dims-2.ensures) (ap length (sym c.kinds-kinds.ensures.kinds) ∙ c.kinds-kinds.ensures.len)
    c.requires.kinds (unit_level c.args.list.now.dims c.args.x)
