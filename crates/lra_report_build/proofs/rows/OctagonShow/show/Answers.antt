-- Goals of `OctagonShow::show`.
use Rattle.lra_report_build.specs.Crates.lra_options.declared.options.Domain.TheVariants.{Oct}
use Rattle.lra_octagon.specs.Abstraction.{octagon_abstraction}
use Rattle.lra_report_build.proofs.{OctShown.octagons_are_shown, RowsSpelled.told, RowsSpelled.spelled}
use Rattle.lra_report_build.proofs.rows.OctagonShow.show.Goals as goal

pub returns-clause-told : goal.returns-clause-told
returns-clause-told c =
    told octagon_abstraction Oct octagons_are_shown c.args.self.now c.parts_by_rows.result c.parts_by_rows.ensures.shown c.parts_by_rows.ensures.mean

pub returns-clause-spelled : goal.returns-clause-spelled
returns-clause-spelled c = spelled octagon_abstraction Oct octagons_are_shown c.args.self.now c.parts_by_rows.result c.parts_by_rows.ensures.shown
    c.parts_by_rows.ensures.in_range
