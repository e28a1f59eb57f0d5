-- Goals of `BoxesShow::show`.
use Rattle.lra_report_build.specs.Crates.{lra_box.Abstraction.box_abstraction, lra_options.declared.options.Domain.TheVariants.Box}
use Rattle.lra_report_build.proofs.{BoxShown.boxes_are_shown, RowsSpelled.told, RowsSpelled.spelled}
use Rattle.lra_report_build.proofs.rows.BoxesShow.show.Goals as goal

pub returns-clause-told : goal.returns-clause-told
returns-clause-told c =
    told box_abstraction Box boxes_are_shown c.args.self.now c.parts_by_rows.result c.parts_by_rows.ensures.shown c.parts_by_rows.ensures.mean

pub returns-clause-spelled : goal.returns-clause-spelled
returns-clause-spelled c = spelled box_abstraction Box boxes_are_shown c.args.self.now c.parts_by_rows.result c.parts_by_rows.ensures.shown
    c.parts_by_rows.ensures.in_range
