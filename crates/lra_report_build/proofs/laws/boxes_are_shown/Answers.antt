-- Goals of `boxes_are_shown`: boxes are shown by their rows, which hold at each of their stores.
use Rattle.lra_report_build.proofs.BoxShown as law
use Rattle.lra_report_build.proofs.laws.boxes_are_shown.Goals as goal

pub returns : goal.returns
returns c = law.boxes_are_shown
