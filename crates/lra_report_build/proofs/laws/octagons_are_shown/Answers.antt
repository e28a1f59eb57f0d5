-- Goals of `octagons_are_shown`: octagons are shown by their rows, which hold at each of their stores.
use Rattle.lra_report_build.proofs.OctShown as law
use Rattle.lra_report_build.proofs.laws.octagons_are_shown.Goals as goal

pub returns : goal.returns
returns c = law.octagons_are_shown
