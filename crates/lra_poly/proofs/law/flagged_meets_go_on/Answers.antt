-- Goals of `flagged_meets_go_on`: does nothing.
use Rattle.lra_poly.proofs.FlaggedMeets.{flagged_onward}
use Rattle.lra_poly.proofs.law.flagged_meets_go_on.Goals as goal

pub returns : goal.returns
returns c = flagged_onward
