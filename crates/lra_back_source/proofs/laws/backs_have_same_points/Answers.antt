-- Goals of `backs_have_same_points`: the law.
use Rattle.lra_back_source.proofs.Showing.{backs_same_points}
use Rattle.lra_back_source.proofs.laws.backs_have_same_points.Goals as goal

pub returns : goal.returns
returns c = backs_same_points
