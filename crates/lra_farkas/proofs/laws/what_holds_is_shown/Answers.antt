-- Goals of `what_holds_is_shown`: what holds has multipliers.
use Rattle.lra_farkas.proofs.ShownClaims.{holds_shown, holds_at_points_shown, no_point_shown}
use Rattle.lra_farkas.proofs.laws.what_holds_is_shown.Goals as goal

pub returns-clause-everywhere : goal.returns-clause-everywhere
returns-clause-everywhere c = holds_shown

pub returns-clause-at_points : goal.returns-clause-at_points
returns-clause-at_points c = holds_at_points_shown

pub returns-clause-nowhere : goal.returns-clause-nowhere
returns-clause-nowhere c = no_point_shown
