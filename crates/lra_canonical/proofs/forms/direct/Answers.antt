-- Goals of `direct`: the row or its negative, whichever is positive at its pivot; none of a row of zeros.
use Rattle.std.proofs.{Common.FitsSigned, lemmas.Int.to_z-of_z, lemmas.Int.fits_signed_from_abs}
use Rattle.std.specs.Int.{w128}
use Rattle.lra_canonical.proofs.EchelonSteps.{directed_zero, directed_negative}
use Rattle.lra_canonical.proofs.forms.direct.Goals as goal

pub returns-then-here-eq0 : goal.returns-then-here-eq0
returns-then-here-eq0 c =
    let fx : FitsSigned w128 c.get-here.result = fits_signed_from_abs w128 c.get-here.result c.get-here.ensures.in_range in
    directed_zero c.args.row c.pivot.result c.get-here.result c.pivot.ensures.pivot c.get-here.ensures.entry fx c.if-here-eq0.true

pub returns : goal.returns
returns c =
    let fx : FitsSigned w128 c.get-here.result = fits_signed_from_abs w128 c.get-here.result c.get-here.ensures.in_range in
    let below = simp to_z-of_z at c.if-here-gt0.false in
    directed_negative c.args.row c.in_ok-negative.negative c.pivot.result c.get-here.result c.pivot.ensures.pivot c.get-here.ensures.entry c.if-here-eq0.false below c.in_ok-negative.ensures
