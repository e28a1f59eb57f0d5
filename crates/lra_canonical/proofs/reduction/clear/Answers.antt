-- Goals of `clear`: the row with 0 at the line's pivot.
use Rattle.std.proofs.{Common.inl, Common.inr, Common.rules, Common.FitsSigned, lemmas.Int.to_z-of_z, lemmas.Int.fits_signed_from_abs}
use Rattle.std.specs.Int.{w128}
use Rattle.lra_canonical.proofs.Chains.{cleared_step, cleared_already}
use Rattle.lra_canonical.proofs.reduction.clear.Goals as goal

pub returns-then-here-eq0-clause-ok : goal.returns-then-here-eq0-clause-ok
returns-then-here-eq0-clause-ok c =
    let f : FitsSigned w128 c.get-here.result = fits_signed_from_abs w128 c.get-here.result c.get-here.ensures.in_range in
    inl (cleared_already c.args.line.now c.args.row c.pivot-column.result c.get-here.result c.pivot-column.ensures.pivot c.get-here.ensures.entry f c.if-here-eq0.true)

pub returns-clause-ok : goal.returns-clause-ok
returns-clause-ok c =
    let fx : FitsSigned w128 c.get-here.result = fits_signed_from_abs w128 c.get-here.result c.get-here.ensures.in_range in
    let fa : FitsSigned w128 c.get-leading.result = fits_signed_from_abs w128 c.get-leading.result c.get-leading.ensures.in_range in
    let fb : FitsSigned w128 c.opposite-factor.result = search rules in
    let h = simp to_z-of_z at c.in_ok-next.ensures.made in
    inr (cleared_step c.args.line.now c.args.row c.in_ok-next.next c.lowest_terms.new.self c.pivot-column.result c.get-here.result c.get-leading.result c.opposite-factor.result
    c.pivot-column.ensures.pivot c.get-here.ensures.entry c.get-leading.ensures.entry (simp to_z-of_z at c.opposite-factor.ensures.value) fx c.if-here-eq0.false h c.lowest_terms.ensures)
