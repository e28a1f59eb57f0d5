-- Goals of `PowerSet::reduce`: the parts are reduced.
use Rattle.std.proofs.Common.{◌≡◌, refl}
use Rattle.lra_powerset.proofs.{AnswerLemmas.fits_dims, ReduceSteps.still_fits, ReduceSteps.still_covers, ReduceSteps.reduces_exactly, ReduceSteps.reduces_flagged, ReduceSteps.same_items}
use Rattle.lra_powerset.proofs.set.PowerSet.reduce.Goals as goal

pub reduce-requires : goal.reduce-requires
reduce-requires g c = (c.self.inside.dims, fits_dims g.D.Domain.abstraction c.self.inside.dims c.self.inside.parts.items c.self.invariant.3)

pub invariant_of-self : goal.invariant_of-self
invariant_of-self g c =
    let fit = still_fits g.D.Domain.abstraction c.self.inside.parts.items c.reduce.new.parts.items c.self.inside.dims c.self.inside.cap
    c.reduce.result c.reduce.ensures.reduced (same_items (λ x. x.items) _ _ c.reduce.result c.reduce.ensures.err)
    c.self.invariant.2 c.self.invariant.3 in
    (c.self.invariant.0, c.self.invariant.1, fit.0, fit.1)

pub returns-clause-covers : goal.returns-clause-covers
returns-clause-covers g c =
    let own : c.self.inside.parts.items ≡ c.args.self.now.parts = rw (← c.self.view_is) refl in
    still_covers g.D.Domain.abstraction c.self.inside.parts.items c.reduce.new.parts.items g.met.D.BaseDomain.base_laws c.args.self.now.parts
    c.reduce.result own c.reduce.ensures.reduced

pub returns-clause-exact : goal.returns-clause-exact
returns-clause-exact g c =
    let own : c.self.inside.parts.items ≡ c.args.self.now.parts = rw (← c.self.view_is) refl in
    reduces_exactly g.D.Domain.abstraction c.self.inside.parts.items c.reduce.new.parts.items c.args.self.now.parts
    c.reduce.result own c.reduce.ensures.reduced

pub returns-clause-flagged : goal.returns-clause-flagged
returns-clause-flagged g c =
    let own : c.self.inside.parts.items ≡ c.args.self.now.parts = rw (← c.self.view_is) refl in
    reduces_flagged g.D.Domain.abstraction c.self.inside.parts.items c.reduce.new.parts.items c.args.self.now.parts
    c.reduce.result own c.reduce.ensures.reduced
