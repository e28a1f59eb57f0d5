-- Goals of `PowerSetHead::widen_one`: the head of its single part grows, unless next lies in it.
use Rattle.std.proofs.Common.{◌≡◌, refl, sym, ◌∙◌}
use Rattle.lra_powerset.specs.{Content.whole, Forms.form_of}
use Rattle.lra_powerset.proofs.{HeadLemmas.single_given_up, HeadLemmas.single_grown, HeadSteps.fits_whole_as}
use Rattle.lra_powerset.proofs.heads.PowerSetHead.widen_one.Goals as goal

pub invariant_of-self : goal.invariant_of-self
invariant_of-self g c =
    let own : c.self.inside.dims ≡ c.args.self.now.dims = rw (← c.self.view_is) refl in
    let later : c.self-2.inside.dims ≡ c.grow_single.new.self.dims = rw (← c.self-2.view_is) refl in
    fits_whole_as g.D.Domain.abstraction g.met.D.BaseDomain.base_laws c.self-2.inside.dims c.self.inside.dims c.self-2.inside.cap c.self-2.inside.thresholds
    (form_of c.self-2.inside.held) c.in_ok-all.all c.self.inside.cap c.self-2.invariant
    (own ∙ sym c.grow_single.ensures.dims ∙ sym later) c.in_ok-all.ensures.formed c.in_ok-all.ensures.defined c.in_ok-all.ensures.dims

pub returns-in-Some-clause-grown : goal.returns-in-Some-clause-grown
returns-in-Some-clause-grown g c =
    single_grown g.D.Domain.abstraction g.met.D.Domain.laws g.met.D.BaseDomain.base_laws c.args.self.now c.grow_single.new.self c.args.next.now c.args.mode
    c.in-Some.grown
    c.requires.widens c.requires.dims c.grow_single.ensures.dims c.grow_single.ensures.cap
    (rw c.in-Some.is at c.in_ok-grown.ensures.answers)

pub returns-in-None-clause-grown : goal.returns-in-None-clause-grown
returns-in-None-clause-grown g c =
    let own : c.self.inside.dims ≡ c.args.self.now.dims = rw (← c.self.view_is) refl in
    let dims : c.self-2.inside.dims ≡ c.grow_single.new.self.dims = rw (← c.self-2.view_is) refl in
    let cap : c.self-2.inside.cap ≡ c.grow_single.new.self.cap = rw (← c.self-2.view_is) refl in
    let given : c.self-2.inside.thresholds ≡ c.grow_single.new.self.thresholds = rw (← c.self-2.view_is) refl in
    single_given_up g.D.Domain.abstraction g.met.D.Domain.laws c.args.self.now c.grow_single.new.self
    (record {
      dims = c.self-2.inside.dims;
      cap = c.self-2.inside.cap;
      thresholds = c.self-2.inside.thresholds;
      form = whole c.in_ok-all.all;
    }) c.args.next.now c.args.mode c.self.inside.dims c.self.inside.cap c.in_ok-all.all c.requires.widens c.requires.dims
    (rw c.in-None.is at c.in_ok-grown.ensures.answers) (dims ∙ c.grow_single.ensures.dims) (cap ∙ c.grow_single.ensures.cap)
    (given ∙ c.grow_single.ensures.given) refl own c.in_ok-all.ensures.defined
