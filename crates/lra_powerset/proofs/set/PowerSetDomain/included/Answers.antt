-- Goals of `PowerSetDomain::included`: yes if each part lies in some part of the other.
use Rattle.std.proofs.Common.{◌≡◌, refl, sym, ◌∙◌}
use Rattle.lra_domain.specs.declared.Included.TheVariants.{Yes}
use Rattle.lra_powerset.specs.Laws.{fits_formed}
use Rattle.lra_powerset.proofs.{AnswerLemmas.alike, HeadSteps.told_lists, SetLemmas.inside_stores, SetLemmas.others_fit}
use Rattle.lra_powerset.proofs.set.PowerSetDomain.included.Goals as goal

pub all_lie_in-requires : goal.all_lie_in-requires
all_lie_in-requires g c =
    let own : c.self.inside.dims ≡ c.args.self.now.dims = rw (← c.self.view_is) refl in
    let others : c.other.inside.dims ≡ c.args.other.now.dims = rw (← c.other.view_is) refl in (
      c.self.inside.dims,
      alike g.D.Domain.abstraction c.self.inside.dims c.self.inside.dims c.self.inside.parts.items c.as_slice.result.now refl
          c.as_slice.ensures.value c.self.invariant.3,
      alike g.D.Domain.abstraction c.other.inside.dims c.self.inside.dims c.other.inside.parts.items c.as_slice-2.result.now
          (others ∙ sym c.requires ∙ sym own) c.as_slice-2.ensures.value c.other.invariant.3,
    )

pub returns-clause-stores : goal.returns-clause-stores
returns-clause-stores g c =
    let m = g.D.Domain.abstraction in
    let own : c.self.inside.parts.items ≡ c.args.self.now.parts = rw (← c.self.view_is) refl in
    let others : c.other.inside.parts.items ≡ c.args.other.now.parts = rw (← c.other.view_is) refl in
    λ is. inside_stores m g.met.D.Domain.laws g.met.D.BaseDomain.base_laws c.args.self.now c.args.other.now
    (fits_formed m c.self.inside.dims c.args.self.now.parts (others_fit m c.self.inside.dims c.self.inside.dims
    c.self.inside.parts.items c.args.self.now.parts refl own c.self.invariant.3))
    (fits_formed m c.other.inside.dims c.args.other.now.parts (others_fit m c.other.inside.dims c.other.inside.dims
    c.other.inside.parts.items c.args.other.now.parts refl others c.other.invariant.3)) c.requires
    (told_lists m c.as_slice.result.now c.args.self.now.parts c.as_slice-2.result.now
    c.args.other.now.parts c.all_lie_in.result Yes (c.as_slice.ensures.value ∙ own) (c.as_slice-2.ensures.value ∙ others) is
    c.all_lie_in.ensures)
