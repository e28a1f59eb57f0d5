-- Goals of `start_and_grow`: the parts become one, which grows by the other; nothing if a join of parts or its
-- growth exceeds a limit.
use Rattle.std.proofs.Common.{inl, inr, subst, sym, ◌∙◌}
use Rattle.lra_domain.specs.declared.Exactness.TheVariants.{Exact}
use Rattle.lra_powerset.specs.Laws.{fits_formed}
use Rattle.lra_powerset.proofs.{AnswerLemmas.fits_dims, GrowthLemmas.head_of_some, GrowthLemmas.stays_as, GrowthLemmas.grown_as}
use Rattle.lra_powerset.proofs.growth.start_and_grow.Goals as goal

pub merge_exactly-requires-clause-alike : goal.merge_exactly-requires-clause-alike
merge_exactly-requires-clause-alike g c =
    (c.args.given.now.dims, fits_dims g.D.Domain.abstraction c.args.given.now.dims c.args.parts.now c.requires.fit)

pub merge_exactly-requires-clause-formed : goal.merge_exactly-requires-clause-formed
merge_exactly-requires-clause-formed g c =
    fits_formed g.D.Domain.abstraction c.args.given.now.dims c.args.parts.now c.requires.fit

pub start-requires : goal.start-requires
start-requires g c = sym (c.in_ok-merge_exactly.ensures.dims c.in-Some.whole c.in-Some.is c.args.given.now.dims
    (fits_dims g.D.Domain.abstraction c.args.given.now.dims c.args.parts.now c.requires.fit))

pub grow-requires : goal.grow-requires
grow-requires g c = c.in_ok-head-in-Some.ensures.dims
    ∙ c.in_ok-merge_exactly.ensures.dims c.in-Some.whole c.in-Some.is c.args.given.now.dims
    (fits_dims g.D.Domain.abstraction c.args.given.now.dims c.args.parts.now c.requires.fit) ∙ sym c.requires.by.0

pub returns-then-exact-clause-grows : goal.returns-then-exact-clause-grows
returns-then-exact-clause-grows g c =
    let m = g.D.Domain.abstraction in
    let merged = c.in_ok-merge_exactly.ensures.merges in
    let starts = c.in_ok-head-in-Some.ensures.starts in
    let grown = c.in_ok-grown-in-Some.ensures in
    elim (c.is_exact-exact.ensures.exact c.if-exact.true) [
      | inl stable ↦ stays_as m g.met.D.Domain.laws g.met.D.BaseDomain.base_laws c.args.given.now c.args.parts.now c.in-Some.whole
          c.args.by.now c.args.mode c.in_ok-head-in-Some.head c.grow.new.head c.in_ok-merge_exactly.field-0
          (fits_formed m c.args.given.now.dims c.args.parts.now c.requires.fit) c.requires.by.1 c.in-Some.is
          merged starts (grown.stable stable) (grown.stays stable)
      | inr exact ↦ grown_as m g.met.D.Domain.laws g.met.D.BaseDomain.base_laws c.args.given.now c.args.parts.now c.in-Some.whole
          c.args.by.now c.args.mode c.in_ok-head-in-Some.head c.grow.new.head c.in_ok-merge_exactly.field-0
          (fits_formed m c.args.given.now.dims c.args.parts.now c.requires.fit) c.requires.by.1 c.in-Some.is
          merged starts (grown.grew Exact exact)
    ]

pub returns-then-exact-clause-fits : goal.returns-then-exact-clause-fits
returns-then-exact-clause-fits g c = λ h e. head_of_some g.D.Domain.abstraction c.grow.new.head h c.args.given.now.dims
    (c.grow.ensures.dims ∙ c.in_ok-head-in-Some.ensures.dims
    ∙ c.in_ok-merge_exactly.ensures.dims c.in-Some.whole c.in-Some.is c.args.given.now.dims
    (fits_dims g.D.Domain.abstraction c.args.given.now.dims c.args.parts.now c.requires.fit))
    c.in_ok-grown-in-Some.ensures.fits
    (elim (c.is_exact-exact.ensures.exact c.if-exact.true) [
      | inl stable ↦ subst g.D.Domain.abstraction.head_well_formed (sym (c.in_ok-grown-in-Some.ensures.stable stable))
          c.in_ok-head-in-Some.ensures.starts.formed
      | inr exact ↦ (c.in_ok-grown-in-Some.ensures.grew Exact exact).formed
    ]) e
