-- Goals of `grow_one`: the head of a single part grows by the join of next's parts.
use Rattle.std.proofs.Common.{◌≡◌, sym, rules}
use Rattle.lra_domain.specs.declared.Exactness.TheVariants.{Exact}
use Rattle.lra_powerset.specs.Laws.{fits_formed}
use Rattle.lra_powerset.proofs.{AnswerLemmas.fits_dims, GrowthLemmas.grown_formed, GrowthLemmas.merged_exact, GrowthLemmas.one_exact}
use Rattle.lra_powerset.proofs.growth.grow_one.Goals as goal

pub merge-requires-clause-alike : goal.merge-requires-clause-alike
merge-requires-clause-alike g c = (
  g.D.Domain.abstraction.head_dims c.args.head.now,
  fits_dims g.D.Domain.abstraction (g.D.Domain.abstraction.head_dims c.args.head.now) c.args.next.now c.requires.next,
)

pub merge-requires-clause-formed : goal.merge-requires-clause-formed
merge-requires-clause-formed g c = fits_formed g.D.Domain.abstraction (g.D.Domain.abstraction.head_dims c.args.head.now) c.args.next.now c.requires.next

pub grow-requires : goal.grow-requires
grow-requires g c = sym (c.in_ok-joined.ensures.dims (g.D.Domain.abstraction.head_dims c.args.head.now)
    (fits_dims g.D.Domain.abstraction (g.D.Domain.abstraction.head_dims c.args.head.now) c.args.next.now c.requires.next))

pub returns-then-eq-clause-answers : goal.returns-then-eq-clause-answers
returns-then-eq-clause-answers g c =
    let exact : c.in_ok-joined.exactness ≡ Exact = search rules in
    one_exact g.D.Domain.abstraction g.met.D.Domain.laws g.met.D.BaseDomain.base_laws c.args.head.now c.grow.new.head c.in_ok-joined.joined
    c.args.next.now c.args.mode c.in_ok-grown.grown
    (merged_exact g.D.Domain.abstraction c.args.next.now c.in_ok-joined.exactness c.in_ok-joined.joined
    c.in_ok-joined.ensures.merged exact)
    c.in_ok-grown.ensures.stable c.in_ok-grown.ensures.stays c.in_ok-grown.ensures.grew c.in_ok-grown.ensures.lower
    c.requires.widens

pub stays_with_all-requires-clause-alike : goal.stays_with_all-requires-clause-alike
stays_with_all-requires-clause-alike g c =
    fits_dims g.D.Domain.abstraction (g.D.Domain.abstraction.head_dims c.args.head.now) c.args.next.now c.requires.next

pub returns-then-eq-clause-formed : goal.returns-then-eq-clause-formed
returns-then-eq-clause-formed g c =
    grown_formed g.D.Domain.abstraction c.args.head.now c.grow.new.head c.in_ok-joined.joined c.args.mode c.in_ok-grown.grown
    c.requires.held c.in_ok-grown.ensures.stable c.in_ok-grown.ensures.grew
