-- Goals of `become_one`: the parts, not one, become one, which grows by next's; nothing if a join of parts or
-- its growth exceeds a limit.
use Rattle.std.proofs.{Common.◌≡◌, Common.◌<◌, Common.[], Common.length, Common.sym, Common.◌∙◌, Common.arith, lemmas.Grind.common_steps, lemmas.Result.IfOk-weaker}
use Rattle.lra_powerset.specs.Laws.{fits_formed}
use Rattle.lra_powerset.proofs.{AnswerLemmas.fits_dims, GrowthLemmas.head_of_some, GrowthLemmas.merges_some, GrowthLemmas.one_first, GrowthLemmas.one_more}
use Rattle.lra_powerset.proofs.growth.become_one.Goals as goal

pub merge_exactly-requires-clause-alike : goal.merge_exactly-requires-clause-alike
merge_exactly-requires-clause-alike g c =
    (c.args.given.now.dims, fits_dims g.D.Domain.abstraction c.args.given.now.dims c.args.next.now c.requires.next)

pub merge_exactly-requires-clause-formed : goal.merge_exactly-requires-clause-formed
merge_exactly-requires-clause-formed g c =
    fits_formed g.D.Domain.abstraction c.args.given.now.dims c.args.next.now c.requires.next

pub start-requires : goal.start-requires
start-requires g c = sym (c.in_ok-merge_exactly.ensures.dims c.in-Some.by c.in-Some.is c.args.given.now.dims
    (fits_dims g.D.Domain.abstraction c.args.given.now.dims c.args.next.now c.requires.next))

pub returns-then-is_empty-clause-becomes : goal.returns-then-is_empty-clause-becomes
returns-then-is_empty-clause-becomes g c =
    let none : c.args.parts.now ≡ [] = grind (arith, common_steps) in
    one_first g.D.Domain.abstraction g.met.D.Domain.laws g.met.D.BaseDomain.base_laws c.args.given.now c.args.parts.now c.args.next.now
    c.args.mode c.in-Some.by c.in_ok-head-in-Some.head
    (fits_formed g.D.Domain.abstraction c.args.given.now.dims c.args.next.now c.requires.next) none
    (merges_some g.D.Domain.abstraction c.args.next.now c.in_ok-merge_exactly.field-0 c.in-Some.by c.in-Some.is
    c.in_ok-merge_exactly.ensures.merges) c.in_ok-head-in-Some.ensures.starts

pub returns-then-is_empty-clause-fits : goal.returns-then-is_empty-clause-fits
returns-then-is_empty-clause-fits g c = λ h e. head_of_some g.D.Domain.abstraction c.in_ok-head-in-Some.head h
    c.args.given.now.dims (c.in_ok-head-in-Some.ensures.dims
    ∙ c.in_ok-merge_exactly.ensures.dims c.in-Some.by c.in-Some.is c.args.given.now.dims
    (fits_dims g.D.Domain.abstraction c.args.given.now.dims c.args.next.now c.requires.next))
    c.in_ok-head-in-Some.ensures.fits c.in_ok-head-in-Some.ensures.starts.formed e

pub start_and_grow-requires-clause-by : goal.start_and_grow-requires-clause-by
start_and_grow-requires-clause-by g c = (
  c.in_ok-merge_exactly.ensures.dims c.in-Some.by c.in-Some.is c.args.given.now.dims
      (fits_dims g.D.Domain.abstraction c.args.given.now.dims c.args.next.now c.requires.next),
  rw c.in-Some.is at c.in_ok-merge_exactly.ensures.formed,
)

pub returns-else-is_empty-clause-becomes : goal.returns-else-is_empty-clause-becomes
returns-else-is_empty-clause-becomes g c =
    let some : 0 < length c.args.parts.now = grind (arith, common_steps) in
    IfOk-weaker c.start_and_grow.result _ _ (λ head grows. one_more g.D.Domain.abstraction g.met.D.Domain.laws g.met.D.BaseDomain.base_laws c.args.given.now c.args.parts.now c.args.next.now
    c.args.mode c.in-Some.by head
    (fits_formed g.D.Domain.abstraction c.args.given.now.dims c.args.next.now c.requires.next) some
    (merges_some g.D.Domain.abstraction c.args.next.now c.in_ok-merge_exactly.field-0 c.in-Some.by c.in-Some.is
    c.in_ok-merge_exactly.ensures.merges) grows) c.start_and_grow.ensures.grows
