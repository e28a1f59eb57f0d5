-- Goals of `PowerSetDomain::grow`: in joining it becomes the set's join with next.
use Rattle.std.proofs.Common.{sym, ◌∙◌}
use Rattle.lra_powerset.proofs.{AnswerLemmas.refit, ValueLemmas.head_capped, ValueLemmas.head_rank_fits}
use Rattle.lra_powerset.proofs.set.PowerSetDomain.grow.Goals as goal

pub returns-clause-capped : goal.returns-clause-capped
returns-clause-capped g c = λ k caps. head_capped g.D.Domain.abstraction c.grow.new.self k c.dims-dims.ensures.fit
    (c.in_ok-grown.ensures.cap ∙ caps.0.0)

pub returns-clause-fits : goal.returns-clause-fits
returns-clause-fits g c = head_rank_fits g.D.Domain.abstraction c.grow.new.self c.dims-dims.ensures.fit

pub returns-clause-grew : goal.returns-clause-grew
returns-clause-grew g c = λ a e. c.in_ok-grown.ensures.grown.grew a e c.dims-before.ensures.fit
    (refit g.D.Domain.abstraction c.args.next.now.dims c.args.head.now.dims c.args.next.now.parts (sym c.requires)
    c.items-next.ensures.fit) c.dims-dims.ensures.fit
