-- Goals of `PowerSetHead::widen_many`: its parts become one, which grows, unless next lies in them.
use Rattle.lra_powerset.proofs.{AnswerLemmas.alike, HeadLemmas.many_alike}
use Rattle.lra_powerset.proofs.heads.PowerSetHead.widen_many.Goals as goal

pub all_lie_in-requires : goal.all_lie_in-requires
all_lie_in-requires g c = (
  c.args.self.now.dims,
  alike g.D.Domain.abstraction c.args.next.now.dims c.args.self.now.dims c.args.next.now.parts c.items.result.now c.requires.dims
      c.items.ensures.parts c.items.ensures.fit,
  many_alike g.D.Domain.abstraction c.args.self.now c.held_parts.result.now c.held_parts.ensures.form c.held_parts.ensures.fits,
)
