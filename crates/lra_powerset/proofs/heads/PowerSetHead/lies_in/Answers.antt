-- Goals of `PowerSetHead::lies_in`: in joining, whether next lies in it, whose value has these parts.
use Rattle.std.proofs.Common.{◌≡◌, refl}
use Rattle.lra_powerset.specs.Content.{one}
use Rattle.lra_powerset.proofs.{AnswerLemmas.alike, AnswerLemmas.fits_dims, AnswerLemmas.refit, HeadLemmas.lies_one}
use Rattle.lra_powerset.proofs.heads.PowerSetHead.lies_in.Goals as goal

pub all_lie_in-requires : goal.all_lie_in-requires
all_lie_in-requires g c = (
  c.args.self.now.dims,
  alike g.D.Domain.abstraction c.args.next.now.dims c.args.self.now.dims c.args.next.now.parts c.items.result.now
      c.requires.dims c.items.ensures.parts c.items.ensures.fit,
  fits_dims g.D.Domain.abstraction c.args.self.now.dims c.args.parts.now c.requires.fit,
)

pub all_lie_in-requires-in-Exact : goal.all_lie_in-requires-in-Exact
all_lie_in-requires-in-Exact g c = (
  c.args.self.now.dims,
  alike g.D.Domain.abstraction c.args.next.now.dims c.args.self.now.dims c.args.next.now.parts c.items-in-Exact.result.now
      c.requires.dims c.items-in-Exact.ensures.parts c.items-in-Exact.ensures.fit,
  fits_dims g.D.Domain.abstraction c.args.self.now.dims c.args.parts.now c.requires.fit,
)

pub returns-in-Exact : goal.returns-in-Exact
returns-in-Exact g c =
    let form : c.args.self.now.form ≡ one c.in-One.field-0 = rw (← c.self.view_is) (rw c.in-One.is refl) in
    let told = rw c.items-in-Exact.ensures.parts at c.all_lie_in-in-Exact.ensures in
    lies_one g.D.Domain.abstraction g.met.D.BaseDomain.base_laws c.args.self.now c.in-One.field-0 c.args.parts.now c.args.next.now
    c.args.exactness c.all_lie_in-in-Exact.result form c.requires.dims
    (refit g.D.Domain.abstraction c.args.next.now.dims c.args.self.now.dims c.args.next.now.parts c.requires.dims
    c.items-in-Exact.ensures.fit) c.requires.values c.in-Exact.is told
