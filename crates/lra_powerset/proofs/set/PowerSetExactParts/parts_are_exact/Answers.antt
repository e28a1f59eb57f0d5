-- Goals of `PowerSetExactParts::parts_are_exact`: what the rows of its parts report is all of a set.
use Rattle.std.proofs.Common.{◌≡◌, refl, ◌∙◌}
use Rattle.lra_powerset.proofs.{AnswerLemmas.alike, SetLemmas.set_tell}
use Rattle.lra_powerset.proofs.set.PowerSetExactParts.parts_are_exact.Goals as goal

pub returns : goal.returns
returns g c =
    let own : c.self.inside.dims ≡ c.args.self.now.dims = rw (← c.self.view_is) refl in
    let parts : c.self.inside.parts.items ≡ c.args.self.now.parts = rw (← c.self.view_is) refl in
    set_tell g.D.Domain.abstraction c.args.self.now c.self.inside.dims c.as_slice.result.now own (c.as_slice.ensures.value ∙ parts) c.tell_each.ensures
    (alike g.D.Domain.abstraction c.self.inside.dims c.self.inside.dims c.self.inside.parts.items c.as_slice.result.now refl c.as_slice.ensures.value c.self.invariant.3)
