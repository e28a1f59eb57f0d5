-- Goals of `PowerSetDomain::parts`.
use Rattle.std.proofs.Common.{◌≡◌, refl, ◌∙◌}
use Rattle.lra_powerset.proofs.{AnswerLemmas.alike, SetLemmas.set_hold, SetLemmas.set_rows_fit}
use Rattle.lra_powerset.proofs.set.PowerSetDomain.parts.Goals as goal

pub returns-clause-dims : goal.returns-clause-dims
returns-clause-dims g c =
    let own : c.self.inside.dims ≡ c.args.self.now.dims = rw (← c.self.view_is) refl in
    set_rows_fit g.D.Domain.abstraction c.self.inside.dims c.args.self.now.dims c.as_slice.result.now c.new-all.result.items
    c.append_rows.new.all.items own c.new-all.ensures.items c.in_ok-append_rows.ensures.rows c.in_ok-append_rows.ensures.dims
    (alike g.D.Domain.abstraction c.self.inside.dims c.self.inside.dims c.self.inside.parts.items c.as_slice.result.now refl
    c.as_slice.ensures.value c.self.invariant.3)

pub returns-clause-hold : goal.returns-clause-hold
returns-clause-hold g c =
    let parts : c.self.inside.parts.items ≡ c.args.self.now.parts = rw (← c.self.view_is) refl in
    set_hold g.D.Domain.abstraction c.args.self.now c.as_slice.result.now c.new-all.result.items c.append_rows.new.all.items
    (c.as_slice.ensures.value ∙ parts) c.new-all.ensures.items c.in_ok-append_rows.ensures.rows c.in_ok-append_rows.ensures.hold
