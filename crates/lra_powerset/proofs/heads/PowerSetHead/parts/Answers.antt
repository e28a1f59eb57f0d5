-- Goals of `PowerSetHead::parts`: the parts of its value.
use Rattle.std.proofs.Common.{◌≡◌, refl, ◌∙◌}
use Rattle.lra_powerset.specs.Content.{many, one}
use Rattle.lra_powerset.proofs.ValueLemmas.{many_fits, many_values, one_fits, one_values}
use Rattle.lra_powerset.proofs.heads.PowerSetHead.parts.Goals as goal

pub returns-in_ok-parts-in-Many-clause-values : goal.returns-in_ok-parts-in-Many-clause-values
returns-in_ok-parts-in-Many-clause-values g c =
    let form : c.args.self.now.form ≡ many c.in-Many.held.items = rw (← c.self.view_is) (rw c.in-Many.is refl) in
    many_values g.D.Domain.abstraction g.met.D.BaseDomain.base_laws c.args.self.now c.in-Many.held.items
    c.in_ok-parts-in-Many.parts.items form (c.in_ok-parts-in-Many.ensures ∙ c.as_slice.ensures.value)
    (many_fits g.D.Domain.abstraction c.args.self.now.dims c.args.self.now.cap c.args.self.now.form c.in-Many.held.items
    c.in_ok-parts-in-Many.parts.items form (c.in_ok-parts-in-Many.ensures ∙ c.as_slice.ensures.value)
    (rw c.self.view_is at c.self.invariant).form)

pub returns-in_ok-parts-in-One-clause-values : goal.returns-in_ok-parts-in-One-clause-values
returns-in_ok-parts-in-One-clause-values g c =
    let form : c.args.self.now.form ≡ one c.in-One.one = rw (← c.self.view_is) (rw c.in-One.is refl) in
    let v = c.in_ok-parts-in-One.ensures in
    one_values g.D.Domain.abstraction g.met.D.Domain.laws g.met.D.BaseDomain.base_laws c.args.self.now c.in-One.one
    c.in_ok-parts-in-One.exactness v.value c.in_ok-parts-in-One.parts.items form v.values v.parts
    (one_fits g.D.Domain.abstraction c.args.self.now.dims c.args.self.now.cap c.args.self.now.form c.in-One.one v.value
    c.in_ok-parts-in-One.parts.items v.values.formed form v.dims v.parts (rw c.self.view_is at c.self.invariant).some
    (rw c.self.view_is at c.self.invariant).form)
