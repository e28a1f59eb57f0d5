-- Goals of `PowerSet::change_each`: each part is changed; those that became empty are left out, and the others are
-- reduced.
use Rattle.std.proofs.{Common.◌≡◌, Common.[], Common.refl, Common.arith, lemmas.Grind.common_steps}
use Rattle.lra_domain.specs.Actions.{dims_after}
use Rattle.lra_powerset.specs.Changes.{borrowed_action}
use Rattle.lra_powerset.proofs.{AnswerLemmas.alike, SetLemmas.appended_fit, SetLemmas.change_fits, SetLemmas.change_meets, SetLemmas.dims_small, SetLemmas.settled_few, SetLemmas.settled_fit}
use Rattle.lra_powerset.proofs.set.PowerSet.change_each.Goals as goal

pub append_changed-requires : goal.append_changed-requires
append_changed-requires g c =
    let same : c.args.self.now.dims ≡ c.self.inside.dims = rw (← c.self.view_is) refl in (
      c.self.inside.dims,
      alike g.D.Domain.abstraction c.self.inside.dims c.self.inside.dims c.self.inside.parts.items c.as_slice.result.now refl
          c.as_slice.ensures.value c.self.invariant.3,
      change_fits c.args.change.now c.args.self.now.dims c.self.inside.dims same c.requires,
    )

pub collapse-requires-clause-fit : goal.collapse-requires-clause-fit
collapse-requires-clause-fit g c =
    let none : c.new-changed.result.items ≡ [] = grind (arith, common_steps) in
    let told = rw c.as_slice.ensures.value at c.in_ok-one.ensures in (
      dims_after (borrowed_action c.args.change.now) c.self.inside.dims,
      appended_fit g.D.Domain.abstraction (borrowed_action c.args.change.now) c.self.inside.dims c.self.inside.parts.items c.in_ok-one.one
          c.new-changed.result.items c.append_changed.new.all.items none c.self.invariant.3 told,
    )

pub invariant_of-self : goal.invariant_of-self
invariant_of-self g c =
    let none : c.new-changed.result.items ≡ [] = grind (arith, common_steps) in
    let told = rw c.as_slice.ensures.value at c.in_ok-one.ensures in
    let same : c.args.self.now.dims ≡ c.self.inside.dims = rw (← c.self.view_is) refl in
    let fit = appended_fit g.D.Domain.abstraction (borrowed_action c.args.change.now) c.self.inside.dims c.self.inside.parts.items
    c.in_ok-one.one c.new-changed.result.items c.append_changed.new.all.items none c.self.invariant.3 told in (
      rw c.dims_behind-self-inside.ensures (dims_small c.args.change.now c.self.inside.dims
          (change_fits c.args.change.now c.args.self.now.dims c.self.inside.dims same c.requires) c.self.invariant.0),
      c.self.invariant.1,
      settled_few g.D.Domain.abstraction (dims_after (borrowed_action c.args.change.now) c.self.inside.dims) c.self.inside.cap
          c.append_changed.new.all.items c.in_ok-settled.settled.items c.in_ok-settled.two fit
          (λ k. c.in_ok-settled.ensures k),
      rw c.dims_behind-self-inside.ensures (settled_fit g.D.Domain.abstraction (dims_after (borrowed_action c.args.change.now) c.self.inside.dims)
          c.self.inside.cap c.append_changed.new.all.items c.in_ok-settled.settled.items c.in_ok-settled.two fit
          (λ k. c.in_ok-settled.ensures k)),
    )

pub returns-clause-meets : goal.returns-clause-meets
returns-clause-meets g c =
    let none : c.new-changed.result.items ≡ [] = grind (arith, common_steps) in
    let told = rw c.as_slice.ensures.value at c.in_ok-one.ensures in
    rw (← c.self.view_is) (rw c.worse.ensures.is (change_meets g.D.Domain.abstraction g.met.D.Domain.laws g.met.D.BaseDomain.base_laws
    (borrowed_action c.args.change.now)
    (record { dims = c.self.inside.dims; cap = c.self.inside.cap; parts = c.self.inside.parts.items })
    (record { dims = c.dims_behind-self-inside.result; cap = c.self.inside.cap; parts = c.in_ok-settled.settled.items })
    c.in_ok-one.one c.in_ok-settled.two c.new-changed.result.items c.append_changed.new.all.items none
    c.dims_behind-self-inside.ensures refl c.self.invariant.2 c.self.invariant.3 told (λ k. c.in_ok-settled.ensures k)))

pub returns-clause-capped : goal.returns-clause-capped
returns-clause-capped g c =
    let none : c.new-changed.result.items ≡ [] = grind (arith, common_steps) in
    let told = rw c.as_slice.ensures.value at c.in_ok-one.ensures in
    let fit = appended_fit g.D.Domain.abstraction (borrowed_action c.args.change.now) c.self.inside.dims c.self.inside.parts.items
    c.in_ok-one.one c.new-changed.result.items c.append_changed.new.all.items none c.self.invariant.3 told in
    settled_few g.D.Domain.abstraction (dims_after (borrowed_action c.args.change.now) c.self.inside.dims) c.self.inside.cap
    c.append_changed.new.all.items c.in_ok-settled.settled.items c.in_ok-settled.two fit (λ k. c.in_ok-settled.ensures k)
