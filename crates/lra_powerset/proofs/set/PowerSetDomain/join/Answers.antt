-- Goals of `PowerSetDomain::join`: the other's parts are appended, and the list is reduced and kept within the cap.
use Rattle.std.proofs.Common.{◌≡◌, refl, ◌∙◌, arith}
use Rattle.lra_powerset.proofs.SetLemmas.{join_joins, joined_fit, joined_lists, settled_few, settled_fit}
use Rattle.lra_powerset.proofs.set.PowerSetDomain.join.Goals as goal

pub collapse-requires-clause-fit : goal.collapse-requires-clause-fit
collapse-requires-clause-fit g c =
    let own : c.self.inside.dims ≡ c.args.self.now.dims = rw (← c.self.view_is) refl in
    let others : c.other.inside.dims ≡ c.args.other.now.dims = rw (← c.other.view_is) refl in
    let fit = joined_fit g.D.Domain.abstraction c.self.inside.dims c.other.inside.dims c.args.other.now.dims
    c.self.inside.parts.items c.other.inside.parts.items c.as_slice.result.now c.as_slice-2.result.now c.in_ok-both.both.items
    (own ∙ c.requires) others c.in_ok-both.ensures c.as_slice.ensures.value c.as_slice-2.ensures.value c.self.invariant.3
    c.other.invariant.3 in
    (c.self.inside.dims, fit)

pub invariant_of-self : goal.invariant_of-self
invariant_of-self g c =
    let own : c.self.inside.dims ≡ c.args.self.now.dims = rw (← c.self.view_is) refl in
    let others : c.other.inside.dims ≡ c.args.other.now.dims = rw (← c.other.view_is) refl in
    let fit = joined_fit g.D.Domain.abstraction c.self.inside.dims c.other.inside.dims c.args.other.now.dims
    c.self.inside.parts.items c.other.inside.parts.items c.as_slice.result.now c.as_slice-2.result.now c.in_ok-both.both.items
    (own ∙ c.requires) others c.in_ok-both.ensures c.as_slice.ensures.value c.as_slice-2.ensures.value c.self.invariant.3
    c.other.invariant.3 in (
      c.self.invariant.0,
      c.self.invariant.1,
      settled_few g.D.Domain.abstraction c.self.inside.dims c.self.inside.cap c.in_ok-both.both.items
          c.in_ok-settled.settled.items c.in_ok-settled.exactness fit (λ k. c.in_ok-settled.ensures k),
      settled_fit g.D.Domain.abstraction c.self.inside.dims c.self.inside.cap c.in_ok-both.both.items
          c.in_ok-settled.settled.items c.in_ok-settled.exactness fit (λ k. c.in_ok-settled.ensures k),
    )

pub returns-clause-joins : goal.returns-clause-joins
returns-clause-joins g c =
    let own : c.self.inside.dims ≡ c.args.self.now.dims = rw (← c.self.view_is) refl in
    let others : c.other.inside.dims ≡ c.args.other.now.dims = rw (← c.other.view_is) refl in
    let fit = joined_fit g.D.Domain.abstraction c.self.inside.dims c.other.inside.dims c.args.other.now.dims
    c.self.inside.parts.items c.other.inside.parts.items c.as_slice.result.now c.as_slice-2.result.now c.in_ok-both.both.items
    (own ∙ c.requires) others c.in_ok-both.ensures c.as_slice.ensures.value c.as_slice-2.ensures.value c.self.invariant.3
    c.other.invariant.3 in
    let theirs : c.other.inside.parts.items ≡ c.args.other.now.parts = rw (← c.other.view_is) refl in
    let all = joined_lists c.as_slice.result.now c.as_slice-2.result.now c.in_ok-both.both.items c.self.inside.parts.items
    c.args.other.now.parts c.in_ok-both.ensures c.as_slice.ensures.value (c.as_slice-2.ensures.value ∙ theirs) in
    rw (← c.self.view_is) (join_joins g.D.Domain.abstraction
    (record { dims = c.self.inside.dims; cap = c.self.inside.cap; parts = c.self.inside.parts.items }) c.args.other.now
    (record { dims = c.self.inside.dims; cap = c.self.inside.cap; parts = c.in_ok-settled.settled.items })
    c.in_ok-settled.exactness c.in_ok-both.both.items (own ∙ c.requires) refl refl all fit (λ k. c.in_ok-settled.ensures k))

pub returns-clause-capped : goal.returns-clause-capped
returns-clause-capped g c =
    let own : c.self.inside.dims ≡ c.args.self.now.dims = rw (← c.self.view_is) refl in
    let others : c.other.inside.dims ≡ c.args.other.now.dims = rw (← c.other.view_is) refl in
    let fit = joined_fit g.D.Domain.abstraction c.self.inside.dims c.other.inside.dims c.args.other.now.dims
    c.self.inside.parts.items c.other.inside.parts.items c.as_slice.result.now c.as_slice-2.result.now c.in_ok-both.both.items
    (own ∙ c.requires) others c.in_ok-both.ensures c.as_slice.ensures.value c.as_slice-2.ensures.value c.self.invariant.3
    c.other.invariant.3 in
    let few = settled_few g.D.Domain.abstraction c.self.inside.dims c.self.inside.cap c.in_ok-both.both.items
    c.in_ok-settled.settled.items c.in_ok-settled.exactness fit (λ k. c.in_ok-settled.ensures k) in
    let cap : c.self.inside.cap ≡ c.args.self.now.cap = rw (← c.self.view_is) refl in
    λ k caps. let same = caps.0.0 in (cap ∙ same, omega (arith, few, cap, same))
