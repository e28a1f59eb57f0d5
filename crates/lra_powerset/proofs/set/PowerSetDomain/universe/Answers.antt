-- Goals of `PowerSetDomain::universe`.
use Rattle.std.proofs.Common.{◌≡◌, length, ap, arith}
use Rattle.lra_powerset.proofs.SetLemmas.{universe_fits}
use Rattle.lra_powerset.proofs.set.PowerSetDomain.universe.Goals as goal

pub invariant_of-result : goal.invariant_of-result
invariant_of-result g c =
    let long : length c.in_ok-parts.parts.items ≡ 1 = ap length c.in_ok-parts.ensures in (
      c.requires.few,
      c.requires.cap,
      omega (arith, long, c.requires.cap),
      universe_fits g.D.Domain.abstraction g.met.D.BaseDomain.base_laws c.args.n c.args.cap c.in_ok-universe.field-0 c.in_ok-parts.parts.items
          c.in_ok-parts.ensures c.in_ok-universe.ensures.formed c.in_ok-universe.ensures.defined c.in_ok-universe.ensures.dims,
    )

pub returns-clause-formed : goal.returns-clause-formed
returns-clause-formed g c =
    let long : length c.in_ok-parts.parts.items ≡ 1 = ap length c.in_ok-parts.ensures in (
      universe_fits g.D.Domain.abstraction g.met.D.BaseDomain.base_laws c.args.n c.args.cap c.in_ok-universe.field-0 c.in_ok-parts.parts.items
          c.in_ok-parts.ensures c.in_ok-universe.ensures.formed c.in_ok-universe.ensures.defined c.in_ok-universe.ensures.dims,
      omega (arith, long, c.requires.cap),
    )
