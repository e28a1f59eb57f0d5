-- Goals of `PowerSetDomain::most_parts`: its cap.
use Rattle.std.proofs.Common.{◌≡◌, refl}
use Rattle.lra_powerset.proofs.SetLemmas.{empty_capped, universe_capped}
use Rattle.lra_powerset.proofs.set.PowerSetDomain.most_parts.Goals as goal

pub returns-clause-empty : goal.returns-clause-empty
returns-clause-empty g c =
    let own : c.self.inside.cap ≡ c.args.self.now.cap = rw (← c.self.view_is) refl in
    λ n v is. empty_capped c.args.self.now v n c.self.inside.cap own is

pub returns-clause-universe : goal.returns-clause-universe
returns-clause-universe g c =
    let own : c.self.inside.cap ≡ c.args.self.now.cap = rw (← c.self.view_is) refl in
    λ n v is. universe_capped g.D.Domain.abstraction c.args.self.now v n c.self.inside.cap own c.self.invariant.1 is
