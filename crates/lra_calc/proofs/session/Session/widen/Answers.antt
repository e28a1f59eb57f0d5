-- Goals of `Session::widen`.
use Rattle.std.proofs.Common.{◌≡◌, ℕ, subst, IfOk}
use Rattle.lra_calc.specs.Views.{session_of}
use Rattle.lra_calc.proofs.WidenLemmas.{session_widens}
use Rattle.lra_calc.proofs.session.Session.widen.Goals as goal

pub returns-clause-gives : goal.returns-clause-gives
returns-clause-gives c =
    session_widens (session_of c.args.self.now) c.args.first.now c.args.second.now c.in_ok-first.first.now c.in_ok-second.second.now c.widen.result c.in_ok-first.ensures.found
    c.in_ok-second.ensures.found c.in_ok-first.ensures.dims c.widen.ensures.gives

pub returns-clause-dims : goal.returns-clause-dims
returns-clause-dims c = subst (λ (n : ℕ). IfOk c.widen.result (λ m. m.polyhedron.dims ≡ n)) c.in_ok-first.ensures.dims c.widen.ensures.dims
