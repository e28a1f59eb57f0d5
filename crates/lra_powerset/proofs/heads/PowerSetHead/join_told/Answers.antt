-- Goals of `PowerSetHead::join_told`: the join with next, if it is reported whether next lies in it.
use Rattle.std.proofs.Common.{refl}
use Rattle.lra_powerset.proofs.{HeadLemmas.join_grew, HeadSteps.anew_as}
use Rattle.lra_powerset.proofs.heads.PowerSetHead.join_told.Goals as goal

pub returns-in_ok-exactness-in-No-clause-grown : goal.returns-in_ok-exactness-in-No-clause-grown
returns-in_ok-exactness-in-No-clause-grown g c =
    let old = c.args.self.now in
    join_grew g.D.Domain.abstraction g.met.D.Domain.laws g.met.D.BaseDomain.base_laws old c.args.next.now c.requires.values.0 c.in_ok-exactness-in-No.exactness c.restart.new.self
    c.args.parts.items c.requires.dims c.restart.ensures.dims c.restart.ensures.cap c.restart.ensures.given
    c.requires.values.1 (rw c.in-No.is at c.requires.lies)
    (anew_as g.D.Domain.abstraction old.thresholds old.thresholds old.dims old.dims old.cap old.cap c.args.parts.items c.items.result.now
    c.args.next.now.parts c.in_ok-exactness-in-No.exactness c.restart.new.self.form refl refl refl c.items.ensures.parts
    c.in_ok-exactness-in-No.ensures.starts)
