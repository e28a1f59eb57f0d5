-- Goals of `PowerSetHead::give_up`: it is given up, and has all stores.
use Rattle.lra_powerset.specs.Forms.{form_of}
use Rattle.lra_powerset.proofs.HeadSteps.{fits_whole}
use Rattle.lra_powerset.proofs.heads.PowerSetHead.give_up.Goals as goal

pub invariant_of-self : goal.invariant_of-self
invariant_of-self g c = fits_whole g.D.Domain.abstraction g.met.D.BaseDomain.base_laws c.self.inside.dims c.self.inside.cap
    c.self.inside.thresholds (form_of c.self.inside.held) c.in_ok-all.all c.self.inside.cap c.self.invariant
    c.in_ok-all.ensures.formed c.in_ok-all.ensures.defined c.in_ok-all.ensures.dims
