-- Goals of `PowerSetHead::start`: the head that starts with the set.
use Rattle.std.proofs.Common.{◌∙◌}
use Rattle.lra_powerset.specs.Forms.{form_of}
use Rattle.lra_powerset.proofs.{HeadSteps.fits_starts, HeadSteps.starts_as, ValueLemmas.set_starts}
use Rattle.lra_powerset.proofs.heads.PowerSetHead.start.Goals as goal

pub returns-clause-starts : goal.returns-clause-starts
returns-clause-starts g c =
    set_starts g.D.Domain.abstraction g.met.D.Domain.laws g.met.D.BaseDomain.base_laws c.args.first.now c.args.given.now
    (record {
      dims = c.dims.result;
      cap = c.cap.result;
      thresholds = c.in_ok-given.given;
      form = form_of c.in_ok-held.held;
    }) (fits_starts g.D.Domain.abstraction c.dims.ensures c.cap.ensures.cap c.in_ok-given.ensures c.requires
    (c.in_ok-parts.ensures ∙ c.items.ensures.parts) c.items.ensures.few c.cap.ensures.some c.cap.type_inv c.items.ensures.capped
    c.in_ok-held.ensures.fits) c.dims.ensures c.cap.ensures.cap c.in_ok-given.ensures
    (starts_as g.D.Domain.abstraction c.args.given.now c.in_ok-parts.parts.items c.args.first.now.parts
    (form_of c.in_ok-held.held) (c.in_ok-parts.ensures ∙ c.items.ensures.parts) c.in_ok-held.ensures.starts)

pub returns-clause-fit : goal.returns-clause-fit
returns-clause-fit g c =
    fits_starts g.D.Domain.abstraction c.dims.ensures c.cap.ensures.cap c.in_ok-given.ensures c.requires
    (c.in_ok-parts.ensures ∙ c.items.ensures.parts) c.items.ensures.few c.cap.ensures.some c.cap.type_inv c.items.ensures.capped
    c.in_ok-held.ensures.fits

pub invariant_of-result : goal.invariant_of-result
invariant_of-result g c =
    fits_starts g.D.Domain.abstraction c.dims.ensures c.cap.ensures.cap c.in_ok-given.ensures c.requires
    (c.in_ok-parts.ensures ∙ c.items.ensures.parts) c.items.ensures.few c.cap.ensures.some c.cap.type_inv c.items.ensures.capped
    c.in_ok-held.ensures.fits
