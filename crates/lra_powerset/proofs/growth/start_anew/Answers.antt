-- Goals of `start_anew`: the parts and next's, reduced and kept within the cap; with them a head starts again.
use Rattle.std.proofs.Common.{refl}
use Rattle.lra_powerset.proofs.SetLemmas.{anew_starts, both_fit, settled_few, settled_fit}
use Rattle.lra_powerset.specs.Forms.{form_of}
use Rattle.lra_powerset.proofs.growth.start_anew.Goals as goal

pub collapse-requires-clause-fit : goal.collapse-requires-clause-fit
collapse-requires-clause-fit g c = (
  c.args.given.now.dims,
  both_fit g.D.Domain.abstraction c.args.given.now.dims c.args.given.now.dims c.args.parts.items c.args.next.now
      c.append_copies.new.all.items refl c.in_ok-append_copies.ensures c.requires.fit c.requires.next,
)

pub start_with-requires : goal.start_with-requires
start_with-requires g c =
    let fit = both_fit g.D.Domain.abstraction c.args.given.now.dims c.args.given.now.dims c.args.parts.items c.args.next.now
    c.append_copies.new.all.items refl c.in_ok-append_copies.ensures c.requires.fit c.requires.next in
    record {
      fit = settled_fit g.D.Domain.abstraction c.args.given.now.dims c.args.cap c.append_copies.new.all.items c.in_ok-settled.settled.items
          c.in_ok-settled.exactness fit (λ k. c.in_ok-settled.ensures k);
    }

pub returns-clause-starts : goal.returns-clause-starts
returns-clause-starts g c =
    let fit = both_fit g.D.Domain.abstraction c.args.given.now.dims c.args.given.now.dims c.args.parts.items c.args.next.now
    c.append_copies.new.all.items refl c.in_ok-append_copies.ensures c.requires.fit c.requires.next in
    anew_starts g.D.Domain.abstraction c.args.given.now c.args.given.now.dims c.args.cap c.args.parts.items c.args.next.now
    c.append_copies.new.all.items c.in_ok-settled.settled.items c.in_ok-settled.exactness (form_of c.in_ok-held.held)
    c.in_ok-append_copies.ensures fit (λ k. c.in_ok-settled.ensures k) c.in_ok-held.ensures.starts

pub returns-clause-fits : goal.returns-clause-fits
returns-clause-fits g c =
    let fit = both_fit g.D.Domain.abstraction c.args.given.now.dims c.args.given.now.dims c.args.parts.items c.args.next.now
    c.append_copies.new.all.items refl c.in_ok-append_copies.ensures c.requires.fit c.requires.next in
    c.in_ok-held.ensures.fits c.args.cap (settled_few g.D.Domain.abstraction c.args.given.now.dims c.args.cap
    c.append_copies.new.all.items c.in_ok-settled.settled.items c.in_ok-settled.exactness fit
    (λ k. c.in_ok-settled.ensures k))
