-- Goals of `PowerSetHead::unite`: its parts, in which next doesn't lie, become one, which grows.
use Rattle.std.proofs.Common.{◌≡◌, refl, sym, ◌∙◌}
use Rattle.lra_powerset.specs.Forms.{form_of}
use Rattle.lra_powerset.proofs.{AnswerLemmas.refit, HeadLemmas.many_fit, HeadLemmas.not_united, HeadLemmas.united, HeadSteps.fits_one}
use Rattle.lra_powerset.proofs.heads.PowerSetHead.unite.Goals as goal

pub become_one-requires-clause-fit : goal.become_one-requires-clause-fit
become_one-requires-clause-fit g c =
    let m = g.D.Domain.abstraction in
    let old = c.args.self.now in
    let parts = c.held_parts-parts.result.now in
    let rows : old.dims ≡ c.self.inside.thresholds.dims = rw (← c.self.view_is) (sym c.self.invariant.rows) in
    refit m old.dims c.self.inside.thresholds.dims parts rows (many_fit m old parts c.held_parts-parts.ensures.form
    c.held_parts-parts.ensures.fits)

pub become_one-requires-clause-next : goal.become_one-requires-clause-next
become_one-requires-clause-next g c =
    let next = c.args.next.now in
    let rows : c.args.self.now.dims ≡ c.self.inside.thresholds.dims = rw (← c.self.view_is) (sym c.self.invariant.rows) in
    rw c.items.ensures.parts (refit g.D.Domain.abstraction next.dims c.self.inside.thresholds.dims next.parts (c.requires.dims ∙ rows)
    c.items.ensures.fit)

pub invariant_of-self : goal.invariant_of-self
invariant_of-self g c =
    let head = c.in_ok-become_one.ensures.fits c.in-Some.head c.in-Some.is in
    fits_one g.D.Domain.abstraction c.self.inside.dims c.self.inside.cap c.self.inside.thresholds (form_of c.self.inside.held) c.in-Some.head
    c.self.invariant (head.0 ∙ c.self.invariant.rows) head.1 head.2

pub returns-in-Some-clause-grown : goal.returns-in-Some-clause-grown
returns-in-Some-clause-grown g c =
    let dims : c.self.inside.dims ≡ c.args.self.now.dims = rw (← c.self.view_is) refl in
    let cap : c.self.inside.cap ≡ c.args.self.now.cap = rw (← c.self.view_is) refl in
    let rows : c.self.inside.thresholds ≡ c.args.self.now.thresholds = rw (← c.self.view_is) refl in
    united g.D.Domain.abstraction c.args.next.now c.args.mode c.requires.widens c.held_parts-parts.ensures.form c.requires.dims
    c.held_parts-parts.ensures.fits dims cap rows refl c.requires.parts.1 c.requires.parts.2 c.items.ensures.parts c.in-Some.is
    c.in_ok-become_one.ensures.becomes

pub returns-in_ok-give_up-in-None-clause-grown : goal.returns-in_ok-give_up-in-None-clause-grown
returns-in_ok-give_up-in-None-clause-grown g c =
    let rows : c.self.inside.thresholds ≡ c.args.self.now.thresholds = rw (← c.self.view_is) refl in
    not_united g.D.Domain.abstraction c.args.next.now c.args.mode c.requires.widens c.held_parts-parts.ensures.form c.requires.dims
    c.in_ok-give_up-in-None.ensures.given_up rows c.requires.parts.1 c.requires.parts.2 c.items.ensures.parts c.in-None.is
    c.in_ok-become_one.ensures.becomes
