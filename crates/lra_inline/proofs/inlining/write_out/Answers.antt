-- Goals of `write_out`: what comes next leads to what the innermost place has under way.
use Rattle.std.proofs.{Common.refl, Common.sym, Common.◌∙◌, lemmas.List.nil_from_length}
use Rattle.lra_inline_steps.specs.{Inlining.points_in, Inlining.program_of, Stack.part_view, Stack.Stops, Stack.StopsAs}
use Rattle.lra_inline_steps.proofs.{OpenFrames.all_stopped, OpenFrames.part_stands, OpenFrames.one_more, OpenFrames.part_stopped, OpenFrames.behind, OpenFrames.all_written, Stopping.err_stopped}
use Rattle.lra_inline.proofs.StepsLeft.{fewer_left}
use Rattle.lra_inline.proofs.inlining.write_out.Goals as goal

pub places-init : goal.places-init
places-init c = rw c.new-places.ensures.items (λ whole lead. (whole, refl, lead))

pub open_place-requires-clause-stands : goal.open_place-requires-clause-stands
open_place-requires-clause-stands c =
    let P = program_of c.args.source in
    let whole = c.requires.leads.0 in
    let lead = c.requires.leads.1 in
    part_stands P whole c.places.places.items c.places.next c.places.path (points_in c.places.sites) (c.places.invariant whole lead)
    c.in-Opens.place c.in-Opens.inside c.in-Opens.inner c.in-Opens.is

pub returns-in_err-next-in-Opens-clause-limit : goal.returns-in_err-next-in-Opens-clause-limit
returns-in_err-next-in-Opens-clause-limit c = λ whole lead.
    let P = program_of c.args.source in
    err_stopped c.from_residual.result _ (StopsAs P (part_view c.in-Opens.inner) c.places.path c.in-Opens.inside (points_in c.places.sites)) (Stops P whole)
    c.from_residual.ensures.1
    (part_stopped P whole c.places.places.items c.places.next c.places.path (points_in c.places.sites) (c.places.invariant whole lead)
    c.in-Opens.place c.in-Opens.inside c.in-Opens.inner c.in-Opens.is) c.in_err-next-in-Opens.ensures.limit

pub places-preserved-in_ok-next-in-Opens : goal.places-preserved-in_ok-next-in-Opens
places-preserved-in_ok-next-in-Opens c = λ whole lead.
    let P = program_of c.args.source in
    one_more P whole c.places.places.items c.places.next c.places.path (points_in c.places.sites) (c.places.invariant whole lead)
    c.in-Opens.place c.in-Opens.inside c.in-Opens.inner c.in-Opens.is c.open_place.new.places.items c.in_ok-next-in-Opens.next c.open_place.new.path (points_in c.open_place.new.sites)
    c.in_ok-next-in-Opens.ensures.added c.in_ok-next-in-Opens.ensures.leads

pub go_on-requires : goal.go_on-requires
go_on-requires c =
    let P = program_of c.args.source in
    let whole = c.requires.leads.0 in
    let lead = c.requires.leads.1 in
    let b = behind P whole c.places.places.items c.places.next c.places.path (points_in c.places.sites) (c.places.invariant whole lead)
    c.in-Written.part c.in-Written.is c.pop.new.self.items c.in-Some.place c.in-Some.ensures.items in
    (b.0, b.1, (b.3, b.4, b.5))

pub returns-in_err-next-in-Some-clause-limit : goal.returns-in_err-next-in-Some-clause-limit
returns-in_err-next-in-Some-clause-limit c = λ whole lead.
    let P = program_of c.args.source in
    let b = behind P whole c.places.places.items c.places.next c.places.path (points_in c.places.sites) (c.places.invariant whole lead)
    c.in-Written.part c.in-Written.is c.pop.new.self.items c.in-Some.place c.in-Some.ensures.items in
    err_stopped c.from_residual-in_err-next-in-Some.result _ (Stops P b.0) (Stops P whole) c.from_residual-in_err-next-in-Some.ensures.1
    (all_stopped P whole b.0 c.pop.new.self.items b.2) (c.in_err-next-in-Some.ensures.limit b.0 b.1 (b.3, b.4, b.5))

pub places-preserved : goal.places-preserved
places-preserved c = λ whole lead.
    let P = program_of c.args.source in
    let b = behind P whole c.places.places.items c.places.next c.places.path (points_in c.places.sites) (c.places.invariant whole lead)
    c.in-Written.part c.in-Written.is c.pop.new.self.items c.in-Some.place c.in-Some.ensures.items in
    (b.0, b.2, c.in_ok-next-in-Some.ensures.leads b.0 b.1 (b.3, b.4, b.5))

pub returns-in-None-clause-written : goal.returns-in-None-clause-written
returns-in-None-clause-written c = λ whole lead.
    let P = program_of c.args.source in
    all_written P whole c.places.places.items c.places.next c.places.path (points_in c.places.sites) (c.places.invariant whole lead)
    c.in-Written.part c.in-Written.is (nil_from_length c.places.places.items (sym c.places.places.ok.0 ∙ c.in-None.ensures.cases.0))

pub places-smaller : goal.places-smaller
places-smaller c =
    let P = program_of c.args.source in
    fewer_left P c.places.places.items c.pop.new.self.items c.in-Some.place c.places.next c.in_ok-next-in-Some.next c.in-Written.part c.in-Some.ensures.items c.in-Written.is
    (c.in_ok-next-in-Some.ensures.falls P)
