-- Goals of `open_part`: the first step into whichever part it is.
use Rattle.std.proofs.{Common.map, lemmas.Result.IfOk-weaker}
use Rattle.lra_program.specs.ProgramViews.{item_view, items_of, program_view}
use Rattle.lra_inline_steps.specs.Inlining.{points_in}
use Rattle.lra_inline_steps.proofs.{FirstSteps.rounds_open, ItemRows.items_begin, Stopping.limit_through}
use Rattle.lra_inline.proofs.inlining.parts.open_part.Goals as goal

pub returns-in-Stmt-clause-leads : goal.returns-in-Stmt-clause-leads
returns-in-Stmt-clause-leads c = rw c.in-Stmt.is c.open_stmt.ensures.leads

pub returns-in-Declaration-clause-leads : goal.returns-in-Declaration-clause-leads
returns-in-Declaration-clause-leads c = rw c.in-Declaration.is c.open_declaration.ensures.leads

pub returns-in-Array-clause-leads : goal.returns-in-Array-clause-leads
returns-in-Array-clause-leads c = rw c.in-Array.is c.open_array.ensures.leads

pub returns-in-Items-clause-leads : goal.returns-in-Items-clause-leads
returns-in-Items-clause-leads c =
    let P = program_view c.args.source.program.now in
    let S = points_in c.args.sites.now in
    let all = items_of (map item_view c.in-Items.items.now) in
    rw c.in-Items.is (c.next_item.ensures.leads P c.args.path.now S S all
    (items_begin P c.args.path.now c.args.frame S all c.new-parts.result.items c.new-parts.ensures.items (rw c.in-Items.is at c.requires.stands)))

pub open_call-requires : goal.open_call-requires
open_call-requires c =
    let s = rw c.in-Call.is at c.requires.stands in
    record { well = c.requires.well; stands = s.0; few = s.1 }

pub returns-in-Call-clause-leads : goal.returns-in-Call-clause-leads
returns-in-Call-clause-leads c = rw c.in-Call.is (IfOk-weaker c.open_call.result _ _ (λ g h. h (points_in c.args.sites.now)) c.open_call.ensures.leads)

pub returns-in-Call-clause-limit : goal.returns-in-Call-clause-limit
returns-in-Call-clause-limit c = rw c.in-Call.is (limit_through c.open_call.result _ _ (λ l h. h (points_in c.args.sites.now)) c.open_call.ensures.limit)

pub returns-in-Rounds-clause-leads : goal.returns-in-Rounds-clause-leads
returns-in-Rounds-clause-leads c =
    let (step, is, rounds) = c.open_rounds.ensures in
    rw (c.in-Rounds.is, rounds, is) (rounds_open (program_view c.args.source.program.now) c.args.path.now c.args.frame (points_in c.args.sites.now)
    c.in-Rounds.point c.in-Rounds.repeated (rw c.in-Rounds.is at c.requires.stands))

pub returns-in-Items-clause-falls : goal.returns-in-Items-clause-falls
returns-in-Items-clause-falls c = rw c.in-Items.is (c.next_item.ensures.falls (program_view c.args.source.program.now))
