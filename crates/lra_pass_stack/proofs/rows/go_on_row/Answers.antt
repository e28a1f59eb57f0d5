-- Goals of `go_on_row`: after what the tree under way found, the next one is.
use Rattle.std.proofs.Common.{◌≤◌, sym, subst}
use Rattle.lra_pass_stack.specs.Crates.lra_analysis_spec.Plan.{Plan}
use Rattle.lra_pass_stack.proofs.{OpenFrames.row_followed, RowLeaves.row_way, RowLeaves.row_falls}
use Rattle.lra_pass_stack.proofs.rows.go_on_row.Goals as goal

pub next_of_row-requires-clause-parts : goal.next_of_row-requires-clause-parts
next_of_row-requires-clause-parts g c =
    let way = c.requires in
    subst (λ (s : Plan). 1 ≤ s.parts) (sym way.7.plan) way.5

pub next_of_row-requires-clause-way : goal.next_of_row-requires-clause-way
next_of_row-requires-clause-way g c =
    let way = c.requires in
    let taken = c.in_ok-so_far.ensures in
    row_way g.F.Interfere.interference way.0 g.D.Domain.abstraction way.1 c.args.place.behind c.in_ok-so_far.so_far way.2 way.4
    way.7.plan way.6
    (row_followed (g.F.Interfere.interference way.0) g.D.Domain.abstraction way.1 c.args.place way.2 way.3 way.4 c.args.outcome
    c.in_ok-so_far.so_far way.7 way.8 taken.0 taken.1 taken.2)

pub returns-clause-leads : goal.returns-clause-leads
returns-clause-leads g c others set whole part memory may owed made =
    let taken = c.in_ok-so_far.ensures in
    c.next_of_row.ensures.leads others set whole memory owed.plan may
    (row_followed (g.F.Interfere.interference others) g.D.Domain.abstraction set c.args.place whole part memory c.args.outcome
    c.in_ok-so_far.so_far owed made taken.0 taken.1 taken.2)

pub returns-clause-falls : goal.returns-clause-falls
returns-clause-falls g c b set = row_falls g.D.Domain.abstraction set c.next_of_row.result b _ (c.next_of_row.ensures.falls b set)
