-- Goals of `write_disjunct`: along what is due.
use Rattle.std.proofs.Common.{◌∙◌, sym}
use Rattle.lra_path_disjuncts.specs.{TableDisjuncts.all_done, Tables.moves_at, Tables.disjunct_at}
use Rattle.lra_path_disjuncts.proofs.SideLists.{pending_last, pending_less, pending_next}
use Rattle.lra_path_disjuncts.proofs.tables.write_disjunct.Goals as goal

pub left-preserved : goal.left-preserved
left-preserved c = pending_next c.args.entries.now c.left.left.items c.write_next.new.left.items c.in-Some.due c.pop.new.self.items (all_done c.left.side.items)
    (all_done c.write_next.new.side.items) (disjunct_at (moves_at c.args.entries.now c.args.place) c.args.number)
    c.in-Some.ensures.items c.left.invariant c.in_ok-write_next.ensures.writes

pub left-smaller : goal.left-smaller
left-smaller c = pending_less c.args.entries.now c.left.left.items c.write_next.new.left.items c.in-Some.due c.pop.new.self.items c.in-Some.ensures.items
    c.in_ok-write_next.ensures.falls

pub returns : goal.returns
returns c = pending_last c.args.entries.now c.left.left.items (all_done c.left.side.items)
    (disjunct_at (moves_at c.args.entries.now c.args.place) c.args.number)
    (sym c.left.left.ok.0 ∙ c.in_default.ensures.cases.0) c.left.invariant
