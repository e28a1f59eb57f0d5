-- Goals of `go_on_row`: the next tree of those that are left, or the last.
use Rattle.std.proofs.Common.{sym, ◌∙◌}
use Rattle.lra_threads_instrument.proofs.OpenFrames.{leads_on, row_ends, row_ends_fewer, row_fewer, row_next}
use Rattle.lra_threads_instrument.proofs.trees.go_on_row.Goals as goal

pub returns-in-Some : goal.returns-in-Some
returns-in-Some c n =
    let r = c.args.row in
    leads_on c.open_in.result n c.args.places.now.items c.open_in.new.places.items _ _ _ _
    (row_next n r.done r.left c.pop.new.self r.last c.in-Some.tree c.in-Some.ensures.items)
    (row_fewer r.done r.left c.pop.new.self r.last c.in-Some.tree c.in-Some.ensures.items) (c.open_in.ensures n)

pub returns-in-None : goal.returns-in-None
returns-in-None c n =
    let r = c.args.row in
    leads_on c.open_in-in-None.result n c.args.places.now.items c.open_in-in-None.new.places.items _ _ _ _
    (row_ends n r.done r.left r.last c.into_inner.result c.into_inner.ensures (sym r.left.ok.0 ∙ c.in-None.ensures.cases.0))
    (row_ends_fewer r.done r.left r.last c.into_inner.result c.into_inner.ensures) (c.open_in-in-None.ensures n)
