-- The goal of `open_row`: the trees are left in the other order.
use Rattle.lra_threads_instrument.proofs.OpenFrames.{leads_on, row_begins, row_begins_fewer}
use Rattle.lra_threads_instrument.proofs.trees.open_row.Goals as goal

pub returns : goal.returns
returns c n =
    leads_on c.go_on_row.result n c.args.places.now.items c.go_on_row.new.places.items _ _ _ _
    (row_begins n c.new-done.result c.args.trees c.reverse.new.self c.args.last c.new-done.ensures.items c.reverse.ensures.items)
    (row_begins_fewer c.new-done.result c.args.trees c.reverse.new.self c.args.last c.reverse.ensures.items) (c.go_on_row.ensures n)
