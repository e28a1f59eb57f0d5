-- Goals of `grow_all`: place by place.
use Rattle.lra_threads_fixpoint.specs.Intervals.{grown_option}
use Rattle.lra_threads_fixpoint.proofs.ListLemmas.{places_kept, places_done}
use Rattle.lra_threads_fixpoint.proofs.rows.grow_all.Goals as goal

pub places-preserved : goal.places-preserved
places-preserved c =
    places_kept (grown_option c.args.growth) c.places.x c.args.other.now _ c.args.row.now.items c.places.row.items c.grow_at.new.row.items
    c.places-test.true c.grow_at.ensures c.places.invariant

pub returns : goal.returns
returns c =
    places_done (grown_option c.args.growth) c.places.x c.args.other.now c.args.row.now.items c.places.row.items c.places-test.false c.places.invariant
