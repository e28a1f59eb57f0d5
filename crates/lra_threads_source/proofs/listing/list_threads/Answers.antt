-- Goals of `list_threads`: the points of all threads.
use Rattle.std.proofs.{Common.length, Common.map, Common.refl, lemmas.Option.slice_get_read}
use Rattle.lra_threads_source.specs.Crates.lra_syntax.Views.{tree_view}
use Rattle.lra_report.specs.View.{point_report_of}
use Rattle.lra_threads_source.proofs.Pushing.{shows_more}
use Rattle.lra_threads_source.proofs.listing.list_threads.Goals as goal

pub push_thread-requires-clause-found : goal.push_thread-requires-clause-found
push_thread-requires-clause-found c = λ graph there.
    let found = c.args.found.now in
    c.requires.found.each c.threads.k graph c.index-found-k.result there
    (slice_get_read found (length found) c.threads.k c.index-found-k.result refl c.threads-test.true c.index-found-k.is)

pub threads-preserved : goal.threads-preserved
threads-preserved c =
    let (points, alone, same) = c.in_ok-push_thread.ensures in
    shows_more (tree_view c.args.outline.now.tree.now) c.args.found.now c.threads.k c.index-found-k.result (map point_report_of c.threads.listed.items)
    (map point_report_of c.push_thread.new.listed.items) points c.threads.invariant c.threads-test.true c.index-found-k.is alone same
