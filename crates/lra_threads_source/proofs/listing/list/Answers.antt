-- Goals of `list`: the report of all threads.
use Rattle.std.proofs.Common.{◌∙◌, ℕ, List, ap}
use Rattle.lra_threads_source.specs.Crates.{lra_resolution_spec.LiveNames.globals_named, lra_syntax.Views.tree_view, lra_threads_fixpoint.Intervals.IntervalTable}
use Rattle.lra_threads_source.specs.Listed.{one_by_one, reported_writes}
use Rattle.lra_threads_source.proofs.PointNumbers.{flag_number}
use Rattle.lra_threads_source.proofs.listing.list.Goals as goal

pub returns-clause-shows : goal.returns-clause-shows
returns-clause-shows c =
    let t = tree_view c.args.outline.now.tree.now in
    record {
      count = c.requires.graphs.count;
      points = rw c.deref.ensures.value at c.in_ok-points.ensures;
      verdicts = rw c.deref-2.ensures.value at c.in_ok-verdicts.ensures;
      writes = c.in_ok-writes.ensures ∙ ap (λ (names : List (List ℕ)). one_by_one (reported_writes names) 0 c.deref-3.result.now) c.in_ok-globals.ensures
          ∙ ap (λ (table : IntervalTable). one_by_one (reported_writes (globals_named t.parts)) 0 table) c.deref-3.ensures.value;
      flag = c.flag_of.ensures ∙ flag_number t c.args.outline.now.graphs.now c.requires.graphs c.args.end.now.flag;
    }
