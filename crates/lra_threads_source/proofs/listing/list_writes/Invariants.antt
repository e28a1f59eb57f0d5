-- What is written so far and what is left are all.
use Rattle.std.proofs.Common.{◌≡◌, ◌++◌, map, drop}
use Rattle.lra_threads_source.specs.{Listed.one_by_one, Listed.reported_writes, ThreadsView.writes_of}
use Rattle.lra_threads_source.proofs.listing.list_writes.Given as goal

abbrev pub invariant-threads : goal.invariant-threads
invariant-threads l =
    map writes_of l.listed.items ++ one_by_one (reported_writes l.globals) l.k (drop l.k l.table) ≡ one_by_one (reported_writes l.globals) 0 l.table
