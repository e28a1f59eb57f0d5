-- The places of the threads so far, and of those from the next one on.
use Rattle.std.proofs.Common.{◌≡◌, ◌+◌, ◌-◌, ◌++◌, length}
use Rattle.lra_resolve.specs.Crates.lra_resolution_spec.Threads.{greatest_threads, thread_places_from}
use Rattle.lra_scopes.specs.Calls.{functions_at}
use Rattle.lra_resolve.proofs.threads.find_threads.Given as goal

abbrev pub invariant-threads : goal.invariant-threads
invariant-threads l = record {
  count : l.digit ≡ 49 + length l.places.items;
  places : thread_places_from (functions_at l.parts) greatest_threads 0
      ≡ l.places.items ++ thread_places_from (functions_at l.parts) (57 - l.digit) (length l.places.items);
}
