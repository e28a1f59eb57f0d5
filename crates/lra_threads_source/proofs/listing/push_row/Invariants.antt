-- What is written so far and what is left are all.
use Rattle.std.proofs.Common.{◌≡◌, ◌++◌, ℕ, suc, map, drop, string_bytes}
use Rattle.lra_threads_source.specs.Crates.lra_threads_fixpoint.Interference.{interval_at}
use Rattle.lra_threads_source.specs.{Listed.one_by_one, Listed.reported_write, Listed.reported_writes, ThreadsView.writes_of}
use Rattle.lra_threads_source.proofs.listing.push_row.Given as goal

abbrev pub invariant-globals : goal.invariant-globals
invariant-globals l = (k : ℕ) → l.thread ≡ suc k →
    map writes_of l.listed.items ++ one_by_one (λ x name. reported_write k name (interval_at x l.row)) l.global (drop l.global (map string_bytes l.names))
    ≡ map writes_of l.initial.listed.items ++ reported_writes l.globals k l.row
