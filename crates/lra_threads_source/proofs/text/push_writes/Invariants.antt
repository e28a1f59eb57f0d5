use Rattle.std.proofs.Common.{◌≡◌, ◌++◌, map, take, string_bytes}
use Rattle.std.specs.List.{flat_map}
use Rattle.lra_threads_source.specs.{ThreadsText.writes_line, ThreadsView.writes_of}
use Rattle.lra_threads_source.proofs.text.push_writes.Given as goal

abbrev pub invariant-loop-writes : goal.invariant-loop-writes
invariant-loop-writes l = string_bytes l.text ≡ string_bytes l.initial.text ++ flat_map writes_line (map writes_of (take l.writes-index l.all))
