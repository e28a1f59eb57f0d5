use Rattle.std.proofs.Common.{◌≡◌, ◌+◌, ◌≤◌, drop}
use Rattle.lra_base.specs.Places.{place_from, place_after}
use Rattle.lra_base.proofs.places.place_after.Given as goal

abbrev pub invariant-loop-byte : goal.invariant-loop-byte
invariant-loop-byte l = (l.line ≤ 1 + l.byte-index)
    × (l.column ≤ 1 + l.byte-index)
    × (place_from (record { line = l.line; column = l.column }) (drop l.byte-index l.bytes) ≡ place_after l.bytes)
