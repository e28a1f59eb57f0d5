use Rattle.std.proofs.Common.{◌≡◌, ◌≤◌, ◌+◌, drop}
use Rattle.lra_base.specs.Places.{place_from}
use Rattle.lra_lex.specs.Places.{fresh_after_bytes}
use Rattle.lra_lex.proofs.spot.Spot.advance.Given as goal

abbrev pub invariant-loop-byte : goal.invariant-loop-byte
invariant-loop-byte l = record {
  lines : l.line ≤ l.fn.self.place.line + l.byte-index;
  columns : l.column ≤ l.fn.self.place.column + l.byte-index;
  place : place_from (record { line = l.line; column = l.column }) (drop l.byte-index l.bytes) ≡ place_from l.fn.self.place l.bytes;
  fresh : fresh_after_bytes l.fresh (drop l.byte-index l.bytes) ≡ fresh_after_bytes l.fn.self.fresh l.bytes;
}
