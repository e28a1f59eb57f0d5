use Rattle.std.proofs.Common.{◌≡◌, length, take}
use Rattle.std.specs.Vec.{vec_len}
use Rattle.lra_canonical.specs.MarkedRows.{bits_in, rows_in}
use Rattle.lra_descriptions.proofs.known.mark_rows.Given as goal

abbrev pub invariant-each : goal.invariant-each
invariant-each l = record {
  count : vec_len l.marked ≡ length l.yielded;
  rows : rows_in l.marked.items ≡ take (length l.yielded) l.rows;
  bits : bits_in l.marked.items ≡ l.yielded;
}
