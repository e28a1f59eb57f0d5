-- The entries so far with those left over are the row, and there is room for each of these.
use Rattle.std.proofs.Common.{◌≡◌, ◌+◌, ◌≤◌, length}
use Rattle.std.specs.{Iterator.Adapters.zip_first, Iterator.Adapters.zip_second, Slice.Iter.iter_rest}
use Rattle.lra_linear_spec.specs.CheckedArithmetic.{checked_blend}
use Rattle.lra_row.proofs.CheckedRows.{prepend}
use Rattle.lra_row.proofs.entries.blend.Given as goal

abbrev pub invariant-loop-u : goal.invariant-loop-u
invariant-loop-u l =
    let us = iter_rest (zip_first l.u-iterator) in
    let vs = iter_rest (zip_second l.u-iterator) in
    record {
      value : prepend l.entries.items (checked_blend l.a l.b us vs) ≡ checked_blend l.a l.b l.us l.vs;
      room : length l.entries.items + length us ≤ l.entries.capacity;
    }
