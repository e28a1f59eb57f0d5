use Rattle.std.proofs.Common.{◌≡◌, length, replicate, false}
use Rattle.std.specs.List.{All}
use Rattle.lra_bits.proofs.sat_matrix.blank_rows.Given as goal

abbrev pub invariant-loop : goal.invariant-loop
invariant-loop l = (length l.rows.items ≡ l.counter) × All (λ row. row ≡ replicate l.fn.width false) l.rows.items
