-- So many rows are there, and none has a place.
use Rattle.std.proofs.Common.{◌≡◌, ℕ, [], map, length, get_or}
use Rattle.lra_recursion.proofs.rows.empty_rows.Given as goal

abbrev pub invariant-rows : goal.invariant-rows
invariant-rows l = (length l.rows.items ≡ l._number) × ((j : ℕ) → get_or (map (λ row. row.items) l.rows.items) j [] ≡ [])
