-- So far the places hold the numbers that were gone through.
use Rattle.std.proofs.Common.{◌≡◌, take, length}
use Rattle.lra_row.proofs.entries.copy_entries.Given as goal

abbrev pub invariant-loop-place : goal.invariant-loop-place
invariant-loop-place l = (take l.place l.places ≡ take l.place l.numbers) × (length l.places ≡ 8)
