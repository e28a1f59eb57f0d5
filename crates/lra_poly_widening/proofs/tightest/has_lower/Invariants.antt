use Rattle.std.proofs.Common.{◌≡◌, ◌<◌, ℕ, ℤ, List, false, length, slice_index_or}
use Rattle.lra_poly_widening.specs.Tightest.{is_lower}
use Rattle.lra_poly_widening.proofs.tightest.has_lower.Given as goal

abbrev pub invariant-loop-other : goal.invariant-loop-other
invariant-loop-other l = (j : ℕ) (d : List ℤ) → j < l.other-index → j < length l.rows → is_lower (slice_index_or l.rows j d) l.row ≡ false
