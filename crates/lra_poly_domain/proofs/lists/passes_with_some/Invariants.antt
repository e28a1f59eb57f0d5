use Rattle.std.proofs.Common.{◌≡◌, ℕ, ℤ, ◌<◌, false, length, slice_index_or, List}
use Rattle.lra_poly_domain.specs.Growth.{product_passes}
use Rattle.lra_poly_domain.proofs.lists.passes_with_some.Given as goal

abbrev pub invariant-loop-other : goal.invariant-loop-other
invariant-loop-other l = (j : ℕ) (d : List ℤ) → j < l.other-index → j < length l.rows → product_passes l.row (slice_index_or l.rows j d) ≡ false
