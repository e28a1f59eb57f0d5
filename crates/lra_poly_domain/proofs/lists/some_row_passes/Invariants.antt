use Rattle.std.proofs.Common.{◌≡◌, ℕ, ℤ, ◌<◌, false, length, slice_index_or, List}
use Rattle.lra_poly_domain.specs.Crates.lra_systems.LinearSystems.{generators}
use Rattle.lra_poly_domain.specs.Growth.{row_passes}
use Rattle.lra_poly_domain.proofs.lists.some_row_passes.Given as goal

abbrev pub invariant-loop-row : goal.invariant-loop-row
invariant-loop-row l = (j : ℕ) (d : List ℤ) → j < l.row-index → j < length l.rows → row_passes (generators l.list) (slice_index_or l.rows j d) ≡ false
