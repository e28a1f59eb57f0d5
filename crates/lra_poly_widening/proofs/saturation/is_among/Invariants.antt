use Rattle.std.proofs.Common.{◌≡◌, ℕ, ◌<◌, false, length, slice_index_or, List, Bool}
use Rattle.lra_poly_widening.specs.Saturated.{same_values}
use Rattle.lra_poly_widening.proofs.saturation.is_among.Given as goal

abbrev pub invariant-loop-class : goal.invariant-loop-class
invariant-loop-class l = (j : ℕ) (d : List Bool) → j < l.class-index → j < length l.classes → same_values l.bits (slice_index_or l.classes j d) ≡ false
