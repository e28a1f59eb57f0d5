use Rattle.std.proofs.Common.{unsigned_abs, ◌+◌}
use Rattle.lra_row.proofs.number.+ratio_cmp.Given as goal

abbrev pub decreases-ratio_cmp : goal.decreases-ratio_cmp
decreases-ratio_cmp l = unsigned_abs l.d1 + unsigned_abs l.d2
