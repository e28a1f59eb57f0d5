use Rattle.std.proofs.Common.{take}
use Rattle.lra_canonical.specs.Echelons.{AreCleared}
use Rattle.lra_canonical.proofs.forms.clear_pivot.Given as goal

abbrev pub invariant-loop-row : goal.invariant-loop-row
invariant-loop-row l = AreCleared l.line (take l.row-index l.rows) l.out.items
