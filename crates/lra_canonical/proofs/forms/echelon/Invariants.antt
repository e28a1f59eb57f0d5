use Rattle.lra_canonical.proofs.EchelonRows.{IsFormOfFirst}
use Rattle.lra_canonical.proofs.forms.echelon.Given as goal

abbrev pub invariant-loop-row : goal.invariant-loop-row
invariant-loop-row l = IsFormOfFirst l.fn.lines.items l.row-index l.form.items
