-- Goals of `drop_redundant`: takes out the redundant inequalities, and their rows of the matrix.
use Rattle.std.proofs.Common.{List, ℤ, length, subst}
use Rattle.lra_canonical.specs.Irredundant.{AreMarks}
use Rattle.lra_canonical.proofs.Irredundant.{marks_end}
use Rattle.lra_canonical.proofs.redundancy.drop_redundant.Goals as goal

pub returns-clause-irredundant : goal.returns-clause-irredundant
returns-clause-irredundant c =
    let marks = subst (λ (rows : List (List ℤ)). AreMarks rows c.args.saturation.now c.in_ok-gone.gone (length rows)) c.deref.ensures.value c.in_ok-gone.ensures in
    marks_end c.args.rows.now.items c.args.saturation.now c.in_ok-gone.gone c.remove_marked.new.rows.items c.requires marks c.remove_marked.ensures
