-- What closing gives, from what its steps are.
use Rattle.std.proofs.Common.{◌≡◌, ℕ, Bool, subst}
use Rattle.lra_dbm.specs.{Cells.Cells, Cells.IsMatrix, Closing.AfterClosing, Closing.closing, Closing.Closes, Steps.progress}
use Rattle.lra_dbm.proofs.Theorem.{closing_closes}

pub closes_by : (n : ℕ) (old new : Cells) (empty flagged : Bool) → IsMatrix n old
    → closing n old ≡ record { empty = empty; progress = progress new flagged } → Closes n old new empty flagged
closes_by n old new empty flagged is e =
    let both = closing_closes n old is in
    subst (λ (r : AfterClosing). Closes n old r.progress.cells r.empty r.progress.flagged) e both.1

pub matrix_by : (n : ℕ) (old new : Cells) (empty flagged : Bool) → IsMatrix n old
    → closing n old ≡ record { empty = empty; progress = progress new flagged } → IsMatrix n new
matrix_by n old new empty flagged is e =
    let both = closing_closes n old is in
    subst (λ (r : AfterClosing). IsMatrix n r.progress.cells) e both.0
