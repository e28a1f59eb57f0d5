-- A list of rows has as many kinds.
use Rattle.std.proofs.Common.{◌≡◌, ◌+◌, ◌++◌, ℕ, ℤ, List, [], ◌∷◌, length, ap, sym, ◌∙◌, length-append}
use Rattle.lra_multipliers.specs.Crates.{lra_linear_spec.declared.ConKind.ConKind, lra_systems.LinearSystems.LinearSystem}

pub kinds_pushed : (old new : LinearSystem ConKind) (row : List ℤ) (kind : ConKind) → length old.kinds ≡ length old.rows → new.rows ≡ old.rows ++ row ∷ [] →
    new.kinds ≡ old.kinds ++ kind ∷ [] → length new.kinds ≡ length new.rows
kinds_pushed old new row kind n r k =
    ap (λ (x : List ConKind). length x) k ∙ length-append old.kinds (kind ∷ []) ∙ ap (λ (j : ℕ). j + 1) n ∙ sym (length-append old.rows (row ∷ [])) ∙
    ap (λ (x : List (List ℤ)). length x) (sym r)
