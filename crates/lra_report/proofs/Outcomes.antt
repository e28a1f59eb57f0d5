-- The line of a verdict says whether it holds.
use Rattle.std.proofs.Common.{◌≡◌, ℕ, Bool, true, false, List, [], ◌∷◌, ◌++◌, refl, ap, sym, ◌∙◌}
use Rattle.std.proofs.{lemmas.Bool.eqb-false, lemmas.List.append_cancel_left}
use Rattle.std.specs.Prelude.{get_or}
use Rattle.lra_report.specs.{VerdictKinds.row_of, VerdictKinds.outcome_text, declared.verdict_kinds.VerdictKind.VerdictKind}
use Rattle.lra_report.proofs.Fronts.{rest_same}

-- the first byte of a line's end is the word's, or the line feed
first_of : (w u : List ℕ) → get_or (w ++ (10 ∷ u)) 0 10 ≡ get_or w 0 10
first_of [] u = refl
first_of (b ∷ w) u = refl

apart : (kind : VerdictKind) (u v : List ℕ) → (row_of kind).if_holds ++ (10 ∷ u) ≡ (row_of kind).if_open ++ (10 ∷ v) → ⊥
apart kind u v e =
    let yes = (row_of kind).if_holds in
    let no = (row_of kind).if_open in
    let first : get_or yes 0 10 ≡ get_or no 0 10 = sym (first_of yes u) ∙ ap (λ (t : List ℕ). get_or t 0 10) e ∙ first_of no v in
    eqb-false (get_or yes 0 10) (get_or no 0 10) (row_of kind).apart first

-- what comes after an outcome at the end of a line
pub outcome_same : (kind : VerdictKind) (b c : Bool) (u v : List ℕ) → outcome_text kind b ++ (10 ∷ u) ≡ outcome_text kind c ++ (10 ∷ v) → (b ≡ c) × (u ≡ v)
outcome_same kind true true u v e = (refl, rest_same (append_cancel_left (row_of kind).if_holds (10 ∷ u) (10 ∷ v) e))
outcome_same kind false false u v e = (refl, rest_same (append_cancel_left (row_of kind).if_open (10 ∷ u) (10 ∷ v) e))
outcome_same kind true false u v e = absurd (apart kind u v e)
outcome_same kind false true u v e = absurd (apart kind v u (sym e))

-- an outcome that stands alone
pub outcome_told : (kind : VerdictKind) (b c : Bool) → outcome_text kind b ≡ outcome_text kind c → b ≡ c
outcome_told kind b c e = (outcome_same kind b c [] [] (ap (λ (t : List ℕ). t ++ (10 ∷ [])) e)).0
