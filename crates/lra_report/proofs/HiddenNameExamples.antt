-- Rows over a name that hides another.
use Rattle.std.proofs.Common.{◌≡◌, pos, negsuc, [], ◌∷◌, refl}
use Rattle.std.specs.{Fmt.digits, List.flat_map, Prelude.codes}
use Rattle.lra_resolution_spec.specs.ShownNames.{shown_names}
use Rattle.lra_row_text.specs.Texts.{text_line}
use Rattle.lra_report.specs.ReportText.{state_text}
use Rattle.lra_report.proofs.ReportTextExamples.{rows_alone, is_zero}

-- main's x = 2 and inc's x = 2 at the start of the second call
hidden_row : state_text (shown_names (codes "x" ∷ codes "x" ∷ [])) (rows_alone (is_zero (negsuc 1) (pos 1 ∷ pos 0 ∷ []) ∷ is_zero (negsuc 1) (pos 0 ∷ pos 1 ∷ []) ∷ []) ∷ []) ≡ flat_map text_line (
    codes "  row x~1 = 2"
    ∷ codes "  row x = 2"
    ∷ [])
unfolding digits
hidden_row = refl
