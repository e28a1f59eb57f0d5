-- Lists of constraints and of generators, as they are shown.
use Rattle.std.specs.Prelude.{ℤ, List, [], ◌∷◌}
use Rattle.lra_row_text.specs.Crates.lra_linear_spec.declared.ConKind.{ConKind}
use Rattle.lra_row_text.specs.Crates.lra_linear_spec.declared.GenKind.{GenKind}
use Rattle.lra_row_text.specs.{Part.ReportGenerator, Rows.ReportRow, Shown.report_row, Shown.report_generator}

-- each row with its kind
abbrev pub shown_by : {K R : Type 0} → (List ℤ → K → R) → List (List ℤ) → List K → List R
shown_by show [] kinds = []
shown_by show (r ∷ rows) [] = []
shown_by show (r ∷ rows) (k ∷ kinds) = show r k ∷ shown_by show rows kinds

abbrev pub shown_rows : List (List ℤ) → List ConKind → List ReportRow
shown_rows rows kinds = shown_by report_row rows kinds

abbrev pub shown_generators : List (List ℤ) → List GenKind → List ReportGenerator
shown_generators rows kinds = shown_by report_generator rows kinds
