-- Single lines of a row and of a generator.
use Rattle.std.specs.Prelude.{ℕ, List, ◌++◌, codes}
use Rattle.lra_row_text.specs.Texts.{text_line, row_text, generator_text}
use Rattle.lra_row_text.specs.{Part.ReportGenerator, Rows.ReportRow}

abbrev pub row_line : List (List ℕ) → ReportRow → List ℕ
row_line names r = text_line (codes "  row " ++ row_text names r)

abbrev pub generator_line : List (List ℕ) → ReportGenerator → List ℕ
generator_line names g = text_line (codes "  gen " ++ generator_text names g)
