-- Texts of whole lists and of values, for users of the library: a line for each row or generator, without a word in
-- front; and numbered names.
use Rattle.std.specs.Prelude.{ℕ, zero, suc, List, [], ◌∷◌, ◌++◌, codes}
use Rattle.std.specs.{Fmt.decimal, List.flat_map}
use Rattle.lra_row_text.specs.Crates.lra_linear_spec.declared.ConKind.{ConKind}
use Rattle.lra_systems.specs.LinearSystems.{LinearSystem}
use Rattle.lra_row_text.specs.Texts.{text_line, row_text, generator_text}
use Rattle.lra_row_text.specs.{Lists.shown_rows, Part.ReportGenerator, Rows.ReportRow}

abbrev pub plain_row : List (List ℕ) → ReportRow → List ℕ
plain_row names r = text_line (row_text names r)

abbrev pub plain_generator : List (List ℕ) → ReportGenerator → List ℕ
plain_generator names g = text_line (generator_text names g)

-- the rows of a list, or that nothing is asked
abbrev pub lines_of_rows : List (List ℕ) → List ReportRow → List ℕ
lines_of_rows names [] = text_line (codes "true")
lines_of_rows names (r ∷ rs) = flat_map (plain_row names) (r ∷ rs)

abbrev pub lines_of_generators : List (List ℕ) → List ReportGenerator → List ℕ
lines_of_generators names gs = flat_map (plain_generator names) gs

abbrev pub lines_of_part : List (List ℕ) → LinearSystem ConKind → List ℕ
lines_of_part names p = lines_of_rows names (shown_rows p.rows p.kinds)

-- further parts, each after a line that parts it from those before it
abbrev pub further_lines : List (List ℕ) → List (LinearSystem ConKind) → List ℕ
further_lines names [] = []
further_lines names (p ∷ ps) = text_line (codes "or") ++ lines_of_part names p ++ further_lines names ps

-- the parts of a value, or that it has none
abbrev pub lines_of_parts : List (List ℕ) → List (LinearSystem ConKind) → List ℕ
lines_of_parts names [] = text_line (codes "false")
lines_of_parts names (p ∷ ps) = lines_of_part names p ++ further_lines names ps

-- so many names, from this number on
abbrev pub numbered_from : ℕ → ℕ → List (List ℕ)
numbered_from number zero = []
numbered_from number (suc n) = (codes "x" ++ decimal number) ∷ numbered_from (suc number) n

-- x1, x2, and on
abbrev pub numbered_names : ℕ → List (List ℕ)
numbered_names n = numbered_from 1 n
