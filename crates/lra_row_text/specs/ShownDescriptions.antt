-- The constraints and the generators of a description, as they are shown.
use Rattle.std.specs.Prelude.{zero, suc, ℤ, pos, negsuc, Bool, true, false}
use Rattle.lra_row_text.specs.Crates.{lra_linear_spec.Descriptions.LinearRow, lra_linear_spec.Kinds.constraint_kind}
use Rattle.lra_row_text.specs.Crates.{lra_linear_spec.Vectors.entry, lra_linear_spec.declared.GenKind.GenKind}
use Rattle.lra_row_text.specs.Crates.lra_linear_spec.declared.GenKind.TheVariants as gen
use Rattle.lra_row_text.specs.{Part.ReportGenerator, Rows.ReportRow, Shown.report_row, Shown.report_generator}

-- a line, or what its column 0 reports: a point's is above 0
abbrev pub generator_kind : Bool → ℤ → GenKind
generator_kind true z = gen.Line
generator_kind false (pos zero) = gen.Ray
generator_kind false (pos (suc n)) = gen.Point
generator_kind false (negsuc n) = gen.Ray

abbrev pub shown_constraint : LinearRow → ReportRow
shown_constraint g = report_row g.row (constraint_kind g.equal)

abbrev pub shown_generator : LinearRow → ReportGenerator
shown_generator g = report_generator g.row (generator_kind g.equal (entry g.row 0))
