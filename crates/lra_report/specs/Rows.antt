-- Lists of constraints and of generators, as a report shows them.
use Rattle.std.specs.{List.AllByRecursion, Prelude.List, Prelude.[], Prelude.Option, Prelude.Some, Prelude.None}
use Rattle.lra_report.specs.Crates.lra_systems.LinearSystems.{LinearSystem, FitKinds}
use Rattle.lra_report.specs.Crates.{lra_linear_spec.Range.InRange, lra_linear_spec.declared.GenKind.GenKind}
use Rattle.lra_row_text.specs.{Lists.shown_generators, Part.ReportGenerator, Part.Part, Rows.ReportRow}

-- none if there is no list
abbrev pub optional_generators : Option (LinearSystem GenKind) → List ReportGenerator
optional_generators None = []
optional_generators (Some g) = shown_generators g.rows g.kinds

-- column 0 of each generator is as its kind asks
abbrev pub FitOptionally : Option (LinearSystem GenKind) → Type 0
FitOptionally None = Unit {0}
FitOptionally (Some g) = FitKinds g.rows g.kinds

-- a row's numbers are in the range of those that are computed with
pub record IsRowInRange (r : ReportRow) : Type 0 where
  pub constant_in : InRange r.constant
  pub coefficients_in : AllByRecursion InRange r.coefficients

-- the numbers of all rows of a part are in the range of those that are computed with
abbrev pub IsPartInRange : Part → Type 0
IsPartInRange p = AllByRecursion IsRowInRange p.rows
