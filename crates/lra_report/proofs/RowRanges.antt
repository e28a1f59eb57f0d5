-- Rows whose numbers are in the range are shown so.
use Rattle.std.proofs.{Common.ℤ, Common.List, Common.[], Common.◌∷◌, Common.arith, lemmas.List.Elements.All-head, lemmas.List.Elements.All-tail}
use Rattle.std.specs.List.{All, AllByRecursion}
use Rattle.lra_report.specs.Crates.{lra_linear_spec.Range.InRange, lra_linear_spec.declared.ConKind.ConKind}
use Rattle.lra_row_text.specs.{Lists.shown_rows, Shown.report_row}
use Rattle.lra_report.specs.Rows.{IsRowInRange}

each : (zs : List ℤ) → All InRange zs → AllByRecursion InRange zs
each [] h = tt
each (z ∷ zs) h = (All-head InRange z zs h, each zs (All-tail InRange z zs h))

row_in_range : (r : List ℤ) (k : ConKind) → All InRange r → IsRowInRange (report_row r k)
row_in_range [] k h = record { constant_in = omega arith; coefficients_in = tt }
row_in_range (c ∷ cs) k h = record { constant_in = All-head InRange c cs h; coefficients_in = each cs (All-tail InRange c cs h) }

pub rows_in_range : (rows : List (List ℤ)) (kinds : List ConKind) → All (All InRange) rows → AllByRecursion IsRowInRange (shown_rows rows kinds)
rows_in_range [] kinds h = tt
rows_in_range (r ∷ rows) [] h = tt
rows_in_range (r ∷ rows) (k ∷ kinds) h = (row_in_range r k (All-head (All InRange) r rows h), rows_in_range rows kinds (All-tail (All InRange) r rows h))
