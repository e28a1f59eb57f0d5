-- Rows of states as the code writes them.
use Rattle.std.specs.List.{flat_map, AllByRecursion}
use Rattle.std.specs.Prelude.{ℕ, ⊤, List, Option, None, Some}
use Rattle.lra_certify.specs.Crates.lra_certificate_spec.Certificates.{IsPointRow}
use Rattle.lra_certify.specs.Crates.lra_row_text.Texts.{text_line}
use Rattle.lra_certify.specs.Crates.lra_systems.LinearSystems.{LinearSystem, constraints}
use Rattle.lra_certify.specs.Crates.{lra_certificate_spec.CertificateText.row_text}
use Rattle.lra_certify.specs.Crates.{lra_linear_spec.Descriptions.LinearRow, lra_linear_spec.declared.ConKind.ConKind}

abbrev pub rows_text : List LinearRow → List ℕ
rows_text rows = flat_map (λ g. text_line (row_text g)) rows

-- the rows of the list have its dimensions, and numbers of the range
abbrev pub ArePointRows : LinearSystem ConKind → Type 0
ArePointRows rows = AllByRecursion (IsPointRow rows.dims) (constraints rows)

abbrev pub HasPointRows : Option (LinearSystem ConKind) → Type 0
HasPointRows None = ⊤
HasPointRows (Some rows) = ArePointRows rows
