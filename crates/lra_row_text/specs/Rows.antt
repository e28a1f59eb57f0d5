-- Rows over variables, and which stores they hold of.
use Rattle.std.specs.Prelude.{ℤ, List, ◌+ℤ◌}
use Rattle.lra_row_text.specs.Crates.{lra_linear_spec.Descriptions.HoldsWith, lra_linear_spec.Kinds.is_equality}
use Rattle.lra_row_text.specs.Crates.{lra_linear_spec.Vectors.product, lra_linear_spec.declared.ConKind.ConKind}

-- constant + coefficients * variables is at least 0, or is 0; a coefficient for each variable, in order
pub record ReportRow : Type 0 where
  pub kind : ConKind
  pub constant : ℤ
  pub coefficients : List ℤ

abbrev pub RowHolds : ReportRow → List ℤ → Type 0
RowHolds r store = HoldsWith (is_equality r.kind) (r.constant +ℤ product r.coefficients store)
