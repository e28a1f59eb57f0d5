-- The constraints of tests.
use Rattle.lra_linear_forms.specs.Form.{Form, form_row}
use Rattle.lra_duality.specs.Crates.lra_linear_spec.Kinds.{is_equality}
use Rattle.lra_duality.specs.Crates.{lra_linear_spec.Descriptions.LinearRow, lra_linear_spec.declared.ConKind.ConKind}

-- the constraint that a test asks for
abbrev pub test_row : ConKind → Form → LinearRow
test_row kind f = record { row = form_row f; equal = is_equality kind }
