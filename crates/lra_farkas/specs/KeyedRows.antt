-- Rows with what decides their places in another order.
use Rattle.lra_farkas.specs.Crates.{lra_linear_spec.Descriptions.LinearRow, lra_linear_spec.Kinds.is_equality}
use Rattle.lra_farkas.specs.declared.orders.Keyed.{Keyed}

abbrev pub row_of_keyed : Keyed → LinearRow
row_of_keyed k = record { row = k.row; equal = is_equality k.kind }
