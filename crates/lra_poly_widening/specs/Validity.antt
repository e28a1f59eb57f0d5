-- Whether a row holds with each generator, tried in order: the first with which it doesn't, or with which its product
-- passes the range, decides.
use Rattle.std.specs.{List.All, List.Contains, Prelude.◌≡◌, Prelude.List, Prelude.Err}
use Rattle.lra_poly_widening.specs.Crates.lra_duality.Inclusions.{Satisfies, Violates}
use Rattle.lra_poly_widening.specs.Crates.lra_linear_spec.CheckedArithmetic.{checked_product}
use Rattle.lra_poly_widening.specs.Crates.lra_linear_spec.Descriptions.{LinearRow}
use Rattle.lra_poly_widening.specs.declared.validity.Validity.{Validity}
use Rattle.lra_poly_widening.specs.declared.validity.Validity.TheVariants.{Holds, Fails, Wide}

abbrev pub IsValidity : List LinearRow → LinearRow → Validity → Type 0
IsValidity generators r Holds = All (λ g. Satisfies g r) generators
IsValidity generators r Fails = (g : LinearRow) × Contains generators g × Violates g r
IsValidity generators r (Wide e) = (g : LinearRow) × Contains generators g × (checked_product r.row g.row ≡ Err e)
