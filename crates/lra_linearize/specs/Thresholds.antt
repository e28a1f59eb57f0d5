-- Rows that are added to a list, each once.
use Rattle.std.specs.Prelude.{◌≡◌, ℤ, List, fold, map}
use Rattle.lra_linearize.specs.Crates.lra_linear_spec.declared.ConKind.{ConKind}
use Rattle.lra_linearize.specs.Crates.lra_linear_spec.declared.ConKind.TheVariants.{Ge}
use Rattle.lra_linearize.specs.Crates.lra_systems.LinearSystems.{LinearSystem}
use Rattle.lra_analysis_spec.specs.Thresholds.{with_threshold_row}

-- the list has these inequalities more, after the others: those that aren't there, and are narrow
pub record HasTaken (old new : LinearSystem ConKind) (rows : List (List ℤ)) : Type 0 where
  pub dims : new.dims ≡ old.dims
  pub are : new.rows ≡ fold with_threshold_row old.rows rows
  pub kinds : old.kinds ≡ map (λ row. Ge) old.rows → new.kinds ≡ map (λ row. Ge) new.rows
