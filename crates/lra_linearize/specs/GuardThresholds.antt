-- Rows that are added to a list.
use Rattle.std.specs.Prelude.{◌≡◌, ℤ, List, ◌++◌, map}
use Rattle.lra_linearize.specs.Crates.lra_linear_spec.declared.ConKind.{ConKind}
use Rattle.lra_linearize.specs.Crates.lra_linear_spec.declared.ConKind.TheVariants.{Ge}
use Rattle.lra_linearize.specs.Crates.lra_systems.LinearSystems.{LinearSystem}

-- the list has these inequalities more, after the others
pub record HasMore (old new : LinearSystem ConKind) (rows : List (List ℤ)) : Type 0 where
  pub dims : new.dims ≡ old.dims
  pub are : new.rows ≡ old.rows ++ rows
  pub kinds : new.kinds ≡ old.kinds ++ map (λ row. Ge) rows
