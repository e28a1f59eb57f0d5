-- Conversions of lists: the cone of the rows that were added one by one.
use Rattle.std.specs.List.{Contains}
use Rattle.std.specs.Prelude.{◌≡◌, ◌⊎◌, ℕ, suc, List, [], ◌∷◌, ◌++◌}
use Rattle.lra_cone.specs.Crates.lra_linear_spec.Descriptions.{LinearRow}
use Rattle.lra_cone.specs.Crates.lra_linear_spec.Strain.{Loss, Strains}
use Rattle.lra_cone.specs.{Cones.ConeContent, Losses.IfLost}

-- After those added all these were tried in their order. Each was added, and is kept; or it was left out after
-- those that were added until then, which exceed a limit with it: so the next loss reports.
abbrev pub AreTried : ℕ → List LinearRow → List LinearRow → List LinearRow → List Loss → Type 0
AreTried w taken [] kept losses = (kept ≡ []) × (losses ≡ [])
AreTried w taken (g ∷ all) kept losses =
    ((more : List LinearRow) × (kept ≡ g ∷ more) × AreTried w (taken ++ g ∷ []) all more losses)
    ⊎ ((loss : Loss) × (others : List Loss) × (losses ≡ loss ∷ others) × (loss.chosen ≡ taken) × (loss.further ≡ g)
    × Strains w (taken ++ g ∷ []) loss × AreTried w taken all kept others)

-- After the first rows all were tried in their order: those kept are among them, and are all if none was left out;
-- the first that was left out exceeds a limit.
pub record IsConversion (first all kept : List LinearRow) (cone : ConeContent) (losses : List Loss) : Type 0 where
  pub taken : cone.taken ≡ first ++ kept
  pub among : (g : LinearRow) → Contains kept g → Contains all g
  pub whole : losses ≡ [] → kept ≡ all
  pub strain : IfLost (Strains (suc cone.dims) (first ++ all)) losses
  pub tried : AreTried (suc cone.dims) first all kept losses
