-- What becomes of generators, some of them points, that are tried from nothing.
use Rattle.std.specs.Prelude.{◌≡◌, ◌≢◌, ◌⊎◌, ℕ, suc, List, [], take}
use Rattle.lra_description_pair.specs.Crates.lra_linear_spec.Descriptions.{AreGenerators, Con, Gen, LinearRow}
use Rattle.lra_description_pair.specs.Crates.lra_linear_spec.OperationStrain.{with_positivity}
use Rattle.lra_description_pair.specs.Crates.lra_linear_spec.Points.{IsEmptySet, IsWithin}
use Rattle.lra_description_pair.specs.Crates.lra_linear_spec.Polyhedra.{IsPolyhedronOf, Polyhedron}
use Rattle.lra_description_pair.specs.Crates.lra_linear_spec.Strain.{Loss, Strains}
use Rattle.lra_description_pair.specs.Crates.lra_linear_spec.declared.ConKind.{ConKind}
use Rattle.lra_description_pair.specs.Crates.lra_systems.LinearSystems.{LinearSystem, constraints}
use Rattle.lra_cone.specs.{Cones.ConeContent, Conversions.IsConversion, Losses.IfLost}
use Rattle.lra_descriptions.specs.ShownLists.{ShowsConstraints, ShowsValid}
use Rattle.lra_description_pair.specs.TriedRows.{IsOfTried, OwnListStrains}

-- The list's constraints hold at the points of the generators: they are those of the cone, after a loss each of its
-- lines and rays that is seen to be valid on all generators. What was lost exceeds a limit; without a loss all of the
-- generators were added.
pub record AreTaken (n : ℕ) (given : List LinearRow) (list : LinearSystem ConKind) (cone : ConeContent)
    (losses : List Loss) : Type 0 where
  pub list_dims : list.dims ≡ n
  pub dims : cone.dims ≡ n
  pub within : IsWithin n (Gen given) (Con (constraints list))
  pub strain : IfLost (Strains (suc n) given) losses
  pub whole : losses ≡ [] → cone.taken ≡ given
  pub columns : losses ≡ [] → AreGenerators cone.taken
  pub some : losses ≡ [] → ¬ (IsEmptySet n (Gen cone.taken))
  pub kept : List LinearRow
  pub conversion : IsConversion [] given kept cone losses
  pub exact : losses ≡ [] → ShowsConstraints n cone.lines cone.rays list
  pub valid : losses ≢ [] → ShowsValid n cone.lines cone.rays given list

-- ---- after a loss
-- so many of the constraints are kept, the first ones
abbrev pub most_kept : ℕ
most_kept = 64

-- the polyhedron of the first of these constraints, tried from nothing
pub record IsOfFirst (n : ℕ) (list : List LinearRow) (p : Polyhedron) : Type 0 where
  pub losses : List Loss
  pub tried : IsOfTried n (with_positivity n []) (take most_kept list) p losses

-- the polyhedron of the generators that were added to the cone; if their canonical list exceeds a limit, that of
-- constraints that hold at each of them
abbrev pub IsMadeOfPoints : ℕ → ConeContent → List LinearRow → Polyhedron → List Loss → Type 0
IsMadeOfPoints n cone list p losses = ((losses ≡ []) × IsPolyhedronOf n (Gen cone.taken) p) ⊎
    (OwnListStrains cone [] losses × IsOfFirst n list p)

-- the polyhedron of the generators if each of them was added; else that of constraints that hold at each
pub record IsOfPoints (n : ℕ) (given : List LinearRow) (p : Polyhedron) (losses : List Loss) : Type 0 where
  pub cone : ConeContent
  pub list : LinearSystem ConKind
  pub left : List Loss
  pub taken : AreTaken n given list cone left
  pub made : ((left ≡ []) × IsMadeOfPoints n cone (constraints list) p losses)
      ⊎ ((left ≢ []) × (losses ≡ left) × IsOfFirst n (constraints list) p)
