-- The polyhedra of lists of constraints, such as the parts of a value.
use Rattle.std.specs.List.{Contains}
use Rattle.std.specs.Prelude.{◌≡◌, ◌⊎◌, ℤ, pos, List, [], ◌∷◌}
use Rattle.lra_poly_queries.specs.Crates.lra_linear_spec.OperationStrain.{FromRowsStrains}
use Rattle.lra_poly_queries.specs.Crates.lra_linear_spec.Polyhedra.{IsPolyhedronOf, Polyhedron}
use Rattle.lra_poly_queries.specs.Crates.{lra_linear_spec.Descriptions.Con, lra_linear_spec.Points.IsWithin}
use Rattle.lra_poly_queries.specs.Crates.{lra_linear_spec.Strain.Loss, lra_linear_spec.declared.ConKind.ConKind}
use Rattle.lra_poly.specs.{Outcomes.IfExact, Outcomes.IfFlagged, declared.outcome.Outcome.Outcome}
use Rattle.lra_systems.specs.LinearSystems.{LinearSystem, constraints}

-- some polyhedron has the store s, which is the point with the divisor 1
abbrev pub SomeHas : List Polyhedron → List ℤ → Type 0
SomeHas [] s = ⊥
SomeHas (p ∷ ps) s = Con p.rows (pos 1 ∷ s) ⊎ SomeHas ps s

-- a polyhedron for each list, in their order: with at least its points; with just these
abbrev pub AreAround : List (LinearSystem ConKind) → List Polyhedron → Type 0
AreAround [] [] = Unit {0}
AreAround [] (p ∷ ps) = ⊥
AreAround (part ∷ parts) [] = ⊥
AreAround (part ∷ parts) (p ∷ ps) =
    ((p.dims ≡ part.dims) × IsWithin part.dims (Con (constraints part)) (Con p.rows)) × AreAround parts ps

abbrev pub ArePolyhedraOf : List (LinearSystem ConKind) → List Polyhedron → Type 0
ArePolyhedraOf [] [] = Unit {0}
ArePolyhedraOf [] (p ∷ ps) = ⊥
ArePolyhedraOf (part ∷ parts) [] = ⊥
ArePolyhedraOf (part ∷ parts) (p ∷ ps) =
    IsPolyhedronOf part.dims (Con (constraints part)) p × ArePolyhedraOf parts ps

-- one of the lists exceeds a limit
pub record SomePartStrains (parts : List (LinearSystem ConKind)) (loss : Loss) : Type 0 where
  pub part : LinearSystem ConKind
  pub has_part : Contains parts part
  pub strains : FromRowsStrains part.dims (constraints part) loss

-- flagged or not, they have all points; if the outcome is exact they have no other; it is flagged only on strain
pub record AreMadeOf (parts : List (LinearSystem ConKind)) (made : List Polyhedron) (o : Outcome) : Type 0 where
  pub around : AreAround parts made
  pub exact : IfExact (ArePolyhedraOf parts made) o
  pub flagged : IfFlagged (SomePartStrains parts) o
