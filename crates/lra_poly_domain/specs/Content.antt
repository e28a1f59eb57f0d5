-- What a polyhedron and a head of one hold, and which stores they have.
use Rattle.std.specs.Prelude.{◌≡◌, ◌&&◌, suc, ℤ, pos, int_le, Bool, false, not, cond, map, List, [], ◌∷◌, length}
use Rattle.std.specs.{List.All, List.Contains, List.list_all, List.list_any, Ordering.int_eq}
use Rattle.lra_domain.specs.declared.Included.{Included}
use Rattle.lra_domain.specs.declared.Included.TheVariants.{Yes, No, Wide}
use Rattle.lra_linear_spec.specs.declared.Excess as E
use Rattle.lra_linear_spec.specs.{Descriptions.Con, Descriptions.LinearRow, Descriptions.rows_of, Kinds.constraint_kind}
use Rattle.lra_linear_spec.specs.{OperationStrain.InclusionStrains, Points.IsWithin, Polyhedra.Polyhedron}
use Rattle.lra_linear_spec.specs.{Range.InRange, Representable.IsRepresentable, declared.ConKind.ConKind}
use Rattle.lra_poly_domain.specs.Crates.lra_systems.LinearSystems.{LinearSystem}

-- what a loop's head holds: the polyhedron that was reached, and the widening thresholds that no growth has struck
pub record HeadContent : Type 0 where
  pub value : Polyhedron
  pub thresholds : List LinearRow

-- a head that is held: its value is, and each widening threshold has a number for each dimension and a constant, in the
-- range
abbrev pub WellFormedHead : HeadContent → Type 0
WellFormedHead h = IsRepresentable h.value
    × ((g : LinearRow) → Contains h.thresholds g → (length g.row ≡ suc h.value.dims) × All InRange g.row)

-- the list has a number for each dimension, and as a point it meets every constraint
abbrev pub PolyhedronGamma : Polyhedron → List ℤ → Type 0
PolyhedronGamma p s = (length s ≡ p.dims) × Con p.rows (pos 1 ∷ s)

-- ---- parts
-- a constant below 0 and no coefficient: as an inequality it holds at no point
abbrev pub is_negative : List ℤ → Bool
is_negative [] = false
is_negative (c ∷ cs) = not (int_le (pos 0) c) && list_all (λ x. int_eq x (pos 0)) cs

abbrev pub is_absurd : LinearRow → Bool
is_absurd r = not r.equal && is_negative r.row

-- the constraints as a list of rows with their kinds
abbrev pub listed : Polyhedron → LinearSystem ConKind
listed p = record { dims = p.dims; rows = rows_of p.rows; kinds = map (λ r. constraint_kind r.equal) p.rows }

-- the constraints are the one part; none if one of them holds at no point, as in a polyhedron without a point
abbrev pub polyhedron_parts : Polyhedron → List (LinearSystem ConKind)
polyhedron_parts p = cond (list_any is_absurd p.rows) [] (listed p ∷ [])

-- ---- covering
-- each point of the first is in the second; a second without parts covers only what has none
pub record PolyhedronLeq (a b : Polyhedron) : Type 0 where
  pub dims : a.dims ≡ b.dims
  pub within : IsWithin a.dims (Con a.rows) (Con b.rows)
  pub partless : polyhedron_parts b ≡ [] → polyhedron_parts a ≡ []

-- what the inclusion of the first in the second may answer: Wide only if a product passes
abbrev pub PolyhedronAnswers : Polyhedron → Polyhedron → Included → Type 0
PolyhedronAnswers a b Yes = PolyhedronLeq a b
PolyhedronAnswers a b No = ¬ PolyhedronLeq a b
PolyhedronAnswers a b Wide = (e : E.Excess) × InclusionStrains a b e
