-- How a constraint stands to a polyhedron: which signs its form takes at the points, given by the generators.
use Rattle.std.specs.List.{All}
use Rattle.std.specs.Prelude.{◌≡◌, ◌↔◌, ℤ, pos, ◌<ℤ◌, List, IsTrue}
use Rattle.lra_poly_queries.specs.Crates.lra_linear_spec.Descriptions.{LinearRow, Con, Holds, inequality, equality}
use Rattle.lra_poly_queries.specs.Crates.lra_linear_spec.SetOperations.{Meet, ValidOn}
use Rattle.lra_poly_queries.specs.Crates.lra_linear_spec.Vectors.{entry, negated, product}
use Rattle.lra_poly_queries.specs.Crates.lra_linear_spec.Widening.{holds_with}
use Rattle.lra_poly_queries.specs.Crates.{lra_linear_spec.Points.IsEmptySet, lra_linear_spec.Polyhedra.Polyhedron}
use Rattle.lra_poly_queries.specs.{declared.relation.Missed.Missed, declared.relation.Relation.Relation}

-- no point at which the constraint holds
abbrev pub HoldsNowhere : Polyhedron → LinearRow → Type 0
HoldsNowhere p g = IsEmptySet p.dims (Meet (Con p.rows) (Holds g))

-- it holds on all points, or on none; its form is 0 at all points, or at none
pub record IsRelation (p : Polyhedron) (g : LinearRow) (r : Relation) : Type 0 where
  pub on_all : IsTrue r.holds_on_all ↔ ValidOn p.dims (Con p.rows) g
  pub nowhere : IsTrue r.holds_nowhere ↔ HoldsNowhere p g
  pub all_saturated : IsTrue r.saturated_on_all ↔ ValidOn p.dims (Con p.rows) (equality g.row)
  pub none_saturated : IsTrue r.saturated_nowhere ↔ HoldsNowhere p (equality g.row)

-- ---- a form and a generator
-- nowhere from it does the form fall below 0, or rise above 0
abbrev pub StaysAbove : List ℤ → LinearRow → Type 0
StaysAbove form g = IsTrue (holds_with (inequality form) g)

abbrev pub StaysBelow : List ℤ → LinearRow → Type 0
StaysBelow form g = IsTrue (holds_with (inequality (negated form)) g)

-- it isn't a point at which the form is 0
abbrev pub MissesZero : List ℤ → LinearRow → Type 0
MissesZero form g = ¬ ((pos 0 <ℤ entry g.row 0) × (product form g.row ≡ pos 0))

-- which signs are missed
pub record MissesAt (form : List ℤ) (g : LinearRow) (m : Missed) : Type 0 where
  pub below : IsTrue m.below ↔ StaysAbove form g
  pub zero : IsTrue m.zero ↔ MissesZero form g
  pub above : IsTrue m.above ↔ StaysBelow form g

pub record AreMissed (form : List ℤ) (generators : List LinearRow) (m : Missed) : Type 0 where
  pub below : IsTrue m.below ↔ All (StaysAbove form) generators
  pub zero : IsTrue m.zero ↔ All (MissesZero form) generators
  pub above : IsTrue m.above ↔ All (StaysBelow form) generators
