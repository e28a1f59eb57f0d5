-- The rank of a polyhedron over thresholds. It falls with each widening that isn't the old value: the affine hull
-- grows, or a threshold is lost, or an inequality goes that none of these rows stands for.
use Rattle.std.specs.Prelude.{◌≡◌, ◌⊎◌, ◌<◌, ◌&&◌, ℕ, suc, Bool, true, false, not, List, [], ◌∷◌, length, Result, Ok}
use Rattle.std.specs.{List.filter, List.list_all, List.list_any, Prelude.Err}
use Rattle.lra_poly_widening.specs.Crates.lra_linear_spec.CheckedArithmetic.{checked_product}
use Rattle.lra_poly_widening.specs.Crates.lra_linear_spec.Widening.{holds_with, is_tight_as}
use Rattle.lra_poly_widening.specs.Crates.{lra_linear_spec.Descriptions.LinearRow, lra_linear_spec.Polyhedra.Polyhedron}

abbrev pub fits : {A E : Type 0} → Result A E → Bool
fits (Ok x) = true
fits (Err e) = false

-- the row holds with each generator of P, and each product stays in the range
abbrev pub holds_in_range : Polyhedron → LinearRow → Bool
holds_in_range p r = list_all (λ g. fits (checked_product r.row g.row) && holds_with r g) p.generators

abbrev pub held_thresholds : Polyhedron → List LinearRow → List LinearRow
held_thresholds p given = filter (holds_in_range p) given

-- the inequalities of P whose saturated generators are those of none of the rows
abbrev pub is_free : Polyhedron → List LinearRow → LinearRow → Bool
is_free p rows r = not r.equal && not (list_any (is_tight_as p.generators r) rows)

abbrev pub free : Polyhedron → List LinearRow → List LinearRow
free p rows = filter (is_free p rows) p.rows

-- the equalities, one more than the dimensions if there is no point
abbrev pub equalities_from : List LinearRow → Polyhedron → ℕ
equalities_from [] p = suc p.dims
equalities_from (g ∷ generators) p = length (filter (λ r. r.equal) p.rows)

pub record PolyhedronRank : Type 0 where
  pub equalities : ℕ
  pub held : ℕ
  pub free : ℕ

abbrev pub rank_of : Polyhedron → List LinearRow → PolyhedronRank
rank_of p given = record {
  equalities = equalities_from p.generators p;
  held = length (held_thresholds p given);
  free = length (free p (held_thresholds p given));
}

-- the first number that differs is lower
abbrev pub IsLowerRank : PolyhedronRank → PolyhedronRank → Type 0
IsLowerRank a b = (a.equalities < b.equalities) ⊎ ((a.equalities ≡ b.equalities) ×
    ((a.held < b.held) ⊎ ((a.held ≡ b.held) × (a.free < b.free))))

-- the rows that are still given at a head whose value P becomes R
abbrev pub kept_thresholds : Polyhedron → Polyhedron → List LinearRow → List LinearRow
kept_thresholds p r given = filter (λ g. holds_in_range p g && holds_in_range r g) given

-- the rank falls from P to R
abbrev pub Falls : Polyhedron → Polyhedron → List LinearRow → Type 0
Falls p r given = IsLowerRank (rank_of r (kept_thresholds p r given)) (rank_of p given)
