-- Worked examples of heads: x from 0 to 1 becomes x from 0 to 9.
use Rattle.std.proofs.Common.{◌≡◌, pos, negsuc, [], ◌∷◌, refl}
use Rattle.lra_domain.specs.declared.Mode.TheVariants as how
use Rattle.lra_linear_spec.specs.{Descriptions.LinearRow, Descriptions.inequality, Polyhedra.Polyhedron}
use Rattle.lra_poly_domain.specs.{Content.listed, Content.polyhedron_parts, Heads.thresholds_left}

abbrev to_one : Polyhedron
to_one = record {
  dims = 1;
  rows = inequality (pos 0 ∷ pos 1 ∷ []) ∷ inequality (pos 1 ∷ negsuc 0 ∷ []) ∷ [];
  generators = inequality (pos 1 ∷ pos 0 ∷ []) ∷ inequality (pos 1 ∷ pos 1 ∷ []) ∷ [];
}

abbrev to_nine : Polyhedron
to_nine = record {
  dims = 1;
  rows = inequality (pos 0 ∷ pos 1 ∷ []) ∷ inequality (pos 9 ∷ negsuc 0 ∷ []) ∷ [];
  generators = inequality (pos 1 ∷ pos 0 ∷ []) ∷ inequality (pos 1 ∷ pos 9 ∷ []) ∷ [];
}

abbrev at_most_nine : LinearRow
at_most_nine = inequality (pos 9 ∷ negsuc 0 ∷ [])

abbrev at_most_five : LinearRow
at_most_five = inequality (pos 5 ∷ negsuc 0 ∷ [])

-- of the thresholds x <= 9 and x <= 5 a widening leaves the first, a join both
pub widening_strikes : thresholds_left how.Limited to_one to_nine (at_most_nine ∷ at_most_five ∷ []) ≡ at_most_nine ∷ []
widening_strikes = refl

pub join_strikes_none : thresholds_left how.Join to_one to_nine (at_most_nine ∷ at_most_five ∷ []) ≡ at_most_nine ∷ at_most_five ∷ []
join_strikes_none = refl

-- a polyhedron with a point has one part, one with the row -1 >= 0 none
pub one_part : polyhedron_parts to_one ≡ listed to_one ∷ []
one_part = refl

pub no_part : polyhedron_parts (record { dims = 1; rows = inequality (negsuc 0 ∷ pos 0 ∷ []) ∷ []; generators = [] }) ≡ []
no_part = refl
