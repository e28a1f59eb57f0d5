-- The standard widening of polyhedra (after Halbwachs 1979) and the limited one, on canonical lists, so that they
-- depend on the two sets alone. A row is tight on P if the generators of P with which its product is 0 are all of
-- P's, or are exactly those with which some row of P has product 0.
use Rattle.std.specs.Prelude.{pos, Bool, ◌||◌, cond, int_le, IsTrue, List, [], ◌∷◌}
use Rattle.std.specs.{Bool.beq, List.Contains, List.list_all, List.list_any, Ordering.int_eq}
use Rattle.lra_linear_spec.specs.Descriptions.{LinearRow, Holds, Con}
use Rattle.lra_linear_spec.specs.{Points.PointSet, Polyhedra.Polyhedron, SetOperations.ValidOn, Vectors.product}

-- the generator saturates the row
abbrev pub saturates : LinearRow → LinearRow → Bool
saturates r g = int_eq (product r.row g.row) (pos 0)

abbrev pub is_tight_as : List LinearRow → LinearRow → LinearRow → Bool
is_tight_as generators r s = list_all (λ g. beq (saturates r g) (saturates s g)) generators

abbrev pub is_tight : Polyhedron → LinearRow → Bool
is_tight p r = list_all (saturates r) p.generators || list_any (is_tight_as p.generators r) p.rows

-- the rows of Q that are tight on P hold; Q if P has no point
abbrev pub StandardFrom : List LinearRow → Polyhedron → Polyhedron → PointSet
StandardFrom [] p q x = Con q.rows x
StandardFrom (g ∷ generators) p q x = (r : LinearRow) → Contains q.rows r → IsTrue (is_tight p r) → Holds r x

abbrev pub StandardWidening : Polyhedron → Polyhedron → PointSet
StandardWidening p q = StandardFrom p.generators p q

-- the constraint holds with each generator of P: with a line, or of an equality, the product is 0
abbrev pub holds_with : LinearRow → LinearRow → Bool
holds_with r g = cond (r.equal || g.equal) (saturates r g) (int_le (pos 0) (product r.row g.row))

abbrev pub is_valid : Polyhedron → LinearRow → Bool
is_valid p r = list_all (holds_with r) p.generators

-- that set met with each widening threshold that is valid on both
abbrev pub LimitedWidening : Polyhedron → Polyhedron → List LinearRow → PointSet
LimitedWidening p q given x =
    StandardWidening p q x
    × ((g : LinearRow) → Contains given g → ValidOn p.dims (Con p.rows) g → ValidOn q.dims (Con q.rows) g →
    Holds g x)
