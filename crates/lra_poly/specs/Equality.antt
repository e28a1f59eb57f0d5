-- Equality of polyhedra by their lists, and what of a polyhedron is hashed.
use Rattle.std.proofs.{Common.◌≡◌, Common.◌++◌, Common.Bool, Common.ap, Math.Bool.beq, lemmas.Bool.Decides.Decides-and}
use Rattle.std.specs.Cmp.{IsEquivalence, booleans_Decides, decided, unsigned_Decides}
use Rattle.std.specs.Cmp.Lexicographic.{pointwise, pointwise_decides}
use Rattle.std.specs.{Bool.Decides, Cmp.Rules.signed_items, Ordering.int_eq, Prelude.◌&&◌, Prelude.nat_eq}
use Rattle.std.specs.Hash as fed
use Rattle.lra_poly.specs.Crates.lra_linear_spec.Descriptions.{LinearRow, rows_of}
use Rattle.lra_poly.specs.Crates.lra_linear_spec.Polyhedra.{Polyhedron}

abbrev pub given_eq : LinearRow → LinearRow → Bool
given_eq g h = pointwise int_eq g.row h.row && beq g.equal h.equal

abbrev pub polyhedron_eq : Polyhedron → Polyhedron → Bool
polyhedron_eq p q = nat_eq p.dims q.dims
    && (pointwise given_eq p.rows q.rows && pointwise given_eq p.generators q.generators)

-- the dimensions, and the numbers of the constraints
abbrev pub polyhedron_hash : Polyhedron → fed.HashWrites
polyhedron_hash p = fed.usize p.dims ++ fed.slice (fed.slice fed.i128) (rows_of p.rows)

given_Decides : (g h : LinearRow) → Decides (given_eq g h) (g ≡ h)
given_Decides g h =
    let both = Decides-and (pointwise int_eq g.row h.row) (beq g.equal h.equal) (signed_items g.row h.row)
    (booleans_Decides g.equal h.equal) in (
      λ e i. record { row = (both.0 e).0 i; equal = (both.0 e).1 i },
      λ e. both.1 (ap (λ (x : LinearRow). x.row) e, ap (λ (x : LinearRow). x.equal) e),
    )

pub polyhedron_Decides : (p q : Polyhedron) → Decides (polyhedron_eq p q) (p ≡ q)
polyhedron_Decides p q =
    let lists = Decides-and (pointwise given_eq p.rows q.rows) (pointwise given_eq p.generators q.generators)
    (pointwise_decides given_Decides p.rows q.rows) (pointwise_decides given_Decides p.generators q.generators) in
    let all = Decides-and (nat_eq p.dims q.dims)
    (pointwise given_eq p.rows q.rows && pointwise given_eq p.generators q.generators)
    (unsigned_Decides p.dims q.dims) lists in (
      λ e i. record { dims = (all.0 e).0 i; rows = (all.0 e).1.0 i; generators = (all.0 e).1.1 i },
      λ e. all.1 (
        ap (λ (x : Polyhedron). x.dims) e,
        (ap (λ (x : Polyhedron). x.rows) e, ap (λ (x : Polyhedron). x.generators) e),
      ),
    )

pub polyhedron_eq_equiv : IsEquivalence polyhedron_eq
polyhedron_eq_equiv = decided polyhedron_eq polyhedron_Decides
