-- What heads hold.
use Rattle.std.proofs.Common.{◌≡◌, suc, ℤ, List, length}
use Rattle.std.specs.List.{All}
use Rattle.lra_linear_spec.specs.{Kinds.is_equality, Polyhedra.Polyhedron, Range.InRange, Representable.IsRepresentable, declared.ConKind.ConKind}
use Rattle.lra_poly_domain.proofs.Crates.lra_poly.RepresentableLemmas.{listed_in_range}
use Rattle.lra_poly_domain.specs.Crates.lra_systems.LinearSystems.{LinearSystem, constraints}
use Rattle.lra_poly_widening.proofs.WideningLemmas.{seen_columns}
use Rattle.lra_poly_domain.specs.{Content.WellFormedHead, Growth.head}

-- a formed polyhedron and a list of rows of its width make a formed head
pub head_is_formed : (p : Polyhedron) (given : LinearSystem ConKind) (rows : List (List ℤ)) → IsRepresentable p → given.dims ≡ p.dims →
    rows ≡ given.rows → All (λ r. length r ≡ suc given.dims) rows → All (All InRange) rows →
    WellFormedHead (head p (constraints given))
head_is_formed p given rows fine d e widths in_range = (
  fine,
  λ g has. (
    seen_columns is_equality p.dims given.dims given rows e d widths g has,
    listed_in_range is_equality given rows e in_range g has,
  ),
)
