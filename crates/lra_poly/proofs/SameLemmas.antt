-- Polyhedra of the same dimensions and constraints are the same.
use Rattle.std.proofs.Common.{◌≡◌, ◌≢◌, ◌∙◌, Bool, false, ap, length, sym, subst}
use Rattle.std.specs.{Bool.one_answer, Prelude.◌↔◌, Prelude.IsTrue}
use Rattle.lra_poly.specs.Crates.lra_systems.LinearSystems.{LinearSystem, constraints}
use Rattle.lra_poly.specs.Crates.{lra_linear_spec.Descriptions.Con, lra_linear_spec.Descriptions.rows_of, lra_linear_spec.Kinds.is_equality, lra_linear_spec.Points.SameSet}
use Rattle.lra_poly.specs.Crates.{lra_linear_spec.Polyhedra.IsPolyhedron, lra_linear_spec.Polyhedra.Polyhedron, lra_linear_spec.declared.ConKind.ConKind}
use Rattle.lra_poly.proofs.Crates.lra_linear_spec.OneSpelling.{same_points_same_lists}
use Rattle.lra_description_pair.proofs.OwnRows.{rows_of_given}
use Rattle.lra_poly.specs.Equality.{polyhedron_Decides, polyhedron_eq}

pub same_rows_same : (p q : Polyhedron) → IsPolyhedron p → IsPolyhedron q → q.dims ≡ p.dims → p.rows ≡ q.rows → p ≡ q
same_rows_same p q h k d e = same_points_same_lists p q h k d (λ x i c. subst (λ l. Con l x) e c, λ x i c. subst (λ l. Con l x) (sym e) c)

pub same_decides : (p q : Polyhedron) (one two : LinearSystem ConKind) (b : Bool) → IsPolyhedron p → IsPolyhedron q → q.dims ≡ p.dims → constraints one ≡ p.rows → constraints two ≡ q.rows →
    IsTrue b ↔ (constraints one ≡ constraints two) → IsTrue b ↔ (p ≡ q)
same_decides p q one two b h k d e f is = (
  λ t. same_rows_same p q h k d (sym e ∙ is.0 t ∙ f),
  λ s. is.1 (e ∙ ap (λ (x : Polyhedron). x.rows) s ∙ sym f),
)

pub other_dims : (p q : Polyhedron) → p.dims ≢ q.dims → IsTrue false ↔ (p ≡ q)
other_dims p q other = (λ t. let wrong : ⊥ = cc in absurd wrong, λ s. absurd (other (ap (λ (x : Polyhedron). x.dims) s)))

-- in the same dimensions lists are the same exactly if points are
pub same_points : (p q : Polyhedron) (b : Bool) → IsPolyhedron p → IsPolyhedron q → p.dims ≡ q.dims → IsTrue b ↔ (p ≡ q) → IsTrue b ↔ SameSet p.dims (Con p.rows) (Con q.rows)
same_points p q b h k d is = (
  λ t. subst (λ (r : Polyhedron). SameSet p.dims (Con p.rows) (Con r.rows)) (is.0 t) (λ x i c. c, λ x i c. c),
  λ s. is.1 (same_points_same_lists p q h k (sym d) s),
)

-- what says that both are the same is their equality
pub same_is_eq : (p q : Polyhedron) (b : Bool) → IsTrue b ↔ (p ≡ q) → b ≡ polyhedron_eq p q
same_is_eq p q b is = one_answer b (polyhedron_eq p q) is (polyhedron_Decides p q)

-- the numbers of the list are those of the polyhedron's constraints
pub rows_of_constraints : (p : Polyhedron) (list : LinearSystem ConKind) → constraints list ≡ p.rows → length list.kinds ≡ length list.rows → list.rows ≡ rows_of p.rows
rows_of_constraints p list e l = sym (rows_of_given is_equality list.rows list.kinds (sym l)) ∙ ap rows_of e
