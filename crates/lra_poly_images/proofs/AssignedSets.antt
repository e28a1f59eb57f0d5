-- Images: the generators with the form's value as one coordinate.
use Rattle.std.proofs.Common.{◌≡◌, ℕ, suc, ◌<◌, List, ap, sym, ◌∙◌, subst, ℤ, ◌*ℤ◌, arith}
use Rattle.std.specs.Prelude.{IfOk, Result, Ok}
use Rattle.lra_poly_images.specs.Crates.lra_linear_spec.Points.{IsWithin, PointSet, SameSet}
use Rattle.lra_poly_images.specs.Crates.lra_systems.LinearSystems.{LinearSystem, generators}
use Rattle.lra_poly_images.specs.Crates.{lra_linear_spec.Descriptions.Con, lra_linear_spec.Descriptions.Gen, lra_linear_spec.OperationStrain.mapped, lra_linear_spec.Polyhedra.IsPolyhedron}
use Rattle.lra_poly_images.specs.Crates.{lra_linear_spec.Polyhedra.Polyhedron, lra_linear_spec.SetOperations.Forget, lra_linear_spec.SetOperations.Image, lra_linear_spec.SetOperations.assigned}
use Rattle.lra_poly_images.specs.Crates.{lra_linear_spec.Strain.Loss, lra_linear_spec.Vectors.entry, lra_linear_spec.Vectors.product, lra_linear_spec.declared.GenKind.GenKind}
use Rattle.lra_poly_images.proofs.Crates.{lra_linear_spec.Polyhedra.con_gen, lra_linear_spec.Products.entry_set_other}
use Rattle.lra_mapped_systems.proofs.{Assigning.assigned_map, Assigning.assigning, MappedSets.mapped_from, MappedSets.mapped_in, MappedSets.widths_of}
use Rattle.lra_poly.proofs.TakenGenerators.{Takes}

pub assigned_generators : (p : Polyhedron) (k : ℕ) (form : List ℤ) → IsPolyhedron p → 0 < k → k < suc p.dims →
    SameSet p.dims (Image p.dims k form (Con p.rows)) (Gen (mapped k form p.generators))
assigned_generators p k form h above low = (
  λ x i f. mapped_in (assigning k form) (assigned k form) p.dims p.generators x f.from
      (assigned_map k (suc p.dims) form above low) (widths_of p h) i.divisor f.is_point f.same
      ((con_gen p h).0 f.from f.is_point f.inside),
  λ x i g.
      let f = mapped_from (assigning k form) (assigned k form) p.dims p.generators x
      (assigned_map k (suc p.dims) form above low) (widths_of p h) i.divisor g in
      record {
        from = f.from;
        is_point = f.is_point;
        inside = (con_gen p h).1 f.from f.is_point f.inside;
        same = f.same;
      },
)

-- an image forgets no more than the coordinate
pub image_forgets : (n k : ℕ) (form : List ℤ) (P : PointSet) → 0 < k → IsWithin n (Image n k form P) (Forget n k P)
image_forgets n k form P above x i f = record {
  from = f.from;
  is_point = f.is_point;
  inside = f.inside;
  same = λ j other. ap (λ (z : ℤ). entry x j *ℤ z) (sym
      (entry_set_other f.from k 0 (product form f.from) (λ e. omega (arith, e, above)))) ∙ f.same j ∙
      ap (λ (z : ℤ). z *ℤ entry x 0) (entry_set_other f.from k j (product form f.from) other);
}

pub image_takes : (p : Polyhedron) (list all : LinearSystem GenKind) (x : ℕ) (form : List ℤ) → IsPolyhedron p → x < p.dims →
    list.dims ≡ p.dims → generators list ≡ p.generators → all.dims ≡ list.dims →
    generators all ≡ mapped (suc x) form (generators list) →
    Takes p.dims (Image p.dims (suc x) form (Con p.rows)) (mapped (suc x) form p.generators) all
image_takes p list all x form h low ed eg ad ag = record {
  dimensions = ad ∙ ed;
  are = ag ∙ ap (mapped (suc x) form) eg;
  same = assigned_generators p (suc x) form h (omega arith) (omega (arith, low));
}

-- as the code states it
pub image_taken : (p : Polyhedron) (given list : LinearSystem GenKind) (x : ℕ) (form : List ℤ)
    (r : Result (LinearSystem GenKind) Loss) →
    IsPolyhedron p → x < p.dims → given.dims ≡ p.dims → generators given ≡ p.generators → r ≡ Ok list →
    IfOk r (λ all. all.dims ≡ given.dims) → IfOk r (λ all. generators all ≡ mapped (suc x) form (generators given)) →
    Takes p.dims (Image p.dims (suc x) form (Con p.rows)) (mapped (suc x) form p.generators) list
image_taken p given list x form r h low ed eg is dims all =
    image_takes p given list x form h low ed eg
    (subst (λ (q : Result (LinearSystem GenKind) Loss). IfOk q (λ l. l.dims ≡ given.dims)) is dims)
    (subst (λ (q : Result (LinearSystem GenKind) Loss). IfOk q (λ l. generators l ≡ mapped (suc x) form (generators given)))
    is all)
