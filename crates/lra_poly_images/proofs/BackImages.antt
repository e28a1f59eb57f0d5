-- A preimage under a form is the image under the form that takes it back.
use Rattle.std.proofs.Common.{◌≡◌, ℕ, suc, ◌<◌, List, length, ap, arith, refl, sym, ◌∙◌, subst, ℤ, pos, ◌*ℤ◌, ◌<ℤ◌, Option, Some, ◌+◌, add-one}
use Rattle.std.proofs.lemmas.Option.{IfSome_then}
use Rattle.std.specs.Option.{IfSome}
use Rattle.lra_poly_images.specs.Crates.lra_linear_spec.Polyhedra.{IsPolyhedron, IsPolyhedronOf, Polyhedron}
use Rattle.lra_poly_images.specs.Crates.{lra_linear_forms.Form.Form, lra_linear_forms.Form.form_row, lra_linear_spec.Descriptions.Con, lra_linear_spec.Descriptions.system_of}
use Rattle.lra_poly_images.specs.Crates.{lra_linear_spec.Points.IsPoint, lra_linear_spec.Points.SamePoint, lra_linear_spec.Points.SameSet, lra_linear_spec.SetOperations.Image}
use Rattle.lra_poly_images.specs.Crates.{lra_linear_spec.SetOperations.Preimage, lra_linear_spec.SetOperations.assigned, lra_linear_spec.Vectors.entry, lra_linear_spec.Vectors.product}
use Rattle.lra_poly_images.proofs.Crates.lra_linear_spec.Descriptions.{gen_generated, generated_gen}
use Rattle.lra_poly_images.proofs.Crates.{lra_linear_spec.Polyhedra.con_gen, lra_linear_spec.Ring.ring, lra_linear_spec.Ring.v, lra_linear_spec.Ring.◌⊗◌}
use Rattle.lra_poly.proofs.PolyLemmas.{same_polyhedron}
use Rattle.lra_mapped_systems.specs.Moving.{IsInverse}
use Rattle.lra_mapped_systems.proofs.TakenBack.{assigned_twice, assigned_width, first_stays, taken_forth}
use Rattle.lra_mapped_systems.proofs.{Assigning.assigning, Assigning.assigning_linear, Assigning.set_entry, Sums.generated_same_point, Sums.linear_times}

-- rows of one point are assigned to one point
assigned_same : (k : ℕ) (f x z : List ℤ) → 0 < k → k < length x → k < length z → SamePoint x z → SamePoint (assigned k f x) (assigned k f z)
assigned_same k f x z above lx lz s j =
    let l = assigning_linear k f in
    let ax = assigning k f (entry x) j in
    let az = assigning k f (entry z) j in
    let x0 = entry x 0 in
    let z0 = entry z 0 in
    ap (λ (a : ℤ). a *ℤ entry (assigned k f z) 0) (set_entry k (product f x) x lx j) ∙ ap (λ (a : ℤ). ax *ℤ a) (first_stays k f z above) ∙
    ring (v ax ⊗ v z0) (v z0 ⊗ v ax) (omega arith) ∙ sym (linear_times (assigning k f) l z0 (entry x) j) ∙
    l.same (λ i. z0 *ℤ entry x i) (λ i. x0 *ℤ entry z i)
    (λ i. ring (v z0 ⊗ v (entry x i)) (v (entry x i) ⊗ v z0) (omega arith) ∙ s i ∙ ring (v (entry z i) ⊗ v x0) (v x0 ⊗ v (entry z i)) (omega arith)) j ∙
    linear_times (assigning k f) l x0 (entry z) j ∙ ring (v x0 ⊗ v az) (v az ⊗ v x0) (omega arith) ∙
    ap (λ (a : ℤ). az *ℤ a) (sym (first_stays k f x above)) ∙ ap (λ (a : ℤ). a *ℤ entry (assigned k f x) 0) (sym (set_entry k (product f z) z lz j))

assigned_point : (n k : ℕ) (f x : List ℤ) → 0 < k → IsPoint n x → IsPoint n (assigned k f x)
assigned_point n k f x above i = record {
  width = assigned_width k f x ∙ i.width;
  divisor = subst (λ (z : ℤ). pos 0 <ℤ z) (sym (first_stays k f x above)) i.divisor;
}

-- a polyhedron has each row of a point or none
same_con : (p : Polyhedron) → IsPolyhedron p → (x y : List ℤ) → IsPoint p.dims x → IsPoint p.dims y → SamePoint x y → Con p.rows y → Con p.rows x
same_con p h x y ix iy s c =
    (con_gen p h).1 x ix (generated_gen p.generators (entry x) (generated_same_point (system_of p.generators) x y ix.divisor iy.divisor s
    (gen_generated p.generators (entry y) ((con_gen p h).0 y iy c))))

preimage_same_image : (p : Polyhedron) (k : ℕ) (f g : List ℤ) → IsPolyhedron p → 0 < k → IsInverse k (suc p.dims) f g →
    SameSet p.dims (Preimage k f (Con p.rows)) (Image p.dims k g (Con p.rows))
preimage_same_image p k f g h above t = (
  λ x i s. record {
    from = assigned k f x;
    is_point = assigned_point p.dims k f x above i;
    inside = s;
    same = subst (λ (y : List ℤ). SamePoint x y) (sym (assigned_twice k (suc p.dims) f g t x i.width)) (λ j. refl);
  },
  λ x i s. same_con p h (assigned k f x) s.from (assigned_point p.dims k f x above i) s.is_point
      (subst (λ (y : List ℤ). SamePoint (assigned k f x) y) (assigned_twice k (suc p.dims) g f (taken_forth k (suc p.dims) f g t) s.from s.is_point.width)
      (assigned_same k f x (assigned k g s.from) above (low x i.width) (low (assigned k g s.from) (assigned_width k g s.from ∙ s.is_point.width)) s.same)) s.inside,
)
  where
    low : (r : List ℤ) → length r ≡ suc p.dims → k < length r
    low r l = let a = t.column in omega (arith, l, a)

pub preimage_moved : (p q : Polyhedron) (k : ℕ) (f g : List ℤ) → IsPolyhedron p → 0 < k → IsInverse k (suc p.dims) f g →
    IsPolyhedronOf p.dims (Image p.dims k g (Con p.rows)) q → IsPolyhedronOf p.dims (Preimage k f (Con p.rows)) q
preimage_moved p q k f g h above t = same_polyhedron p.dims (Preimage k f (Con p.rows)) (Image p.dims k g (Con p.rows)) q (preimage_same_image p k f g h above t)

pub preimage_if_moved : (p : Polyhedron) (k : ℕ) (f g : List ℤ) (made : Option Polyhedron) → IsPolyhedron p → 0 < k → IsInverse k (suc p.dims) f g →
    IfSome made (IsPolyhedronOf p.dims (Image p.dims k g (Con p.rows))) → IfSome made (IsPolyhedronOf p.dims (Preimage k f (Con p.rows)))
preimage_if_moved p k f g made h above t m = IfSome_then made m (λ q i. preimage_moved p q k f g h above t i)

-- the form that is reported to take back
pub back_of : (p : Polyhedron) (k : ℕ) (f g : List ℤ) (told : Option (List ℤ)) → length f ≡ suc p.dims → told ≡ Some g → IfSome told (IsInverse k (length f) f) → IsInverse k (suc p.dims) f g
back_of p k f g told l e h = subst (λ (w : ℕ). IsInverse k w f g) l (subst (λ (o : Option (List ℤ)). IfSome o (IsInverse k (length f) f)) e h)

-- ---- as the code states it: column x + 1, and the form's row
pub image_made : (p q : Polyhedron) (x : ℕ) (form row : List ℤ) (told : Option Polyhedron) → row ≡ form → told ≡ Some q →
    IfSome told (IsPolyhedronOf p.dims (Image p.dims (x + 1) row (Con p.rows))) → IsPolyhedronOf p.dims (Image p.dims (suc x) form (Con p.rows)) q
image_made p q x form row told er e h =
    subst (λ (f : List ℤ). IsPolyhedronOf p.dims (Image p.dims (suc x) f (Con p.rows)) q) er
    (subst (λ (k : ℕ). IsPolyhedronOf p.dims (Image p.dims k row (Con p.rows)) q) (add-one x)
    (subst (λ (o : Option Polyhedron). IfSome o (IsPolyhedronOf p.dims (Image p.dims (x + 1) row (Con p.rows)))) e h))

pub preimage_made : (p q : Polyhedron) (x : ℕ) (form row : List ℤ) (told : Option Polyhedron) → row ≡ form → told ≡ Some q →
    IfSome told (IsPolyhedronOf p.dims (Preimage (x + 1) row (Con p.rows))) → IsPolyhedronOf p.dims (Preimage (suc x) form (Con p.rows)) q
preimage_made p q x form row told er e h =
    subst (λ (f : List ℤ). IsPolyhedronOf p.dims (Preimage (suc x) f (Con p.rows)) q) er
    (subst (λ (k : ℕ). IsPolyhedronOf p.dims (Preimage k row (Con p.rows)) q) (add-one x)
    (subst (λ (o : Option Polyhedron). IfSome o (IsPolyhedronOf p.dims (Preimage (x + 1) row (Con p.rows)))) e h))

pub row_width : (form : Form) (row : List ℤ) (n : ℕ) → row ≡ form_row form → length form.coefficients ≡ n → length row ≡ suc n
row_width form row n er e = ap length er ∙ ap suc e
