-- Fewer dimensions: the generators without their last columns.
use Rattle.std.proofs.Common.{◌≡◌, ℕ, zero, suc, ◌≤◌, ◌+◌, ◌-◌, List, [], ◌∷◌, take, ap, refl, sym, ◌∙◌, subst, ℤ, pos, neg_ℤ, ◌+ℤ◌, ◌*ℤ◌, arith}
use Rattle.lra_poly_images.specs.Crates.lra_systems.LinearSystems.{LinearSystem, generators}
use Rattle.lra_poly_images.specs.Crates.{lra_linear_spec.Descriptions.Con, lra_linear_spec.Descriptions.Gen, lra_linear_spec.OperationStrain.shortened, lra_linear_spec.Points.IsPoint}
use Rattle.lra_poly_images.specs.Crates.{lra_linear_spec.Points.SameSet, lra_linear_spec.Polyhedra.IsPolyhedron, lra_linear_spec.Polyhedra.Polyhedron, lra_linear_spec.SetOperations.RemoveLast}
use Rattle.lra_poly_images.specs.Crates.{lra_linear_spec.Vectors.entry, lra_linear_spec.Vectors.negated, lra_linear_spec.declared.GenKind.GenKind}
use Rattle.lra_poly_images.proofs.Crates.{lra_linear_spec.Polyhedra.con_gen, lra_linear_spec.Ring.ring, lra_linear_spec.Ring.v, lra_linear_spec.Ring.◌⊕◌, lra_linear_spec.Ring.◌⊗◌}
use Rattle.lra_mapped_systems.proofs.{MappedSets.IsMapOf, MappedSets.mapped_from, MappedSets.mapped_in, MappedSets.widths_of, Sums.IsLinear}
use Rattle.lra_poly.proofs.TakenGenerators.{Takes}

-- the columns before w, and 0 from there on
abbrev pub first_columns : ℕ → (ℕ → ℤ) → ℕ → ℤ
first_columns zero u j = pos 0
first_columns (suc w) u zero = u 0
first_columns (suc w) u (suc j) = first_columns w (λ i. u (suc i)) j

columns_nothing : (w j : ℕ) → first_columns w (λ i. pos 0) j ≡ pos 0
columns_nothing zero j = refl
columns_nothing (suc w) zero = refl
columns_nothing (suc w) (suc j) = columns_nothing w j

columns_plus : (w : ℕ) (a : ℤ) (x s : ℕ → ℤ) (j : ℕ) →
    first_columns w (λ i. (a *ℤ x i) +ℤ s i) j ≡ (a *ℤ first_columns w x j) +ℤ first_columns w s j
columns_plus zero a x s j = ring (v (pos 0)) (v a ⊗ v (pos 0) ⊕ v (pos 0)) (omega arith)
columns_plus (suc w) a x s zero = refl
columns_plus (suc w) a x s (suc j) = columns_plus w a (λ i. x (suc i)) (λ i. s (suc i)) j

columns_same : (w : ℕ) (x y : ℕ → ℤ) → ((i : ℕ) → x i ≡ y i) → (j : ℕ) → first_columns w x j ≡ first_columns w y j
columns_same zero x y e j = refl
columns_same (suc w) x y e zero = e 0
columns_same (suc w) x y e (suc j) = columns_same w (λ i. x (suc i)) (λ i. y (suc i)) (λ i. e (suc i)) j

pub short_entry : (w : ℕ) (r : List ℤ) (j : ℕ) → entry (take w r) j ≡ first_columns w (entry r) j
short_entry zero r j = refl
short_entry (suc w) [] j = sym (columns_nothing (suc w) j)
short_entry (suc w) (x ∷ r) zero = refl
short_entry (suc w) (x ∷ r) (suc j) = short_entry w r j

pub columns_linear : (w : ℕ) → IsLinear (first_columns w)
columns_linear w = record { nothing = columns_nothing w; plus = columns_plus w; same = columns_same w }

short_negated : (w : ℕ) (r : List ℤ) → take w (negated r) ≡ negated (take w r)
short_negated zero r = refl
short_negated (suc w) [] = refl
short_negated (suc w) (x ∷ r) = ap (λ (l : List ℤ). neg_ℤ x ∷ l) (short_negated w r)

pub short_map : (n m : ℕ) → IsMapOf (first_columns (suc n)) (take (suc n)) m
short_map n m = record {
  linear = columns_linear (suc n);
  divisor = λ u. refl;
  opposite = short_negated (suc n);
  entries = λ r l j. short_entry (suc n) r j;
}

pub shortened_generators : (p : Polyhedron) (n k : ℕ) → IsPolyhedron p → p.dims ≡ n + k →
    SameSet n (RemoveLast n k (Con p.rows)) (Gen (shortened n p.generators))
shortened_generators p n k h e = (
  λ x i f. mapped_in (first_columns (suc n)) (take (suc n)) p.dims p.generators x f.from (short_map n (suc p.dims))
      (widths_of p h) i.divisor
      (subst (λ (d : ℕ). IsPoint d f.from) (sym e) f.is_point) f.same
      ((con_gen p h).0 f.from (subst (λ (d : ℕ). IsPoint d f.from) (sym e) f.is_point) f.inside),
  λ x i g.
      let f = mapped_from (first_columns (suc n)) (take (suc n)) p.dims p.generators x (short_map n (suc p.dims))
      (widths_of p h) i.divisor g in
      record {
        from = f.from;
        is_point = subst (λ (d : ℕ). IsPoint d f.from) e f.is_point;
        inside = (con_gen p h).1 f.from f.is_point f.inside;
        same = f.same;
      },
)

split_dims : (d k : ℕ) → k ≤ d → d ≡ (d - k) + k
split_dims d k h = omega (arith, h)

pub remove_takes : (p : Polyhedron) (list all : LinearSystem GenKind) (k n : ℕ) → IsPolyhedron p → k ≤ p.dims →
    generators list ≡ p.generators → n ≡ p.dims - k → all.dims ≡ n →
    generators all ≡ shortened n (generators list) → Takes (p.dims - k) (RemoveLast (p.dims - k) k (Con p.rows))
    (shortened (p.dims - k) p.generators) all
remove_takes p list all k n h low eg en ad ag = record {
  dimensions = ad ∙ en;
  are = ag ∙ ap (shortened n) eg ∙ ap (λ (d : ℕ). shortened d p.generators) en;
  same = shortened_generators p (p.dims - k) k h (split_dims p.dims k low);
}
