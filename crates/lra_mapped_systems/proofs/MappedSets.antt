-- The image of a polyhedron under a map of points that is linear in their rows: its generators, mapped.
use Rattle.std.proofs.Common.{◌≡◌, ℕ, suc, ◌<◌, List, length, map, ap, sym, ◌∙◌, subst, ℤ, pos, ◌*ℤ◌, ◌<ℤ◌, arith, inl, inr}
use Rattle.std.proofs.lemmas.Int.{ints}
use Rattle.std.specs.List.{Contains}
use Rattle.lra_mapped_systems.specs.Crates.{lra_linear_spec.Cones.Generated, lra_linear_spec.Descriptions.Gen, lra_linear_spec.Descriptions.LinearRow, lra_linear_spec.Descriptions.system_of}
use Rattle.lra_mapped_systems.specs.Crates.{lra_linear_spec.Points.IsPoint, lra_linear_spec.Points.PointSet, lra_linear_spec.Points.SamePoint, lra_linear_spec.Polyhedra.IsPolyhedron}
use Rattle.lra_mapped_systems.specs.Crates.{lra_linear_spec.Polyhedra.Polyhedron, lra_linear_spec.Vectors.entry, lra_linear_spec.Vectors.negated, lra_linear_spec.Vectors.sum_of}
use Rattle.lra_mapped_systems.proofs.Crates.lra_linear_spec.Descriptions.{gen_generated, generated_gen}
use Rattle.lra_mapped_systems.proofs.Crates.{lra_linear_spec.Combinations.generated_same, lra_linear_spec.LinearMaps.sum_generated, lra_linear_spec.Membership.contains_none, lra_linear_spec.Ring.ring}
use Rattle.lra_mapped_systems.proofs.Crates.{lra_linear_spec.Ring.v, lra_linear_spec.Ring.◌⊗◌, lra_linear_spec.SetOperations.has_vertex, lra_linear_spec.Signs.times_positive}
use Rattle.lra_mapped_systems.proofs.Sums.{IsLinear, generated_mapped, generated_same_point, mapped_by, row_of_sum, sum_mapped, system_mapped}

-- the rows m r are those of a linear map f that keeps column 0
pub record IsMapOf (f : (ℕ → ℤ) → ℕ → ℤ) (m : List ℤ → List ℤ) (width : ℕ) : Type 0 where
  pub linear : IsLinear f
  pub divisor : (u : ℕ → ℤ) → f u 0 ≡ u 0
  pub opposite : (r : List ℤ) → m (negated r) ≡ negated (m r)
  pub entries : (r : List ℤ) → length r ≡ width → (j : ℕ) → entry (m r) j ≡ f (entry r) j

-- the point of a set of n dimensions that is mapped to x
pub record MappedFrom (n : ℕ) (m : List ℤ → List ℤ) (P : PointSet) (x : List ℤ) : Type 0 where
  pub from : List ℤ
  pub is_point : IsPoint n from
  pub inside : P from
  pub same : SamePoint x (m from)

pub mapped_in : (f : (ℕ → ℤ) → ℕ → ℤ) (m : List ℤ → List ℤ) (n : ℕ) (list : List LinearRow) (x y : List ℤ) →
    IsMapOf f m (suc n) → ((t : List ℤ) → Contains (system_of list) t → length t ≡ suc n) →
    pos 0 <ℤ entry x 0 → IsPoint n y → SamePoint x (m y) → Gen list y → Gen (mapped_by m list) x
mapped_in f m n list x y h widths px py s g =
    let first : entry (m y) 0 ≡ entry y 0 = h.entries y py.width 0 ∙ h.divisor (entry y) in
    generated_gen (mapped_by m list) (entry x)
    (generated_same_point (system_of (mapped_by m list)) x (m y) px
    (subst (λ (z : ℤ). pos 0 <ℤ z) (sym first) py.divisor) s
    (subst (λ (l : List (List ℤ)). Generated l (entry (m y))) (sym (system_mapped m h.opposite list))
    (generated_same (map m (system_of list)) (f (entry y)) (entry (m y)) (λ j. sym (h.entries y py.width j))
    (generated_mapped f h.linear m (system_of list) (entry y) (λ r k. h.entries r (widths r k))
    (gen_generated list (entry y) g)))))

pub mapped_from : (f : (ℕ → ℤ) → ℕ → ℤ) (m : List ℤ → List ℤ) (n : ℕ) (list : List LinearRow) (x : List ℤ) →
    IsMapOf f m (suc n) → ((t : List ℤ) → Contains (system_of list) t → length t ≡ suc n) →
    pos 0 <ℤ entry x 0 → Gen (mapped_by m list) x → MappedFrom n m (Gen list) x
mapped_from f m n list x h widths px g =
    let d = subst (λ (l : List (List ℤ)). Generated l (entry x)) (system_mapped m h.opposite list)
    (gen_generated (mapped_by m list) (entry x) g) in
    let k = pos d.multiple in
    let sum = row_of_sum (suc n) d.factors (system_of list) widths in
    let is : (j : ℕ) → entry (m sum.row) j ≡ k *ℤ entry x j = λ j. h.entries sum.row sum.width j ∙
    h.linear.same (entry sum.row) (sum_of d.factors (system_of list)) sum.entries j
    ∙ sym (sum_mapped f h.linear m d.factors (system_of list) (λ r c. h.entries r (widths r c)) j) ∙ sym (d.is_sum j) in
    let first : entry sum.row 0 ≡ k *ℤ entry x 0 = sym (h.divisor (entry sum.row)) ∙
    sym (h.entries sum.row sum.width 0) ∙ is 0 in
    record {
      from = sum.row;
      is_point = record {
        width = sum.width;
        divisor = subst (λ (z : ℤ). pos 0 <ℤ z) (sym first)
            (times_positive k (entry x 0) (above_zero d.multiple d.positive) px);
      };
      inside = generated_gen list (entry sum.row) (generated_same (system_of list) (sum_of d.factors (system_of list))
          (entry sum.row) (λ j. sym (sum.entries j)) (sum_generated (system_of list) d.factors));
      same = λ j. ap (λ (z : ℤ). entry x j *ℤ z) (is 0) ∙
          ring (v (entry x j) ⊗ (v k ⊗ v (entry x 0))) (v k ⊗ v (entry x j) ⊗ v (entry x 0)) (omega arith) ∙
          ap (λ (z : ℤ). z *ℤ entry x 0) (sym (is j));
    }
  where
    above_zero : (m : ℕ) → 0 < m → pos 0 <ℤ pos m
    above_zero m h = omega (arith, ints, h)

-- the rows of a polyhedron's generators
pub widths_of : (p : Polyhedron) → IsPolyhedron p → (t : List ℤ) → Contains (system_of p.generators) t →
    length t ≡ suc p.dims
widths_of p (inl none) t k = absurd (contains_none t (subst (λ (l : List LinearRow). Contains (system_of l) t) none.1 k))
widths_of p (inr h) t k = (has_vertex p h).widths t k
