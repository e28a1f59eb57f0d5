-- A coordinate that may be anything: a line along it, beside the generators.
use Rattle.std.proofs.Common.{◌≡◌, ◌≢◌, ℕ, suc, ◌<◌, List, [], ◌∷◌, ◌++◌, length, ap, sym, ◌∙◌, subst, ℤ, pos, neg_ℤ, ◌+ℤ◌, ◌*ℤ◌, ◌<ℤ◌, arith, ◌⊎◌, inl, inr}
use Rattle.std.proofs.{lemmas.Bool.cases_eq, lemmas.Int.ints}
use Rattle.std.specs.Prelude.{IfSome, Option, None, Some}
use Rattle.lra_poly_images.specs.Crates.lra_linear_spec.Descriptions.{Con, Gen, LinearRow, line, system_of}
use Rattle.lra_poly_images.specs.Crates.lra_linear_spec.Polyhedra.{IsPolyhedron, IsPolyhedronOf, Polyhedron}
use Rattle.lra_poly_images.specs.Crates.lra_linear_spec.Vectors.{blend, entry, negated, sum_of}
use Rattle.lra_poly_images.specs.Crates.lra_systems.LinearSystems.{LinearSystem, generators}
use Rattle.lra_poly_images.specs.Crates.{lra_linear_spec.Cones.Generated, lra_linear_spec.OperationStrain.unit_row, lra_linear_spec.Points.IsPoint, lra_linear_spec.Points.SameSet}
use Rattle.lra_poly_images.specs.Crates.{lra_linear_spec.SetOperations.Forget, lra_linear_spec.SetOperations.SameBut, lra_linear_spec.declared.GenKind.GenKind}
use Rattle.lra_poly_images.proofs.Crates.lra_linear_spec.Combinations.{generated_divided, generated_plus, generated_same, generated_times}
use Rattle.lra_poly_images.proofs.Crates.lra_linear_spec.LinearMaps.{generated_left, generated_right, sum_generated}
use Rattle.lra_poly_images.proofs.Crates.lra_linear_spec.Ring.{ring, v, ⊖, ◌⊕◌, ◌⊗◌}
use Rattle.lra_poly_images.proofs.Crates.lra_linear_spec.Signs.{as_nat, positive_is_nonnegative, positive_nat, times_positive}
use Rattle.lra_poly_images.proofs.Crates.lra_linear_spec.UnitRows.{unit_here, unit_length, unit_other}
use Rattle.lra_poly_images.proofs.Crates.{lra_descriptions.SeveralKinds.system_append, lra_linear_spec.Descriptions.gen_generated, lra_linear_spec.Descriptions.generated_gen}
use Rattle.lra_poly_images.proofs.Crates.{lra_linear_spec.Lines.line_times, lra_linear_spec.Polyhedra.con_gen, lra_linear_spec.Products.blend_length, lra_linear_spec.Products.entry_blend}
use Rattle.lra_mapped_systems.proofs.{ListLemmas.line_seen, Sums.with_line}
use Rattle.lra_poly.proofs.{PolyLemmas.same_polyhedron, TakenGenerators.Takes}

-- ---- into the cone
-- d x = e from + f unit, if the columns but k are those of from
other_column : (xj yj x0 y0 u f : ℤ) → u ≡ pos 0 → xj *ℤ y0 ≡ yj *ℤ x0 → (x0 *ℤ yj) +ℤ (f *ℤ u) ≡ y0 *ℤ xj
other_column xj yj x0 y0 u f eu e =
    ap (λ (z : ℤ). (x0 *ℤ yj) +ℤ (f *ℤ z)) eu ∙ ring (v x0 ⊗ v yj ⊕ v f ⊗ v (pos 0)) (v yj ⊗ v x0) (omega arith) ∙
    sym e ∙ ring (v xj ⊗ v y0) (v y0 ⊗ v xj) (omega arith)

this_column : (xk yk x0 y0 u : ℤ) → u ≡ pos 1 → (x0 *ℤ yk) +ℤ (((y0 *ℤ xk) +ℤ neg_ℤ (x0 *ℤ yk)) *ℤ u) ≡ y0 *ℤ xk
this_column xk yk x0 y0 u eu =
    ap (λ (z : ℤ). (x0 *ℤ yk) +ℤ (((y0 *ℤ xk) +ℤ neg_ℤ (x0 *ℤ yk)) *ℤ z)) eu ∙
    ring (v x0 ⊗ v yk ⊕ (v y0 ⊗ v xk ⊕ ⊖ (v x0 ⊗ v yk)) ⊗ v (pos 1)) (v y0 ⊗ v xk) (omega arith)

forgotten_in : (n k : ℕ) (list : List LinearRow) (x y : List ℤ) → k < suc n → pos 0 <ℤ entry x 0 → pos 0 <ℤ entry y 0 →
    SameBut k x y → Generated (system_of list) (entry y) →
    Generated (system_of (list ++ line (unit_row n k) ∷ [])) (entry x)
forgotten_in n k list x y low px py s g =
    let u = unit_row n k in
    let d = as_nat (entry y 0) (positive_is_nonnegative (entry y 0) py) in
    let e = as_nat (entry x 0) (positive_is_nonnegative (entry x 0) px) in
    let f = (entry y 0 *ℤ entry x k) +ℤ neg_ℤ (entry x 0 *ℤ entry y k) in
    let rows = system_of list ++ u ∷ negated u ∷ [] in
    subst (λ (l : List (List ℤ)). Generated l (entry x)) (sym (system_append list (line u ∷ [])))
    (generated_divided rows d.0 (entry x) (positive_nat (entry y 0) d.0 py d.1)
    (generated_same rows (λ j. (pos e.0 *ℤ entry y j) +ℤ (f *ℤ entry u j)) (λ j. pos d.0 *ℤ entry x j)
    (λ j. ap (λ (z : ℤ). (z *ℤ entry y j) +ℤ (f *ℤ entry u j)) (sym e.1) ∙ column j (cases_eq j k) ∙
    ap (λ (z : ℤ). z *ℤ entry x j) d.1)
    (generated_plus rows (λ j. pos e.0 *ℤ entry y j) (λ j. f *ℤ entry u j)
    (generated_times rows e.0 (entry y) (generated_left (system_of list) (u ∷ negated u ∷ []) (entry y) g))
    (generated_right (system_of list) (u ∷ negated u ∷ []) (λ j. f *ℤ entry u j) (line_times u [] f)))))
  where
    column : (j : ℕ) → (j ≡ k) ⊎ (j ≢ k) →
        (entry x 0 *ℤ entry y j) +ℤ (((entry y 0 *ℤ entry x k) +ℤ neg_ℤ (entry x 0 *ℤ entry y k)) *ℤ entry
        (unit_row n k) j) ≡ entry y 0 *ℤ entry x j
    column j (inl e) = subst (λ (i : ℕ). (entry x 0 *ℤ entry y i) +ℤ
        (((entry y 0 *ℤ entry x k) +ℤ neg_ℤ (entry x 0 *ℤ entry y k)) *ℤ entry (unit_row n k) i) ≡
        entry y 0 *ℤ entry x i) (sym e)
        (this_column (entry x k) (entry y k) (entry x 0) (entry y 0) (entry (unit_row n k) k) (unit_here n k low))
    column j (inr e) = other_column (entry x j) (entry y j) (entry x 0) (entry y 0) (entry (unit_row n k) j)
        ((entry y 0 *ℤ entry x k) +ℤ neg_ℤ (entry x 0 *ℤ entry y k)) (unit_other n k j e) (s j e)

-- ---- and out of it
less_line : (m xj s f u b : ℤ) → m *ℤ xj ≡ s +ℤ (f *ℤ u) → b ≡ (m *ℤ xj) +ℤ (neg_ℤ f *ℤ u) → s ≡ b
less_line m xj s f u b e eb =
    ring (v s) ((v s ⊕ v f ⊗ v u) ⊕ ⊖ (v f) ⊗ v u) (omega arith) ∙ ap (λ (z : ℤ). z +ℤ (neg_ℤ f *ℤ u)) (sym e) ∙ sym eb

less_nothing : (m xj f u b : ℤ) → u ≡ pos 0 → b ≡ (m *ℤ xj) +ℤ (neg_ℤ f *ℤ u) → b ≡ m *ℤ xj
less_nothing m xj f u b eu eb = eb ∙ ap (λ (z : ℤ). (m *ℤ xj) +ℤ (neg_ℤ f *ℤ z)) eu ∙
    ring (v m ⊗ v xj ⊕ ⊖ (v f) ⊗ v (pos 0)) (v m ⊗ v xj) (omega arith)

forgotten_from : (n k : ℕ) (list : List LinearRow) (x : List ℤ) → 0 < k → k < suc n → IsPoint n x →
    Generated (system_of (list ++ line (unit_row n k) ∷ [])) (entry x) →
    Forget n k (Gen list) x
forgotten_from n k list x above low p g =
    let u = unit_row n k in
    let w = with_line list u (entry x) g in
    let m = pos w.multiple in
    let wide : length x ≡ length u = p.width ∙ sym (unit_length n k) in
    let from = blend m (neg_ℤ w.free) x u in
    let is : (j : ℕ) → entry from j ≡ (m *ℤ entry x j) +ℤ (neg_ℤ w.free *ℤ entry u j) =
    entry_blend m (neg_ℤ w.free) x u wide in
    let other : (j : ℕ) → j ≢ k → entry from j ≡ m *ℤ entry x j =
    λ j e. less_nothing m (entry x j) w.free (entry u j) (entry from j) (unit_other n k j e) (is j) in
    let first : entry from 0 ≡ m *ℤ entry x 0 = other 0 (λ e. omega (arith, e, above)) in
    record {
      from = from;
      is_point = record {
        width = blend_length m (neg_ℤ w.free) x u wide ∙ p.width;
        divisor = subst (λ (z : ℤ). pos 0 <ℤ z) (sym first)
            (times_positive m (entry x 0) (above_zero w.multiple w.positive) p.divisor);
      };
      inside = generated_gen list (entry from) (generated_same (system_of list) (sum_of w.factors (system_of list))
          (entry from)
          (λ j. less_line m (entry x j) (sum_of w.factors (system_of list) j) w.free (entry u j) (entry from j)
          (w.is_sum j) (is j)) (sum_generated (system_of list) w.factors));
      same = λ j e. ap (λ (z : ℤ). entry x j *ℤ z) first ∙
          ring (v (entry x j) ⊗ (v m ⊗ v (entry x 0))) (v m ⊗ v (entry x j) ⊗ v (entry x 0)) (omega arith)
          ∙ ap (λ (z : ℤ). z *ℤ entry x 0) (sym (other j e));
    }
  where
    above_zero : (m : ℕ) → 0 < m → pos 0 <ℤ pos m
    above_zero m h = omega (arith, ints, h)

pub forget_generators : (p : Polyhedron) (k : ℕ) → IsPolyhedron p → 0 < k → k < suc p.dims →
    SameSet p.dims (Forget p.dims k (Con p.rows)) (Gen (p.generators ++ line (unit_row p.dims k) ∷ []))
forget_generators p k h above low = (
  λ x i f. generated_gen (p.generators ++ line (unit_row p.dims k) ∷ []) (entry x)
      (forgotten_in p.dims k p.generators x f.from low i.divisor f.is_point.divisor f.same
      (gen_generated p.generators (entry f.from) ((con_gen p h).0 f.from f.is_point f.inside))),
  λ x i g.
      let f = forgotten_from p.dims k p.generators x above low i
      (gen_generated (p.generators ++ line (unit_row p.dims k) ∷ []) (entry x) g) in
      record {
        from = f.from;
        is_point = f.is_point;
        inside = (con_gen p h).1 f.from f.is_point f.inside;
        same = f.same;
      },
)

pub forget_takes : (p : Polyhedron) (list all : LinearSystem GenKind) (x : ℕ) → IsPolyhedron p → x < p.dims →
    list.dims ≡ p.dims → generators list ≡ p.generators → all.dims ≡ list.dims →
    generators all ≡ generators list ++ line (unit_row list.dims (suc x)) ∷ [] →
    Takes p.dims (Forget p.dims (suc x) (Con p.rows)) (p.generators ++ line (unit_row p.dims (suc x)) ∷ []) all
forget_takes p list all x h low ed eg ad ag = record {
  dimensions = ad ∙ ed;
  are = line_seen (generators all) (generators list) p.generators p.dims list.dims (suc x) ag eg ed;
  same = forget_generators p (suc x) h (omega arith) (omega (arith, low));
}

-- if the line is added from the lists at hand
pub forget_extended : (p : Polyhedron) (made : Option Polyhedron) (along : List LinearRow) (n x : ℕ) → IsPolyhedron p → x < p.dims →
    n ≡ p.dims → along ≡ line (unit_row n (suc x)) ∷ [] → IfSome made (IsPolyhedronOf p.dims (Gen (p.generators ++ along))) →
    IfSome made (IsPolyhedronOf p.dims (Forget p.dims (suc x) (Con p.rows)))
forget_extended p None along n x h low en ea is = tt
forget_extended p (Some q) along n x h low en ea is =
    same_polyhedron p.dims (Forget p.dims (suc x) (Con p.rows)) (Gen (p.generators ++ line (unit_row p.dims (suc x)) ∷ [])) q
    (forget_generators p (suc x) h (omega arith) (omega (arith, low)))
    (subst (λ (l : List LinearRow). IsPolyhedronOf p.dims (Gen (p.generators ++ l)) q)
    (ea ∙ ap (λ (m : ℕ). line (unit_row m (suc x)) ∷ []) en) is)
