-- Time-elapse: the generators of the first, and those of the second as directions.
use Rattle.std.proofs.Common.{◌≡◌, ℕ, zero, suc, ◌<◌, List, [], ◌∷◌, ◌++◌, length, map, ap, refl, sym, ◌∙◌, subst, ℤ, pos, ◌+ℤ◌, ◌*ℤ◌, ◌<ℤ◌, ◌≤ℤ◌, arith, inl, inr, ◌⊎◌}
use Rattle.std.proofs.lemmas.List.Elements.{Contains-append_cases}
use Rattle.std.specs.List.{Contains}
use Rattle.lra_poly_images.specs.Crates.lra_linear_spec.Descriptions.{Con, Gen, LinearRow, system_of}
use Rattle.lra_poly_images.specs.Crates.lra_linear_spec.OperationStrain.{FromGeneratorsStrains, TimeElapseStrains, as_directions}
use Rattle.lra_poly_images.specs.Crates.lra_linear_spec.Points.{IsEmptySet, IsPoint, IsWithin}
use Rattle.lra_poly_images.specs.Crates.lra_linear_spec.Polyhedra.{HasPoint, IsPolyhedron, IsPolyhedronOf, Polyhedron, falsity}
use Rattle.lra_poly_images.specs.Crates.lra_linear_spec.Vectors.{blend, cleared, entry, negated, product}
use Rattle.lra_poly_images.specs.Crates.{lra_linear_spec.Cones.Generated, lra_linear_spec.SetOperations.OnTheWay, lra_linear_spec.SetOperations.TimeElapse, lra_linear_spec.Strain.Loss}
use Rattle.lra_poly_images.proofs.Crates.lra_linear_spec.Combinations.{generated_divided, generated_plus, generated_row, generated_same, generated_times}
use Rattle.lra_poly_images.proofs.Crates.lra_linear_spec.Descriptions.{gen_generated, generated_gen}
use Rattle.lra_poly_images.proofs.Crates.lra_linear_spec.LinearMaps.{generated_left, generated_nonneg, generated_right}
use Rattle.lra_poly_images.proofs.Crates.lra_linear_spec.Products.{blend_length, dot_linear, dot_same, entry_blend, product_none}
use Rattle.lra_poly_images.proofs.Crates.lra_linear_spec.Ring.{ring, v, ◌⊕◌, ◌⊗◌}
use Rattle.lra_poly_images.proofs.Crates.lra_linear_spec.Signs.{as_nat, divide_nonnegative, positive_is_nonnegative, positive_nat, times_positive}
use Rattle.lra_poly_images.proofs.Crates.{lra_descriptions.SeveralKinds.system_append, lra_duality.PolyhedronLemmas.rows_width, lra_linear_spec.Lines.zeros_length, lra_linear_spec.Membership.map_from}
use Rattle.lra_poly_images.proofs.Crates.{lra_linear_spec.OneSpelling.falsity_never, lra_linear_spec.OneSpelling.far, lra_linear_spec.Polyhedra.con_gen, lra_linear_spec.SetOperations.has_vertex}
use Rattle.lra_poly.specs.{Outcomes.Becomes, Outcomes.IfExact, Outcomes.IfFlagged, Outcomes.IsOfGenerators, declared.outcome.Outcome.Outcome}
use Rattle.lra_poly.proofs.PolyLemmas.{hull_holds, if_exact, if_flagged, valid_with}
use Rattle.lra_mapped_systems.proofs.Sums.{IsLinear, generated_mapped, system_mapped}

-- ---- 0 in column 0
abbrev pub level : (ℕ → ℤ) → ℕ → ℤ
level u zero = pos 0
level u (suc j) = u (suc j)

level_plus : (a : ℤ) (x s : ℕ → ℤ) (j : ℕ) → level (λ i. (a *ℤ x i) +ℤ s i) j ≡ (a *ℤ level x j) +ℤ level s j
level_plus a x s zero = ring (v (pos 0)) (v a ⊗ v (pos 0) ⊕ v (pos 0)) (omega arith)
level_plus a x s (suc j) = refl

level_nothing : (j : ℕ) → level (λ i. pos 0) j ≡ pos 0
level_nothing zero = refl
level_nothing (suc j) = refl

level_same : (x y : ℕ → ℤ) → ((i : ℕ) → x i ≡ y i) → (j : ℕ) → level x j ≡ level y j
level_same x y e zero = refl
level_same x y e (suc j) = e (suc j)

level_linear : IsLinear level
level_linear = record { nothing = level_nothing; plus = level_plus; same = level_same }

cleared_entry : (r : List ℤ) (j : ℕ) → entry (cleared 0 r) j ≡ level (entry r) j
cleared_entry [] zero = refl
cleared_entry [] (suc j) = refl
cleared_entry (x ∷ r) zero = refl
cleared_entry (x ∷ r) (suc j) = refl

cleared_negated : (r : List ℤ) → cleared 0 (negated r) ≡ negated (cleared 0 r)
cleared_negated [] = refl
cleared_negated (x ∷ r) = refl

cleared_length : (r : List ℤ) → length (cleared 0 r) ≡ length r
cleared_length [] = refl
cleared_length (x ∷ r) = refl

cleared_product : (c r : List ℤ) → product c (cleared 0 r) ≡ product (cleared 0 c) r
cleared_product [] r = refl
cleared_product (c ∷ cs) [] = product_none (c ∷ cs) ∙ sym (product_none (pos 0 ∷ cs))
cleared_product (c ∷ cs) (x ∷ r) = ap (λ (z : ℤ). z +ℤ product cs r)
    (ring (v c ⊗ v (pos 0)) (v (pos 0) ⊗ v x) (omega arith))

-- ---- the list's system
elapsed_system : (p q : Polyhedron) → system_of (p.generators ++ as_directions q.generators) ≡
    system_of p.generators ++ map (cleared 0) (system_of q.generators)
elapsed_system p q = system_append p.generators (as_directions q.generators) ∙
    ap (λ (l : List (List ℤ)). system_of p.generators ++ l) (system_mapped (cleared 0) cleared_negated q.generators)

-- ---- what is on the way is generated
first_divisor : (a b c t : ℤ) → b *ℤ (a *ℤ c) ≡ (c *ℤ (b *ℤ a)) +ℤ (c *ℤ (t *ℤ (a *ℤ pos 0)))
first_divisor a b c t = ring (v b ⊗ (v a ⊗ v c)) (v c ⊗ (v b ⊗ v a) ⊕ v c ⊗ (v t ⊗ (v a ⊗ v (pos 0)))) (omega arith)

on_column : (x s d a b c t : ℤ) → (x *ℤ a) *ℤ b ≡ c *ℤ ((s *ℤ b) +ℤ ((t *ℤ d) *ℤ a)) →
    b *ℤ (a *ℤ x) ≡ (c *ℤ (b *ℤ s)) +ℤ (c *ℤ (t *ℤ (a *ℤ d)))
on_column x s d a b c t e =
    ring (v b ⊗ (v a ⊗ v x)) ((v x ⊗ v a) ⊗ v b) (omega arith) ∙ e ∙
    ring (v c ⊗ (v s ⊗ v b ⊕ (v t ⊗ v d) ⊗ v a)) (v c ⊗ (v b ⊗ v s) ⊕ v c ⊗ (v t ⊗ (v a ⊗ v d))) (omega arith)

way_generated : (rows more : List (List ℤ)) (x s q : List ℤ) (t : ℕ) → pos 0 <ℤ entry x 0 → pos 0 <ℤ entry s 0 →
    pos 0 <ℤ entry q 0 →
    ((j : ℕ) → 0 < j → (entry x j *ℤ entry s 0) *ℤ entry q 0 ≡
    entry x 0 *ℤ ((entry s j *ℤ entry q 0) +ℤ ((pos t *ℤ entry q j) *ℤ entry s 0))) → Generated rows (entry s) →
    Generated more (entry q) →
    Generated (rows ++ map (cleared 0) more) (entry x)
way_generated rows more x s q t px ps pq same gs gq =
    let a = as_nat (entry s 0) (positive_is_nonnegative (entry s 0) ps) in
    let b = as_nat (entry q 0) (positive_is_nonnegative (entry q 0) pq) in
    let c = as_nat (entry x 0) (positive_is_nonnegative (entry x 0) px) in
    let all = rows ++ map (cleared 0) more in
    let start = generated_times all c.0 (λ j. pos b.0 *ℤ entry s j)
    (generated_times all b.0 (entry s) (generated_left rows (map (cleared 0) more) (entry s) gs)) in
    let steps = generated_times all c.0 (λ j. pos t *ℤ (pos a.0 *ℤ level (entry q) j))
    (generated_times all t (λ j. pos a.0 *ℤ level (entry q) j) (generated_times all a.0 (level (entry q))
    (generated_right rows (map (cleared 0) more) (level (entry q))
    (generated_mapped level level_linear (cleared 0) more (entry q) (λ r k. cleared_entry r) gq)))) in
    generated_divided all a.0 (entry x) (positive_nat (entry s 0) a.0 ps a.1)
    (generated_divided all b.0 (λ j. pos a.0 *ℤ entry x j) (positive_nat (entry q 0) b.0 pq b.1)
    (generated_same all (λ j. (pos c.0 *ℤ (pos b.0 *ℤ entry s j)) +ℤ
    (pos c.0 *ℤ (pos t *ℤ (pos a.0 *ℤ level (entry q) j)))) (λ j. pos b.0 *ℤ (pos a.0 *ℤ entry x j))
    (λ j. sym (columns (pos a.0) (pos b.0) (pos c.0) a.1 b.1 c.1 j))
    (generated_plus all (λ j. pos c.0 *ℤ (pos b.0 *ℤ entry s j))
    (λ j. pos c.0 *ℤ (pos t *ℤ (pos a.0 *ℤ level (entry q) j))) start steps)))
  where
    columns : (a b c : ℤ) → entry s 0 ≡ a → entry q 0 ≡ b → entry x 0 ≡ c → (j : ℕ) →
        b *ℤ (a *ℤ entry x j) ≡ (c *ℤ (b *ℤ entry s j)) +ℤ (c *ℤ (pos t *ℤ (a *ℤ level (entry q) j)))
    columns a b c ea eb ec zero =
        ap (λ (z : ℤ). b *ℤ (a *ℤ z)) ec ∙ first_divisor a b c (pos t) ∙
        ap (λ (z : ℤ). (c *ℤ (b *ℤ z)) +ℤ (c *ℤ (pos t *ℤ (a *ℤ pos 0)))) (sym ea)
    columns a b c ea eb ec (suc j) = on_column (entry x (suc j)) (entry s (suc j)) (entry q (suc j)) a b c (pos t)
        (subst (λ (z : ℤ). (entry x (suc j) *ℤ z) *ℤ b ≡
        c *ℤ ((entry s (suc j) *ℤ b) +ℤ ((pos t *ℤ entry q (suc j)) *ℤ z))) ea
        (subst (λ (z : ℤ). (entry x (suc j) *ℤ entry s 0) *ℤ z ≡
        c *ℤ ((entry s (suc j) *ℤ z) +ℤ ((pos t *ℤ entry q (suc j)) *ℤ entry s 0))) eb
        (subst (λ (z : ℤ). (entry x (suc j) *ℤ entry s 0) *ℤ entry q 0 ≡
        z *ℤ ((entry s (suc j) *ℤ entry q 0) +ℤ ((pos t *ℤ entry q (suc j)) *ℤ entry s 0))) ec
        (same (suc j) (omega arith)))))

way_in_gen : (p q : Polyhedron) → IsPolyhedron p → IsPolyhedron q → q.dims ≡ p.dims →
    IsWithin p.dims (OnTheWay p.dims (Con p.rows) (Con q.rows)) (Gen (p.generators ++ as_directions q.generators))
way_in_gen p q h k e x i w =
    generated_gen (p.generators ++ as_directions q.generators) (entry x)
    (subst (λ (l : List (List ℤ)). Generated l (entry x)) (sym (elapsed_system p q))
    (way_generated (system_of p.generators) (system_of q.generators) x w.start w.step w.times i.divisor w.starts.divisor
    w.steps.divisor w.same
    (gen_generated p.generators (entry w.start) ((con_gen p h).0 w.start w.starts w.in_first))
    (gen_generated q.generators (entry w.step) ((con_gen q k).0 w.step
    (subst (λ (n : ℕ). IsPoint n w.step) (sym e) w.steps) w.in_second))))

-- ---- and what is generated lies in the time-elapse
record SomePoint (p : Polyhedron) : Type 0 where
  point : List ℤ
  is_point : IsPoint p.dims point
  inside : Con p.rows point

some_point : (p : Polyhedron) → HasPoint p → SomePoint p
some_point p h =
    let w = has_vertex p h in
    let i : IsPoint p.dims w.vertex = record { width = w.widths w.vertex w.has; divisor = w.divisor } in
    record {
      point = w.vertex;
      is_point = i;
      inside = (con_gen p (inr h)).1 w.vertex i
          (generated_gen p.generators (entry w.vertex) (generated_row (system_of p.generators) w.vertex w.has));
    }

-- m steps from the point s by q
way_row : ℕ → List ℤ → List ℤ → List ℤ
way_row m s q = blend (entry q 0) (pos m *ℤ entry s 0) s (cleared 0 q)

way_entry : (m : ℕ) (s q : List ℤ) → length s ≡ length q → (j : ℕ) →
    entry (way_row m s q) j ≡ (entry q 0 *ℤ entry s j) +ℤ ((pos m *ℤ entry s 0) *ℤ level (entry q) j)
unfolding way_row
way_entry m s q e j =
    entry_blend (entry q 0) (pos m *ℤ entry s 0) s (cleared 0 q) (e ∙ sym (cleared_length q)) j ∙
    ap (λ (z : ℤ). (entry q 0 *ℤ entry s j) +ℤ ((pos m *ℤ entry s 0) *ℤ z)) (cleared_entry q j)

way_first : (m : ℕ) (s q : List ℤ) → length s ≡ length q → entry (way_row m s q) 0 ≡ entry q 0 *ℤ entry s 0
way_first m s q e = way_entry m s q e 0 ∙ ring (v (entry q 0) ⊗ v (entry s 0) ⊕ v (pos m) ⊗ v (entry s 0) ⊗ v (pos 0))
    (v (entry q 0) ⊗ v (entry s 0)) (omega arith)

way_point : (n m : ℕ) (s q : List ℤ) → IsPoint n s → IsPoint n q → IsPoint n (way_row m s q)
unfolding way_row
way_point n m s q i k = record {
  width = blend_length (entry q 0) (pos m *ℤ entry s 0) s (cleared 0 q)
      (i.width ∙ sym k.width ∙ sym (cleared_length q)) ∙ i.width;
  divisor = subst (λ (z : ℤ). pos 0 <ℤ z) (sym (way_first m s q (i.width ∙ sym k.width)))
      (times_positive (entry q 0) (entry s 0) k.divisor i.divisor);
}

is_on_way : (n m : ℕ) (p q : Polyhedron) (s y : List ℤ) → IsPoint n s → Con p.rows s → IsPoint n y → Con q.rows y →
    OnTheWay n (Con p.rows) (Con q.rows) (way_row m s y)
is_on_way n m p q s y i inside k within = record {
  start = s;
  starts = i;
  in_first = inside;
  step = y;
  steps = k;
  in_second = within;
  times = m;
  same = columns;
}
  where
    wide : length s ≡ length y
    wide = i.width ∙ sym k.width

    columns : (j : ℕ) → 0 < j → (entry (way_row m s y) j *ℤ entry s 0) *ℤ entry y 0 ≡
        entry (way_row m s y) 0 *ℤ ((entry s j *ℤ entry y 0) +ℤ ((pos m *ℤ entry y j) *ℤ entry s 0))
    columns zero h = absurd (omega (arith, h))
    columns (suc j) h =
        ap (λ (z : ℤ). (z *ℤ entry s 0) *ℤ entry y 0) (way_entry m s y wide (suc j))
        ∙ ring (((v (entry y 0) ⊗ v (entry s (suc j)) ⊕ (v (pos m) ⊗ v (entry s 0)) ⊗ v (entry y (suc j))) ⊗ v
        (entry s 0)) ⊗ v (entry y 0))
        ((v (entry y 0) ⊗ v (entry s 0)) ⊗ (v (entry s (suc j)) ⊗ v (entry y 0) ⊕
        (v (pos m) ⊗ v (entry y (suc j))) ⊗ v (entry s 0))) (omega arith)
        ∙ ap (λ (z : ℤ). z *ℤ ((entry s (suc j) *ℤ entry y 0) +ℤ ((pos m *ℤ entry y (suc j)) *ℤ entry s 0)))
        (sym (way_first m s y wide))

way_product : (c s q : List ℤ) (m : ℕ) → length s ≡ length q →
    product c (way_row m s q) ≡ (entry q 0 *ℤ product c s) +ℤ (pos m *ℤ (entry s 0 *ℤ product c (cleared 0 q)))
unfolding way_row
way_product c s q m e =
    dot_same c (entry (way_row m s q)) (λ j. (entry q 0 *ℤ entry s j) +ℤ
    ((pos m *ℤ entry s 0) *ℤ entry (cleared 0 q) j))
    (entry_blend (entry q 0) (pos m *ℤ entry s 0) s (cleared 0 q) (e ∙ sym (cleared_length q)))
    ∙ dot_linear c (entry q 0) (pos m *ℤ entry s 0) (entry s) (entry (cleared 0 q))
    ∙ ring (v (entry q 0) ⊗ v (product c s) ⊕ v (pos m) ⊗ v (entry s 0) ⊗ v (product c (cleared 0 q)))
    (v (entry q 0) ⊗ v (product c s) ⊕ v (pos m) ⊗ (v (entry s 0) ⊗ v (product c (cleared 0 q)))) (omega arith)

-- an inequality that is valid on the way allows each step
allows_steps : (n : ℕ) (p q : Polyhedron) (s : List ℤ) (c : List ℤ) → IsPoint n s → Con p.rows s →
    ((x : List ℤ) → IsPoint n x → OnTheWay n (Con p.rows) (Con q.rows) x → pos 0 ≤ℤ product c x) → (y : List ℤ) →
    IsPoint n y → Con q.rows y → pos 0 ≤ℤ product (cleared 0 c) y
allows_steps n p q s c i inside valid y k within =
    let a = as_nat (entry s 0) (positive_is_nonnegative (entry s 0) i.divisor) in
    let z = product c (cleared 0 y) in
    let scaled : pos 0 ≤ℤ (entry s 0 *ℤ z) = far (entry y 0 *ℤ product c s) (entry s 0 *ℤ z)
    (λ m. subst (λ (w : ℤ). pos 0 ≤ℤ w) (way_product c s y m (i.width ∙ sym k.width))
    (valid (way_row m s y) (way_point n m s y i k) (is_on_way n m p q s y i inside k within))) in
    subst (λ (w : ℤ). pos 0 ≤ℤ w) (cleared_product c y)
    (divide_nonnegative a.0 z (positive_nat (entry s 0) a.0 i.divisor a.1)
    (subst (λ (w : ℤ). pos 0 ≤ℤ (w *ℤ z)) a.1 scaled))

-- and the start, by no step
stays : (n : ℕ) (p q : Polyhedron) (s y : List ℤ) → IsPoint n s → Con p.rows s → IsPoint n y → Con q.rows y →
    OnTheWay n (Con p.rows) (Con q.rows) s
stays n p q s y i inside k within = record {
  start = s;
  starts = i;
  in_first = inside;
  step = y;
  steps = k;
  in_second = within;
  times = 0;
  same = λ j h. ring ((v (entry s j) ⊗ v (entry s 0)) ⊗ v (entry y 0))
      (v (entry s 0) ⊗ (v (entry s j) ⊗ v (entry y 0) ⊕ (v (pos 0) ⊗ v (entry y j)) ⊗ v (entry s 0))) (omega arith);
}

gen_in_elapse : (p q : Polyhedron) → HasPoint p → HasPoint q → q.dims ≡ p.dims →
    IsWithin p.dims (Gen (p.generators ++ as_directions q.generators)) (TimeElapse p.dims (Con p.rows) (Con q.rows))
gen_in_elapse p q h k e x i g c width valid =
    generated_nonneg c (system_of p.generators ++ map (cleared 0) (system_of q.generators)) (entry x) each
    (subst (λ (l : List (List ℤ)). Generated l (entry x)) (elapsed_system p q)
    (gen_generated (p.generators ++ as_directions q.generators) (entry x) g))
  where
    first : SomePoint p
    first = some_point p h

    second : SomePoint q
    second = some_point q k

    moved : (y : List ℤ) → IsPoint q.dims y → IsPoint p.dims y
    moved y i = subst (λ (n : ℕ). IsPoint n y) e i

    each : (t : List ℤ) → Contains (system_of p.generators ++ map (cleared 0) (system_of q.generators)) t →
        pos 0 ≤ℤ product c t
    each t m = elim (Contains-append_cases (system_of p.generators) (map (cleared 0) (system_of q.generators)) t m) [
      | inl a ↦ valid_with p (inr h) c (λ y j s. valid y j
          (stays p.dims p q y second.point j s (moved second.point second.is_point) second.inside)) t a
      | inr b ↦
          let f = map_from (cleared 0) (system_of q.generators) t b in
          subst (λ (r : List ℤ). pos 0 ≤ℤ product c r) f.2
          (subst (λ (z : ℤ). pos 0 ≤ℤ z) (sym (cleared_product c f.0))
          (valid_with q (inr k) (cleared 0 c) (λ y j s. allows_steps p.dims p q first.point c first.is_point
          first.inside valid y (moved y j) s) f.0 f.1))
    ]

-- ---- the operation
elapse_within : (p q r : Polyhedron) (list : List LinearRow) → IsPolyhedron p → IsPolyhedron q → IsPolyhedron r →
    q.dims ≡ p.dims → r.dims ≡ p.dims →
    list ≡ p.generators ++ as_directions q.generators → IsWithin p.dims (Gen list) (Con r.rows) →
    IsWithin p.dims (TimeElapse p.dims (Con p.rows) (Con q.rows)) (Con r.rows)
elapse_within p q r list h k m e er el within = hull_holds p.dims (OnTheWay p.dims (Con p.rows) (Con q.rows)) r.rows
    (λ c i. rows_width r m c i ∙ ap suc er)
    (λ x i u. within x i (subst (λ (l : List LinearRow). Gen l x) (sym el) (way_in_gen p q h k e x i u)))

elapse_made : (p q r : Polyhedron) → HasPoint p → HasPoint q → q.dims ≡ p.dims →
    IsPolyhedronOf p.dims (Gen (p.generators ++ as_directions q.generators)) r →
    IsPolyhedronOf p.dims (TimeElapse p.dims (Con p.rows) (Con q.rows)) r
elapse_made p q r h k e a = record {
  dimensions = a.dimensions;
  canonical = a.canonical;
  points = (
    elapse_within p q r (p.generators ++ as_directions q.generators) (inr h)
        (inr k) a.canonical e a.dimensions refl a.points.0,
    λ x i c. gen_in_elapse p q h k e x i (a.points.1 x i c),
  );
}

elapse_exact : (p q r : Polyhedron) (list : List LinearRow) (o : Outcome) → HasPoint p → HasPoint q → q.dims ≡ p.dims →
    list ≡ p.generators ++ as_directions q.generators →
    IfExact (IsPolyhedronOf p.dims (Gen list) r) o → IfExact
    (IsPolyhedronOf p.dims (TimeElapse p.dims (Con p.rows) (Con q.rows)) r) o
elapse_exact p q r list o h k e el = if_exact (IsPolyhedronOf p.dims (Gen list) r)
    (IsPolyhedronOf p.dims (TimeElapse p.dims (Con p.rows) (Con q.rows)) r) o
    (λ a. elapse_made p q r h k e (subst (λ (l : List LinearRow). IsPolyhedronOf p.dims (Gen l) r) el a))

-- if the directions are added from the lists at hand
pub elapse_extended : (p q r : Polyhedron) (along second : List LinearRow) → HasPoint p → HasPoint q → q.dims ≡ p.dims →
    along ≡ as_directions second → second ≡ q.generators → IsPolyhedronOf p.dims (Gen (p.generators ++ along)) r →
    IsPolyhedronOf p.dims (TimeElapse p.dims (Con p.rows) (Con q.rows)) r
elapse_extended p q r along second h k e ea es is =
    elapse_made p q r h k e
    (subst (λ (l : List LinearRow). IsPolyhedronOf p.dims (Gen (p.generators ++ l)) r) (ea ∙ ap as_directions es) is)

taken_strain : (p q : Polyhedron) (loss : Loss) → HasPoint p → HasPoint q → q.dims ≡ p.dims →
    FromGeneratorsStrains p.dims (p.generators ++ as_directions q.generators) loss → TimeElapseStrains p q loss
taken_strain p q loss h k e (inl a) = inl a
taken_strain p q loss h k e (inr b) = inr (record {
  result = b.result;
  is_result = elapse_made p q b.result h k e b.is_result;
  strains = b.strains;
})

elapse_strain : (p q : Polyhedron) (list : List LinearRow) (o : Outcome) → HasPoint p → HasPoint q → q.dims ≡ p.dims →
    list ≡ p.generators ++ as_directions q.generators →
    IfFlagged (FromGeneratorsStrains p.dims list) o → IfFlagged (TimeElapseStrains p q) o
elapse_strain p q list o h k e el = if_flagged (FromGeneratorsStrains p.dims list) (TimeElapseStrains p q) o
    (λ loss s. taken_strain p q loss h k e (subst (λ (l : List LinearRow). FromGeneratorsStrains p.dims l loss) el s))

pub elapse_becomes : (p q r : Polyhedron) (list : List LinearRow) (o : Outcome) → HasPoint p → HasPoint q → q.dims ≡ p.dims →
    list ≡ p.generators ++ as_directions q.generators → IsOfGenerators p.dims list r o →
    Becomes p.dims (TimeElapse p.dims (Con p.rows) (Con q.rows)) (TimeElapseStrains p q) r o
elapse_becomes p q r list o h k e el b = record {
  dims = b.dims;
  canonical = b.canonical;
  within = elapse_within p q r list (inr h) (inr k) b.canonical e b.dims el b.within;
  exact = elapse_exact p q r list o h k e el b.exact;
  flagged = elapse_strain p q list o h k e el b.flagged;
}

-- without a point in one of the two there is nothing on the way
pub elapse_nothing : (n : ℕ) (p q r : Polyhedron) → IsEmptySet n (Con p.rows) ⊎ IsEmptySet n (Con q.rows) →
    IsPolyhedron r → r.dims ≡ n → IsEmptySet n (Con r.rows) →
    IsPolyhedronOf n (TimeElapse n (Con p.rows) (Con q.rows)) r
elapse_nothing n p q r none canonical dims empty = record {
  dimensions = dims;
  canonical = canonical;
  points = (
    λ x i hull. absurd (falsity_never n x i (hull (falsity n) (ap suc (zeros_length n)) (λ y j w. absurd (never w)))),
    λ x i c. absurd (empty x i c),
  );
}
  where
    never : {y : List ℤ} → OnTheWay n (Con p.rows) (Con q.rows) y → ⊥
    never w = elim none [ inl a ↦ a w.start w.starts w.in_first | inr b ↦ b w.step w.steps w.in_second ]

-- ---- as the code states it
pub list_is : (p q : Polyhedron) (first second all : List LinearRow) → all ≡ first ++ as_directions second →
    first ≡ p.generators → second ≡ q.generators → all ≡ p.generators ++ as_directions q.generators
list_is p q first second all e ef es = e ∙ ap (λ (l : List LinearRow). l ++ as_directions second) ef ∙
    ap (λ (l : List LinearRow). p.generators ++ as_directions l) es

pub elapse_copied : (p q r : Polyhedron) → r ≡ q → q.dims ≡ p.dims → IsPolyhedron q → IsEmptySet q.dims (Con q.rows) →
    IsPolyhedronOf p.dims (TimeElapse p.dims (Con p.rows) (Con q.rows)) r
elapse_copied p q r er e k none =
    let nothing : IsEmptySet p.dims (Con q.rows) = subst (λ (n : ℕ). IsEmptySet n (Con q.rows)) e none in
    elapse_nothing p.dims p q r (inr nothing) (subst IsPolyhedron (sym er) k) (ap (λ (x : Polyhedron). x.dims) er ∙ e)
    (subst (λ (x : Polyhedron). IsEmptySet p.dims (Con x.rows)) (sym er) nothing)
