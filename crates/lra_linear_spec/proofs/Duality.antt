-- A system and rows that describe each other stay so in both cases of the step: so each list of inequalities has its generators,
-- and each list of generators its inequalities (Minkowski 1896, Weyl 1935).
use Rattle.std.proofs.Common.{List, ap, arith, inl, inr, length, neg_ℤ, pos, subst, sym, ℕ, ℤ, ◌*ℤ◌, ◌+ℤ◌, ◌∙◌, ◌∷◌, ◌≡◌, ◌≤ℤ◌}
use Rattle.std.proofs.lemmas.Int.{ints}
use Rattle.std.specs.List.{Contains}
use Rattle.lra_linear_spec.specs.{Cones.AreDual, Cones.Generated, Cones.Solves, Vectors.blend, Vectors.dot, Vectors.entry}
use Rattle.lra_linear_spec.proofs.Combinations.{generated_divided, generated_more, generated_plus, generated_row, generated_same, generated_times}
use Rattle.lra_linear_spec.proofs.{DoubleDescription.LineStepOf, DoubleDescription.StepOf, Elimination.consequences_after, LinearMaps.bent, LinearMaps.generated_bent, LinearMaps.generated_nonneg}
use Rattle.lra_linear_spec.proofs.{Membership.contains_cases, Membership.contains_head, Membership.contains_tail, Products.blend_length, Products.dot_linear, Products.dot_minus, Products.dot_same}
use Rattle.lra_linear_spec.proofs.{Products.entry_blend, Products.product_comm, Ring.ring, Ring.v, Ring.⊖, Ring.◌⊕◌, Ring.◌⊗◌, Signs.as_nat, Signs.positive_nat, Step.step_complete, Step.step_sound}

-- what the system generates is met by the rows
pub consequence_met : (w : ℕ) (system rows : List (List ℤ)) → AreDual w system rows → (c : ℕ → ℤ) → Generated system c → Solves rows c
consequence_met w system rows d c g r k = generated_nonneg r system c (λ s m. subst (λ z. pos 0 ≤ℤ z) (product_comm s r) (d.meets r k s m)) g

-- the step with an inequality keeps the two descriptions dual
pub dual_step : (w : ℕ) (c : List ℤ) (system rows target : List (List ℤ)) → AreDual w system rows → length c ≡ w → ((t : List ℤ) → Contains target t → length t ≡ w) → StepOf c rows target →
    AreDual w (c ∷ system) target
dual_step w c system rows target d lc lt s =
    record {
      system_widths = λ x k. elim (contains_cases c x system k) [ inl e ↦ ap length (sym e) ∙ lc | inr i ↦ d.system_widths x i ];
      row_widths = lt;
      solutions = λ u lu h. step_complete c rows target s (entry u) (d.solutions u lu (λ x k. h x (contains_tail c x system k))) (h c (contains_head c system));
      consequences = consequences_after c w rows target system s d.row_widths lc d.consequences;
      meets = λ r k x m.
          let both = step_sound c rows target s (entry r) (generated_row target r k) in
          elim (contains_cases c x system m) [
            | inl e ↦ subst (λ y. pos 0 ≤ℤ dot y (entry r)) e both.1
            | inr i ↦ generated_nonneg x rows (entry r) (λ t n. d.meets t n x i) both.0
          ];
    }

-- ---- the step where some line has a positive product with c
pub line_step_complete : (c l : List ℤ) (rows target : List (List ℤ)) → LineStepOf c l rows target → (u : ℕ → ℤ) → Generated rows u → pos 0 ≤ℤ dot c u → Generated target u
line_step_complete c l rows target s u g h =
    let a = dot c (entry l) in
    let w : ℕ → ℤ = λ j. neg_ℤ (entry l j) in
    let n = as_nat (dot c u) h in
    let m = as_nat a (omega (arith, ints, s.positive)) in
    let b : Generated target (bent c a w u) = generated_bent c a w rows target u s.flat g in
    generated_divided target m.0 u (positive_nat a m.0 s.positive m.1)
    (generated_same target (λ j. bent c a w u j +ℤ (pos n.0 *ℤ entry l j)) (λ j. pos m.0 *ℤ u j)
    (λ j. ap (λ z. bent c a w u j +ℤ (z *ℤ entry l j)) (sym n.1) ∙
    ring (v a ⊗ v (u j) ⊕ v (dot c u) ⊗ ⊖ (v (entry l j)) ⊕ v (dot c u) ⊗ v (entry l j)) (v a ⊗ v (u j)) (omega arith) ∙
    ap (λ z. z *ℤ u j) m.1)
    (generated_plus target (bent c a w u) (λ j. pos n.0 *ℤ entry l j) b (generated_times target n.0 (entry l) s.ray)))

-- the same with a line l
pub record LineTarget (c l : List ℤ) (rows target : List (List ℤ)) : Type 0 where
  pub step : LineStepOf c l rows target
  pub inside : (t : List ℤ) → Contains target t → Generated rows (entry t) × (pos 0 ≤ℤ dot c (entry t))

-- the consequences of the system with c, if a line has a positive product with c
line_consequences : (c l : List ℤ) (w : ℕ) (rows target gens : List (List ℤ)) → LineStepOf c l rows target → length c ≡ w →
    ((y : List ℤ) → length y ≡ w → Solves rows (entry y) → Generated gens (entry y)) → (x : List ℤ) → length x ≡ w → Solves target (entry x) → Generated (c ∷ gens) (entry x)
line_consequences c l w rows target gens s lc full x lx h =
    let a = dot c (entry l) in
    let b = dot x (entry l) in
    let same : length x ≡ length c = lx ∙ sym lc in
    let y = blend a (neg_ℤ b) x c in
    let ye : (j : ℕ) → entry y j ≡ (a *ℤ entry x j) +ℤ (neg_ℤ b *ℤ entry c j) = entry_blend a (neg_ℤ b) x c same in
    let hx : (u : ℕ → ℤ) → Generated target u → pos 0 ≤ℤ dot x u = λ u g. generated_nonneg x target u (λ t k. subst (λ z. pos 0 ≤ℤ z) (product_comm t x) (h t k)) g in
    let sy : Solves rows (entry y) = λ r k.
    subst (λ z. pos 0 ≤ℤ z)
    (dot_linear x a (dot c (entry r)) (entry r) (λ j. neg_ℤ (entry l j)) ∙
    ap (λ z. (a *ℤ dot x (entry r)) +ℤ (dot c (entry r) *ℤ z)) (dot_minus x (entry l)) ∙
    ring (v a ⊗ v (dot x (entry r)) ⊕ v (dot c (entry r)) ⊗ ⊖ (v b)) (v a ⊗ v (dot x (entry r)) ⊕ ⊖ (v b) ⊗ v (dot c (entry r))) (omega arith) ∙
    ap (λ z. (a *ℤ z) +ℤ (neg_ℤ b *ℤ dot c (entry r))) (sym (product_comm r x)) ∙ ap (λ z. (a *ℤ dot r (entry x)) +ℤ (neg_ℤ b *ℤ z)) (sym (product_comm r c)) ∙
    sym (dot_linear r a (neg_ℤ b) (entry x) (entry c)) ∙ dot_same r (λ j. (a *ℤ entry x j) +ℤ (neg_ℤ b *ℤ entry c j)) (entry y) (λ j. sym (ye j)))
    (hx (λ j. (a *ℤ entry r j) +ℤ (dot c (entry r) *ℤ neg_ℤ (entry l j))) (s.flat r k)) in
    let m = as_nat a (omega (arith, ints, s.positive)) in
    let n = as_nat b (hx (entry l) s.ray) in
    generated_divided (c ∷ gens) m.0 (entry x) (positive_nat a m.0 s.positive m.1)
    (generated_same (c ∷ gens) (λ j. entry y j +ℤ (pos n.0 *ℤ entry c j)) (λ j. pos m.0 *ℤ entry x j)
    (λ j. ap (λ z. z +ℤ (pos n.0 *ℤ entry c j)) (ye j) ∙ ap (λ z. ((a *ℤ entry x j) +ℤ (neg_ℤ b *ℤ entry c j)) +ℤ (z *ℤ entry c j)) (sym n.1) ∙
    ring ((v a ⊗ v (entry x j) ⊕ ⊖ (v b) ⊗ v (entry c j)) ⊕ v b ⊗ v (entry c j)) (v a ⊗ v (entry x j)) (omega arith) ∙ ap (λ z. z *ℤ entry x j) m.1)
    (generated_plus (c ∷ gens) (entry y) (λ j. pos n.0 *ℤ entry c j) (generated_more c gens (entry y) (full y (blend_length a (neg_ℤ b) x c same ∙ lx) sy))
    (generated_times (c ∷ gens) n.0 (entry c) (generated_row (c ∷ gens) c (contains_head c gens)))))

-- the step with a line keeps the two descriptions dual
pub dual_line_step : (w : ℕ) (c l : List ℤ) (system rows target : List (List ℤ)) → AreDual w system rows → length c ≡ w → ((t : List ℤ) → Contains target t → length t ≡ w) →
    LineTarget c l rows target → AreDual w (c ∷ system) target
dual_line_step w c l system rows target d lc lt s =
    record {
      system_widths = λ x k. elim (contains_cases c x system k) [ inl e ↦ ap length (sym e) ∙ lc | inr i ↦ d.system_widths x i ];
      row_widths = lt;
      solutions = λ u lu h. line_step_complete c l rows target s.step (entry u) (d.solutions u lu (λ x k. h x (contains_tail c x system k))) (h c (contains_head c system));
      consequences = line_consequences c l w rows target system s.step lc d.consequences;
      meets = λ r k x m.
          let both = s.inside r k in
          elim (contains_cases c x system m) [
            | inl e ↦ subst (λ y. pos 0 ≤ℤ dot y (entry r)) e both.1
            | inr i ↦ generated_nonneg x rows (entry r) (λ t n. d.meets t n x i) both.0
          ];
    }
