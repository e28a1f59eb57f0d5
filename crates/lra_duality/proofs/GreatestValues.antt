-- What the generators say of the greatest value of a form on a polyhedron.
use Rattle.std.proofs.Common.{◌≡◌, ◌≢◌, ◌⊎◌, ℕ, zero, suc, ◌<◌, Bool, true, false, List, [], ◌∷◌, ◌++◌, length, ap, get_or, refl, sym, ◌∙◌, subst, ℤ, pos, negsuc, neg_ℤ, ◌+ℤ◌, ◌*ℤ◌, ◌<ℤ◌, ◌≤ℤ◌, inl}
use Rattle.std.proofs.{Common.inr, Common.arith, lemmas.Int.ints, lemmas.List.Elements.All-contains}
use Rattle.std.specs.List.{All, Contains}
use Rattle.lra_duality.specs.Crates.lra_linear_spec.Descriptions.{LinearRow, rows_as, inequality, system_of}
use Rattle.lra_duality.specs.Crates.lra_linear_spec.Polyhedra.{HasPoint, IsPolyhedron, Polyhedron, positivity}
use Rattle.lra_duality.specs.Crates.lra_linear_spec.Vectors.{blend, entry, negated, product}
use Rattle.lra_duality.specs.Crates.lra_systems.LinearSystems.{LinearSystem, generators, rows_by_kind}
use Rattle.lra_duality.specs.Crates.{lra_linear_spec.Kinds.is_line, lra_linear_spec.Points.IsPoint, lra_linear_spec.declared.GenKind.GenKind}
use Rattle.lra_duality.proofs.Crates.lra_linear_spec.Descriptions.{FromGiven, gen_generated, generated_gen, system_from, system_has, system_has_negated}
use Rattle.lra_duality.proofs.Crates.lra_linear_spec.Products.{dot_linear, dot_negated, dot_same, entry_blend, entry_negated, product_comm}
use Rattle.lra_duality.proofs.Crates.lra_linear_spec.Ring.{mul_nonnegative, ring, v, ⊖, ◌⊕◌, ◌⊗◌}
use Rattle.lra_duality.proofs.Crates.{lra_linear_spec.Combinations.generated_row, lra_linear_spec.LinearMaps.generated_nonneg, lra_linear_spec.Lines.zeros_length}
use Rattle.lra_duality.proofs.Crates.{lra_linear_spec.Membership.contains_head, lra_linear_spec.Membership.contains_none, lra_linear_spec.OneSpelling.positivity_product}
use Rattle.lra_duality.proofs.Crates.{lra_linear_spec.Polyhedra.con_gen, lra_linear_spec.Polyhedra.generators_are_generators, lra_linear_spec.SetOperations.has_vertex}
use Rattle.lra_duality.proofs.Crates.{lra_linear_spec.SetOperations.valid_on_rows, lra_linear_spec.Signs.difference, lra_linear_spec.Signs.in_order, lra_systems.FirstMembers.err_from}
use Rattle.lra_duality.specs.Maxima.{DoesNotImprove, Improves, IsAtMost, IsGreatestValue, IsMaximum, IsUnbounded, OfPoint, ReportsMaximum}
use Rattle.lra_duality.specs.declared.maximum.Maximum.{Maximum}
use Rattle.lra_duality.specs.declared.maximum.Maximum.TheVariants.{Empty, Wide, Unbounded, At}
use Rattle.lra_duality.proofs.{InclusionLemmas.has_member, PolyhedronLemmas.empty_where_none}

-- ---- the inequality that the form is at most num / den
abbrev at_most_row : ℕ → List ℤ → ℤ → ℤ → List ℤ
at_most_row n form num den = blend num (neg_ℤ den) (positivity n) form

at_most_product : (n : ℕ) (form : List ℤ) (num den : ℤ) (x : List ℤ) → length form ≡ suc n →
    product (at_most_row n form num den) x ≡ (num *ℤ entry x 0) +ℤ (neg_ℤ den *ℤ product form x)
at_most_product n form num den x e =
    let b = neg_ℤ den in
    product_comm (blend num b (positivity n) form) x
    ∙ dot_same x (entry (blend num b (positivity n) form)) (λ j. (num *ℤ entry (positivity n) j) +ℤ (b *ℤ entry form j))
    (entry_blend num b (positivity n) form (ap suc (zeros_length n) ∙ sym e))
    ∙ dot_linear x num b (entry (positivity n)) (entry form)
    ∙ ap (λ (z : ℤ). (num *ℤ z) +ℤ (b *ℤ product x form)) (product_comm x (positivity n) ∙ positivity_product n x)
    ∙ ap (λ (z : ℤ). (num *ℤ entry x 0) +ℤ (b *ℤ z)) (product_comm x form)

least : (num den f d : ℤ) → (f *ℤ den) ≤ℤ (num *ℤ d) → pos 0 ≤ℤ ((num *ℤ d) +ℤ (neg_ℤ den *ℤ f))
least num den f d h = subst (λ (z : ℤ). pos 0 ≤ℤ z)
    (ring (v num ⊗ v d ⊕ ⊖ (v f ⊗ v den)) (v num ⊗ v d ⊕ ⊖ (v den) ⊗ v f) (omega arith))
    (difference (f *ℤ den) (num *ℤ d) h)

most : (num den f d : ℤ) → pos 0 ≤ℤ ((num *ℤ d) +ℤ (neg_ℤ den *ℤ f)) → (f *ℤ den) ≤ℤ (num *ℤ d)
most num den f d h = in_order (f *ℤ den) (num *ℤ d) (subst (λ (z : ℤ). pos 0 ≤ℤ z)
    (ring (v num ⊗ v d ⊕ ⊖ (v den) ⊗ v f) (v num ⊗ v d ⊕ ⊖ (v f ⊗ v den)) (omega arith)) h)

-- ---- without bound
-- a direction of the system along which the form grows
record Growth (form : List ℤ) (system : List (List ℤ)) : Type 0 where
  direction : List ℤ
  has : Contains system direction
  level : entry direction 0 ≡ pos 0
  grows : pos 0 <ℤ product form direction

some_sign : (z : ℤ) → z ≢ pos 0 → (pos 0 <ℤ z) ⊎ (pos 0 <ℤ neg_ℤ z)
some_sign (pos zero) n = absurd (n refl)
some_sign (pos (suc k)) n = inl (omega (arith, ints))
some_sign (negsuc k) n = inr (omega (arith, ints))

neg_zero : (z y : ℤ) → y ≡ neg_ℤ z → z ≡ pos 0 → y ≡ pos 0
neg_zero z y e h = omega (arith, ints, e, h)

growth : (form : List ℤ) (list : List LinearRow) (g : LinearRow) → Contains list g → Improves form g →
    Growth form (system_of list)
growth form list g k (level, inl ray) = record {
  direction = g.row;
  has = system_has list g k;
  level = level;
  grows = ray.1;
}
growth form list g k (level, inr line) = elim (some_sign (product form g.row) line.1) [
  | inl up ↦ record { direction = g.row; has = system_has list g k; level = level; grows = up }
  | inr down ↦ record {
    direction = negated g.row;
    has = system_has_negated list g k line.0;
    level = neg_zero (entry g.row 0) (entry (negated g.row) 0) (entry_negated g.row 0) level;
    grows = subst (λ (z : ℤ). pos 0 <ℤ z) (sym (dot_negated form g.row)) down;
  }
]

unbounded_along : (p : Polyhedron) (form : List ℤ) → IsPolyhedron p → length form ≡ suc p.dims → (g : LinearRow) →
    Contains p.generators g → Improves form g → IsUnbounded p form
unbounded_along p form (inl none) e g k i most_value bound =
    absurd (contains_none g (subst (λ (l : List LinearRow). Contains l g) none.1 k))
unbounded_along p form (inr h) e g k i most_value bound =
    let t = growth form p.generators g k i in
    let c = at_most_row p.dims form most_value (pos 1) in
    let valid = valid_on_rows p.dims p.generators (has_vertex p h) c
    (λ y is_point gen. subst (λ (z : ℤ). pos 0 ≤ℤ z) (sym (at_most_product p.dims form most_value (pos 1) y e))
    (least most_value (pos 1) (product form y) (entry y 0) (bound y is_point ((con_gen p (inr h)).1 y is_point gen))))
    t.direction t.has in
    contrary most_value (product form t.direction) (entry t.direction 0) t.grows t.level
    (subst (λ (z : ℤ). pos 0 ≤ℤ z) (at_most_product p.dims form most_value (pos 1) t.direction e) valid)
  where
    contrary : (m f d : ℤ) → pos 0 <ℤ f → d ≡ pos 0 → pos 0 ≤ℤ ((m *ℤ d) +ℤ (neg_ℤ (pos 1) *ℤ f)) → ⊥
    contrary m f d grows level h =
        let z = subst (λ (y : ℤ). pos 0 ≤ℤ ((m *ℤ y) +ℤ (neg_ℤ (pos 1) *ℤ f))) level h in
        let w = subst (λ (y : ℤ). pos 0 ≤ℤ y) (ring (v m ⊗ v (pos 0) ⊕ v (neg_ℤ (pos 1)) ⊗ v f) (⊖ (v f)) (omega arith))
        z in
        omega (arith, ints, grows, w)

-- ---- the greatest value
opposite_least : (den f : ℤ) → pos 0 <ℤ den → ¬ (pos 0 <ℤ f) → pos 0 ≤ℤ (neg_ℤ den *ℤ f)
opposite_least den f h n = subst (λ (z : ℤ). pos 0 ≤ℤ z) (ring (v den ⊗ ⊖ (v f)) (⊖ (v den) ⊗ v f) (omega arith))
    (mul_nonnegative den (neg_ℤ f) (omega (arith, ints, h)) (below f n))
  where
    below : (f : ℤ) → ¬ (pos 0 <ℤ f) → pos 0 ≤ℤ neg_ℤ f
    below (pos zero) n = omega (arith, ints)
    below (pos (suc k)) n = absurd (n (omega (arith, ints)))
    below (negsuc k) n = omega (arith, ints)

-- of a row with 0 in column 0
level_least : (num den f d : ℤ) → pos 0 <ℤ den → d ≡ pos 0 → ¬ (pos 0 <ℤ f) → pos 0 ≤ℤ ((num *ℤ d) +ℤ (neg_ℤ den *ℤ f))
level_least num den f d h level n =
    subst (λ (y : ℤ). pos 0 ≤ℤ ((num *ℤ y) +ℤ (neg_ℤ den *ℤ f))) (sym level)
    (subst (λ (z : ℤ). pos 0 ≤ℤ z) (ring (⊖ (v den) ⊗ v f) (v num ⊗ v (pos 0) ⊕ ⊖ (v den) ⊗ v f) (omega arith))
    (opposite_least den f h n))

no_growth : (form : List ℤ) (g : LinearRow) → DoesNotImprove form g → entry g.row 0 ≡ pos 0 →
    ¬ (pos 0 <ℤ product form g.row)
no_growth form g n level up = by_kind g.equal refl
  where
    by_kind : (b : Bool) → g.equal ≡ b → ⊥
    by_kind true e = n (level, inr (e, λ z. zero_above (product form g.row) up z))
      where
        zero_above : (z : ℤ) → pos 0 <ℤ z → z ≡ pos 0 → ⊥
        zero_above z h e = omega (arith, ints, h, e)
    by_kind false e = n (level, inl (e, up))

no_fall : (form : List ℤ) (g : LinearRow) → DoesNotImprove form g → g.equal ≡ true → entry g.row 0 ≡ pos 0 →
    ¬ (pos 0 <ℤ product form (negated g.row))
no_fall form g n e level up = n (
  level,
  inr (
    e,
    λ z. zero_above (product form g.row) (product form (negated g.row)) z
        (dot_negated form g.row) up,
  ),
)
  where
    zero_above : (z y : ℤ) → z ≡ pos 0 → y ≡ neg_ℤ z → pos 0 <ℤ y → ⊥
    zero_above z y e f h = omega (arith, ints, e, f, h)

-- so each row of the system meets the inequality
least_on_rows : (p : Polyhedron) (form : List ℤ) (num den : ℤ) → IsPolyhedron p → length form ≡ suc p.dims →
    pos 0 <ℤ den → All (DoesNotImprove form) p.generators →
    All (OfPoint (IsAtMost form num den)) p.generators → (t : List ℤ) → Contains (system_of p.generators) t →
    pos 0 ≤ℤ product (at_most_row p.dims form num den) t
least_on_rows p form num den h e positive flat others t k =
    subst (λ (z : ℤ). pos 0 ≤ℤ z) (sym (at_most_product p.dims form num den t e)) (from (system_from p.generators t k))
  where
    Least : List ℤ → Type 0
    Least t = pos 0 ≤ℤ ((num *ℤ entry t 0) +ℤ (neg_ℤ den *ℤ product form t))

    of_given : (g : LinearRow) → Contains p.generators g → Least g.row
    of_given g m = elim (generators_are_generators p h g m) [
      | inl point ↦ least num den (product form g.row) (entry g.row 0)
          (All-contains (OfPoint (IsAtMost form num den)) p.generators g others m point.1)
      | inr level ↦ level_least num den (product form g.row) (entry g.row 0) positive level
          (no_growth form g (All-contains (DoesNotImprove form) p.generators g flat m) level)
    ]

    of_negated : (g : LinearRow) → Contains p.generators g → g.equal ≡ true → Least (negated g.row)
    of_negated g m line = elim (generators_are_generators p h g m) [
      | inl point ↦ let z : true ≡ false = sym line ∙ point.0 in cc
      | inr level ↦ level_least num den (product form (negated g.row)) (entry (negated g.row) 0) positive
          (neg_zero (entry g.row 0) (entry (negated g.row) 0) (entry_negated g.row 0) level)
          (no_fall form g (All-contains (DoesNotImprove form) p.generators g flat m) line level)
    ]

    from : FromGiven p.generators t → Least t
    from f = elim f.sign [
      | inl s ↦ subst Least (sym s) (of_given f.given f.has)
      | inr s ↦ subst Least (sym s.1) (of_negated f.given f.has s.0)
    ]

greatest_value : (p : Polyhedron) (form : List ℤ) (num den : ℤ) (place : ℕ) → IsPolyhedron p →
    length form ≡ suc p.dims → IsMaximum form p.generators (At num den place) → IsGreatestValue p form num den
greatest_value p form num den place (inl none) e a = absurd (contains_none a.2.first.member
    (subst (λ (l : List LinearRow). Contains l a.2.first.member) none.1 (has_member _ _ p.generators place a.2.first)))
greatest_value p form num den place (inr h) e a =
    let first = a.2.first in
    let k : Contains p.generators first.member = has_member _ _ p.generators place first in
    let m : Contains (system_of p.generators) first.member.row = system_has p.generators first.member k in
    let is_point : IsPoint p.dims first.member.row = record
    { width = (has_vertex p h).widths first.member.row m; divisor = first.here.0 } in
    record {
      point = first.member.row;
      is_point = is_point;
      inside = (con_gen p (inr h)).1 first.member.row is_point
          (generated_gen p.generators (entry first.member.row)
          (generated_row (system_of p.generators) first.member.row m));
      value = first.here.1;
      greatest = λ x i c. most num den (product form x) (entry x 0)
          (subst (λ (z : ℤ). pos 0 ≤ℤ z) (at_most_product p.dims form num den x e)
          (generated_nonneg (at_most_row p.dims form num den) (system_of p.generators) (entry x)
          (least_on_rows p form num den (inr h) e a.2.positive a.1 a.2.others)
          (gen_generated p.generators (entry x) ((con_gen p (inr h)).0 x i c))));
      positive = a.2.positive;
      lowest = a.3;
    }

-- ---- each answer
pub maximum_tells : (p : Polyhedron) (form : List ℤ) (answer : Maximum) → IsPolyhedron p → length form ≡ suc p.dims →
    IsMaximum form p.generators answer → ReportsMaximum p form answer
maximum_tells p form Empty h e a = empty_where_none p h a
maximum_tells p form (Wide place) h e a =
    let x = err_from _ a.here in (
      x.0,
      record {
        row = inequality form;
        has_row = contains_head (inequality form) [];
        generator = a.member;
        has_generator = has_member _ _ p.generators place a;
        passes = x.1;
      },
    )
maximum_tells p form (Unbounded place) h e a = unbounded_along p form h e a.1.member
    (has_member _ _ p.generators place a.1) a.1.here
maximum_tells p form (At num den place) h e a = greatest_value p form num den place h e a

-- ---- the first generator is a point
abbrev first_row : List LinearRow → List ℤ
first_row [] = []
first_row (g ∷ list) = g.row

first_point : (p : Polyhedron) (h : HasPoint p) → pos 0 <ℤ entry (first_row p.generators) 0
first_point p h = subst (λ (l : List LinearRow). pos 0 <ℤ entry (first_row l) 0) (sym h.generators_are)
    (by_points h.points h.some_point h.divisors)
  where
    by_points : (points : List (List ℤ)) → points ≢ [] → ((r : List ℤ) → Contains points r → pos 0 <ℤ entry r 0) →
        pos 0 <ℤ entry (first_row (rows_as false points ++ rows_as false h.rays ++ rows_as true h.lines)) 0
    by_points [] n d = absurd (n refl)
    by_points (q ∷ points) n d = d q (contains_head q points)

pub starts_with_point : (p : Polyhedron) (list : LinearSystem GenKind) → IsPolyhedron p → generators list ≡ p.generators →
    length list.kinds ≡ length list.rows → 0 < length list.rows →
    pos 0 <ℤ entry (get_or list.rows 0 []) 0
starts_with_point p list h e n k = by_lists list.rows list.kinds n k e
  where
    by_first : (r : List ℤ) (given : LinearRow) (later : List LinearRow) → given.row ≡ r → given ∷ later ≡ p.generators →
        IsPolyhedron p → pos 0 <ℤ entry r 0
    by_first r given later s e (inl none) = let z : given ∷ later ≡ [] = e ∙ none.1 in cc
    by_first r given later s e (inr h) = subst (λ (x : List ℤ). pos 0 <ℤ entry x 0) (sym (ap first_row e) ∙ s)
        (first_point p h)

    by_lists : (rows : List (List ℤ)) (kinds : List GenKind) → length kinds ≡ length rows → 0 < length rows →
        rows_by_kind is_line rows kinds ≡ p.generators → pos 0 <ℤ entry (get_or rows 0 []) 0
    by_lists [] kinds n k e = absurd (omega (arith, k))
    by_lists (r ∷ rows) [] n k e = absurd (omega (arith, n))
    by_lists (r ∷ rows) (x ∷ kinds) n k e = by_first r (record { row = r; equal = is_line x })
        (rows_by_kind is_line rows kinds) refl e h
