-- The rank falls with each widening that isn't the old value: the affine hull grows or stays; if it stays, each inequality of the result
-- that no threshold stands for comes from one of the old value's, no two from the same, and not all are reached.
use Rattle.std.proofs.Common.{Bool, List, [], ap, arith, false, inl, inr, length, pos, refl, subst, suc, sym, true, ℕ, ℤ, ◌*ℤ◌, ◌++◌, ◌<◌, ◌∙◌, ◌∷◌, ◌≡◌, ◌≢◌, ◌≤ℤ◌, ◌⊎◌}
use Rattle.std.proofs.lemmas.List.Elements.{Contains-append_cases, Contains-append_left, Contains-append_right}
use Rattle.std.proofs.{lemmas.Bool.cases_lt, lemmas.Bool.or_cases, lemmas.Int.ints}
use Rattle.std.specs.List.{Contains, filter, list_all, list_any}
use Rattle.lra_poly_widening.specs.Crates.lra_linear_spec.Descriptions.{Con, LinearRow, Holds, HoldsWith, rows_as, system_of}
use Rattle.lra_poly_widening.specs.Crates.lra_linear_spec.Polyhedra.{HasPoint, IsPolyhedron, IsWithoutPoint, Polyhedron, falsity}
use Rattle.lra_poly_widening.specs.Crates.lra_linear_spec.Vectors.{dot, entry, negated, product}
use Rattle.lra_poly_widening.specs.Crates.{lra_linear_spec.Cones.Generated, lra_linear_spec.Cones.both_ways, lra_linear_spec.Echelon.Spanned, lra_linear_spec.Points.IsPoint}
use Rattle.lra_poly_widening.specs.Crates.{lra_linear_spec.Points.IsWithin, lra_linear_spec.Widening.is_tight, lra_linear_spec.Widening.is_tight_as, lra_linear_spec.Widening.saturates}
use Rattle.lra_poly_widening.proofs.Crates.lra_linear_spec.Membership.{contains_head, contains_none, filter_from, filter_has}
use Rattle.lra_poly_widening.proofs.Crates.lra_linear_spec.OneSpelling.{cone_solved, falsity_never, given_from, rows_hold, same_points_same_lists, some_member}
use Rattle.lra_poly_widening.proofs.Crates.{lra_linear_spec.CanonicalForms.ray_extreme, lra_linear_spec.CanonicalForms.spanned_in_cone, lra_linear_spec.Descriptions.holds_at_least}
use Rattle.lra_poly_widening.proofs.Crates.{lra_linear_spec.Lines.in_lines, lra_linear_spec.Lines.in_lines_negated, lra_linear_spec.Products.negated_dot, lra_linear_spec.Products.product_comm}
use Rattle.lra_poly_widening.proofs.Crates.{lra_linear_spec.Ring.mul_nonnegative, lra_linear_spec.Saturation.Beside, lra_linear_spec.SetOperations.has_vertex, lra_linear_spec.Signs.between_opposites}
use Rattle.lra_poly_widening.proofs.Crates.{lra_linear_spec.Signs.divide_nonnegative, lra_linear_spec.Spans.spanned_row, lra_linear_spec.Widening.valid_decides}
use Rattle.lra_poly_widening.specs.{Rank.Falls, Rank.equalities_from, Rank.free, Rank.held_thresholds, Rank.holds_in_range, Rank.kept_thresholds, Widenings.KeepsRows}
use Rattle.lra_poly_widening.proofs.SomeMember.{any_said}
use Rattle.lra_poly_widening.proofs.Counting.{IsFree, any_from, equalities_many, free_apart, free_has, free_said, holds_valid, kept_all, kept_at, kept_fewer, kept_held}
use Rattle.lra_poly_widening.proofs.Faces.{IsFlat, beside_back, beside_product, beside_zero, con, equality_flat, facet_not_flat, flat_said, flat_spanned, gen, line_flat, lines_dot, same_face}
use Rattle.lra_poly_widening.proofs.Faces.{spanned_dot, test_above, tight_as_back, tight_as_from, tight_as_said, true_multiple, within_above, within_flat, within_spans}
use Rattle.lra_poly_widening.proofs.{Dimension.Matched, Dimension.few_rows, Dimension.no_longer, Dimension.smaller_span, Facets.beside_same, Facets.facet_row, Facets.no_pivot_first}

-- P lies in R, both with a point, and their affine hulls are the same
record SameHull (p r : Polyhedron) (h : HasPoint p) (k : HasPoint r) : Type 0 where
  dims : r.dims ≡ p.dims
  within : IsWithin p.dims (Con p.rows) (Con r.rows)
  spans : (u : ℕ → ℤ) → Spanned h.equalities u → Spanned k.equalities u

-- the equalities of P are 0 where those of R are
equalities_there : (p r : Polyhedron) (h : HasPoint p) (k : HasPoint r) → SameHull p r h k → (t : List ℤ) → ((e : List ℤ) → Contains k.equalities e → product t e ≡ pos 0) →
    (e : List ℤ) → Contains h.equalities e → product t e ≡ pos 0
equalities_there p r h k s t zeros e m = spanned_dot t k.equalities zeros (entry e) (s.spans (entry e) (spanned_row h.equalities e m))

-- so a line of P is 0 on the generators of R
line_there : (p r : Polyhedron) (h : HasPoint p) (k : HasPoint r) → SameHull p r h k → (u : ℕ → ℤ) → Generated (both_ways h.equalities) u → (t : List ℤ) → Contains (gen r k) t → dot t u ≡ pos 0
line_there p r h k s u g t m = lines_dot t h.equalities (equalities_there p r h k s t (λ e i. product_comm t e ∙ equality_flat r k e i t m)) u g

-- and a line of R on those of P
line_back : (p r : Polyhedron) (h : HasPoint p) (k : HasPoint r) → SameHull p r h k → (u : ℕ → ℤ) → Generated (both_ways k.equalities) u → (t : List ℤ) → Contains (gen p h) t → dot t u ≡ pos 0
line_back p r h k s u g t m = lines_dot t k.equalities (λ e i. product_comm t e ∙ within_flat p r h k s.dims s.within e i t m) u g

in_con : (r : Polyhedron) (k : HasPoint r) (f : List ℤ) → Contains k.facets f → Contains (con r k) f
in_con r k f m = Contains-append_left k.facets (both_ways k.equalities) f m

-- a facet of R isn't 0 on all of P
apart_below : (p r : Polyhedron) (h : HasPoint p) (k : HasPoint r) → SameHull p r h k → (f : List ℤ) → Contains k.facets f → ¬ (IsFlat (gen p h) f)
apart_below p r h k s f m flat =
    (ray_extreme k.equalities k.facets f k.constraints_canonical m).apart
    (spanned_in_cone k.equalities [] (entry f) (s.spans (entry f) (flat_spanned p h f (k.dual.system_widths f (in_con r k f m) ∙ ap suc s.dims) flat)))

-- the facet f of R comes from the facet s of P: f is a multiple of s, that isn't 0, up to the equalities
abbrev ComesFrom : (p : Polyhedron) → HasPoint p → LinearRow → LinearRow → Type 0
ComesFrom p h f s = (b : Beside (both_ways h.equalities) s.row f.row) × (0 < b.other)

-- ---- rows that saturate the same of P as a facet of it
-- what stands beside a facet
beside_facet : (p : Polyhedron) (h : HasPoint p) (s g : LinearRow) → Contains h.facets s.row → length g.row ≡ suc p.dims → holds_in_range p g ≡ true → is_tight_as p.generators s g ≡ true →
    ComesFrom p h g s
beside_facet p h s g m l holds same =
    let b = same_face p h s.row g.row m l (test_above p h g (holds_valid p g holds)) (tight_as_said p h s g same) in
    (b, true_multiple p h s.row g.row b (λ flat. facet_not_flat p h s.row m (λ t i. tight_as_back p h s g same t i (flat t i))))

-- ---- the facet of P that a facet of R comes from
-- the rows that both have
record Setting (p r : Polyhedron) (given : List LinearRow) : Type 0 where
  h : HasPoint p
  k : HasPoint r
  hull : SameHull p r h k
  all_kept : kept_thresholds p r given ≡ held_thresholds p given
  given_widths : (g : LinearRow) → Contains given g → length g.row ≡ suc p.dims
  keeps : KeepsRows p r given

held_given : (p : Polyhedron) (given : List LinearRow) (g : LinearRow) → Contains (held_thresholds p given) g → Contains given g × (holds_in_range p g ≡ true)
held_given p given g m = filter_from (holds_in_range p) given g m

-- a facet of P from which f comes isn't that of a widening threshold, since f would be it too
source_free : (p r : Polyhedron) (given : List LinearRow) (c : Setting p r given) (f s : LinearRow) → IsFree r c.k (kept_thresholds p r given) f → ComesFrom p c.h f s → Contains c.h.facets s.row →
    list_any (is_tight_as p.generators s) (held_thresholds p given) ≡ false
source_free p r given c f s free from m = by_value (list_any (is_tight_as p.generators s) (held_thresholds p given)) refl
  where
    by_value : (b : Bool) → list_any (is_tight_as p.generators s) (held_thresholds p given) ≡ b →
        list_any (is_tight_as p.generators s) (held_thresholds p given) ≡ false
    by_value false e = e
    by_value true e =
        let g = any_said (is_tight_as p.generators s) (held_thresholds p given) e in
        let i = held_given p given g.0 g.1 in
        let b = beside_facet p c.h s g.0 m (c.given_widths g.0 i.0) i.1 g.2 in
        let x = both_ways c.h.equalities in
        let same : is_tight_as r.generators f g.0 ≡ true = tight_as_from r c.k f g.0
        (λ t j z. beside_zero x s.row g.0.row b.0 t (line_there p r c.h c.k c.hull b.0.line b.0.on_line t j)
        (beside_back x s.row f.row from.0 from.1 t (line_there p r c.h c.k c.hull from.0.line from.0.on_line t j) z))
        (λ t j z. beside_zero x s.row f.row from.0 t (line_there p r c.h c.k c.hull from.0.line from.0.on_line t j)
        (beside_back x s.row g.0.row b.0 b.1 t (line_there p r c.h c.k c.hull b.0.line b.0.on_line t j) z)) in
        let found = any_from (is_tight_as r.generators f) (kept_thresholds p r given) g.0 (subst (λ l. Contains l g.0) (sym c.all_kept) g.1) same in
        let none = free.alone in
        absurd (cc)

-- which kind of row it is
kind_of : (b : Bool) → (b ≡ true) ⊎ (b ≡ false)
kind_of true = inl refl
kind_of false = inr refl

equality_row : (p : Polyhedron) (h : HasPoint p) (s : LinearRow) → Contains p.rows s → s.equal ≡ true → Contains h.equalities s.row
equality_row p h s m e = elim (Contains-append_cases (rows_as true h.equalities) (rows_as false h.inequalities) s (subst (λ l. Contains l s) h.rows_are m)) [
  | inl i ↦ (given_from true h.equalities s i).1
  | inr i ↦ let f = (given_from false h.inequalities s i).0 in absurd (cc)
]

facet_of_row : (p : Polyhedron) (h : HasPoint p) (s : LinearRow) → Contains p.rows s → s.equal ≡ false → Contains h.facets s.row
facet_of_row p h s m e = elim (Contains-append_cases (rows_as true h.equalities) (rows_as false h.inequalities) s (subst (λ l. Contains l s) h.rows_are m)) [
  | inl i ↦ let f = (given_from true h.equalities s i).0 in absurd (cc)
  | inr i ↦ (h.shown s.row (given_from false h.inequalities s i).1).0
]

source : (p r : Polyhedron) (given : List LinearRow) (c : Setting p r given) (f : LinearRow) → Contains (free r (kept_thresholds p r given)) f →
    (s : LinearRow) × Contains (free p (held_thresholds p given)) s × ComesFrom p c.h f s
source p r given c f m =
    let free = free_said r c.k (kept_thresholds p r given) f m in
    let shown = c.k.shown f.row free.is_inequality in
    let x = facet_row r c.k c.keeps.rows c.keeps.made c.keeps.widths f.row shown.0 shown.1 in
    by_row free shown.0 x.0 x.2.0 x.2.1 (c.keeps.told x.0 x.1)
  where
    lines : List (List ℤ)
    lines = both_ways c.k.equalities

    from_facet : IsFree r c.k (kept_thresholds p r given) f → Contains c.k.facets f.row → (s : LinearRow) → Contains p.rows s →
        ((t : List ℤ) → Contains (gen p c.h) t → product s.row t ≡ pos 0 → product f.row t ≡ pos 0) →
        (s : LinearRow) × Contains (free p (held_thresholds p given)) s × ComesFrom p c.h f s
    from_facet free shown s i zeros = elim (kind_of s.equal) [
      | inl e ↦ absurd (apart_below p r c.h c.k c.hull f.row shown (λ t j. zeros t j (equality_flat p c.h s.row (equality_row p c.h s i e) t j)))
      | inr e ↦
          let facet = facet_of_row p c.h s i e in
          let b = same_face p c.h s.row f.row facet (c.k.dual.system_widths f.row (in_con r c.k f.row shown) ∙ ap suc c.hull.dims)
          (within_above p r c.h c.k c.hull.dims c.hull.within f.row (in_con r c.k f.row shown)) zeros in
          let from : ComesFrom p c.h f s = (b, true_multiple p c.h s.row f.row b (apart_below p r c.h c.k c.hull f.row shown)) in
          (s, free_has p (held_thresholds p given) s i e (source_free p r given c f s free from facet), from)
    ]

    by_row : IsFree r c.k (kept_thresholds p r given) f → Contains c.k.facets f.row → (g : LinearRow) (b : Beside lines f.row g.row) → 0 < b.other →
        (is_tight p g ≡ true) ⊎ (Contains given g × (holds_in_range p g ≡ true)) →
        (s : LinearRow) × Contains (free p (held_thresholds p given)) s × ComesFrom p c.h f s
    by_row free shown g b above (inr i) =
        let there : Contains (kept_thresholds p r given) g = subst (λ l. Contains l g) (sym c.all_kept) (filter_has (holds_in_range p) given g i.0 i.1) in
        let same : is_tight_as r.generators f g ≡ true = tight_as_from r c.k f g (λ t j. beside_zero lines f.row g.row b t (line_flat r c.k b.line b.on_line t j))
        (λ t j. beside_back lines f.row g.row b above t (line_flat r c.k b.line b.on_line t j)) in
        let found = any_from (is_tight_as r.generators f) (kept_thresholds p r given) g there same in
        let none = free.alone in
        absurd (cc)
    by_row free shown g b above (inl e) = elim (or_cases (list_all (saturates g) p.generators) (list_any (is_tight_as p.generators g) p.rows) e) [
      | inl a ↦ absurd (apart_below p r c.h c.k c.hull f.row shown
          (λ t j. beside_back lines f.row g.row b above t (line_back p r c.h c.k c.hull b.line b.on_line t j) (flat_said p c.h g a t j)))
      | inr a ↦
          let s = any_said (is_tight_as p.generators g) p.rows a in
          from_facet free shown s.0 s.1
          (λ t j z. beside_back lines f.row g.row b above t (line_back p r c.h c.k c.hull b.line b.on_line t j) (tight_as_back p c.h g s.0 s.2 t j z))
    ]

-- ---- no two come from the same
same_given : (f g : LinearRow) → f.row ≡ g.row → f.equal ≡ g.equal → f ≡ g
same_given f g e d =
    ap (λ (r : List ℤ). (let x : LinearRow = record { row = r; equal = f.equal } in x)) e ∙ ap (λ (b : Bool). (let x : LinearRow = record { row = g.row; equal = b } in x)) d

sources_apart : (p r : Polyhedron) (given : List LinearRow) (c : Setting p r given) (f g s : LinearRow) → Contains (free r (kept_thresholds p r given)) f →
    Contains (free r (kept_thresholds p r given)) g →
    ComesFrom p c.h f s → ComesFrom p c.h g s → f ≡ g
sources_apart p r given c f g s m n a b =
    let ff = free_said r c.k (kept_thresholds p r given) f m in
    let fg = free_said r c.k (kept_thresholds p r given) g n in
    let sf = (c.k.shown f.row ff.is_inequality).0 in
    let sg = (c.k.shown g.row fg.is_inequality).0 in
    let x = both_ways c.h.equalities in
    let lg : length g.row ≡ suc r.dims = c.k.dual.system_widths g.row (in_con r c.k g.row sg) in
    let beside = same_face r c.k f.row g.row sf lg (λ t i. c.k.dual.meets t i g.row (in_con r c.k g.row sg))
    (λ t i z. beside_zero x s.row g.row b.0 t (line_there p r c.h c.k c.hull b.0.line b.0.on_line t i)
    (beside_back x s.row f.row a.0 a.1 t (line_there p r c.h c.k c.hull a.0.line a.0.on_line t i) z)) in
    let rows : g.row ≡ f.row = beside_same r c.k f.row g.row beside sf lg (c.k.constraints_canonical.lowest g.row sg) (c.k.constraints_canonical.reduced g.row sg) in
    same_given f g (sym rows) (ff.unequal ∙ sym fg.unequal)

-- ---- if all are reached, R is P
-- a row that stands beside s holds, so s does
scaled_above : (m n : ℕ) (y z : ℤ) → 0 < n → pos m *ℤ y ≡ pos n *ℤ z → pos 0 ≤ℤ y → pos 0 ≤ℤ z
scaled_above m n y z h e a = divide_nonnegative n z h (subst (λ x. pos 0 ≤ℤ x) e (mul_nonnegative (pos m) y (omega (arith, ints)) a))

reached_within : (p r : Polyhedron) (given : List LinearRow) (c : Setting p r given) →
    ((s : LinearRow) → Contains (free p (held_thresholds p given)) s → (f : LinearRow) × Contains (free r (kept_thresholds p r given)) f × ComesFrom p c.h f s) →
    IsWithin p.dims (Con r.rows) (Con p.rows)
reached_within p r given c reached x is_point holds s m = by_kind (kind_of s.equal)
  where
    is_point_there : IsPoint r.dims x
    is_point_there = subst (λ (n : ℕ). IsPoint n x) (sym c.hull.dims) is_point

    zero_there : (e : List ℤ) → Contains c.k.equalities e → product x e ≡ pos 0
    zero_there e i = product_comm x e ∙ between_opposites (product e x) (dot (negated e) (entry x)) (negated_dot e (entry x))
        (cone_solved r c.k x is_point_there holds e (Contains-append_right c.k.facets (both_ways c.k.equalities) e (in_lines c.k.equalities e i)))
        (cone_solved r c.k x is_point_there holds (negated e) (Contains-append_right c.k.facets (both_ways c.k.equalities) (negated e) (in_lines_negated c.k.equalities e i)))

    zero_here : (e : List ℤ) → Contains c.h.equalities e → product x e ≡ pos 0
    zero_here = equalities_there p r c.h c.k c.hull x zero_there

    by_source : (f : LinearRow) → ComesFrom p c.h f s → pos 0 ≤ℤ product f.row x → pos 0 ≤ℤ product s.row x
    by_source f b a = subst (λ z. pos 0 ≤ℤ z) (product_comm x s.row) (scaled_above b.0.times b.0.other (product x f.row) (product x s.row) b.1
        (beside_product (both_ways c.h.equalities) s.row f.row b.0 x (lines_dot x c.h.equalities zero_here b.0.line b.0.on_line)) (subst (λ z. pos 0 ≤ℤ z) (product_comm f.row x) a))

    above : s.equal ≡ false → (b : Bool) → list_any (is_tight_as p.generators s) (held_thresholds p given) ≡ b → pos 0 ≤ℤ product s.row x
    above e false a =
        let f = reached s (free_has p (held_thresholds p given) s m e a) in
        let i = free_said r c.k (kept_thresholds p r given) f.0 f.1 in
        by_source f.0 f.2 (cone_solved r c.k x is_point_there holds f.0.row (in_con r c.k f.0.row (c.k.shown f.0.row i.is_inequality).0))
    above e true a =
        let g = any_said (is_tight_as p.generators s) (held_thresholds p given) a in
        let i = held_given p given g.0 g.1 in
        let j = kept_at p r given g.0 (subst (λ l. Contains l g.0) (sym c.all_kept) g.1) in
        by_source g.0 (beside_facet p c.h s g.0 (facet_of_row p c.h s m e) (c.given_widths g.0 i.0) i.1 g.2)
        (holds_at_least g.0.equal (product g.0.row x) ((valid_decides r c.k g.0).0 (holds_valid r g.0 j.2) x is_point_there holds))

    by_kind : (s.equal ≡ true) ⊎ (s.equal ≡ false) → Holds s x
    by_kind (inl e) = subst (λ b. HoldsWith b (product s.row x)) (sym e) (product_comm s.row x ∙ zero_here s.row (equality_row p c.h s m e))
    by_kind (inr e) = subst (λ b. HoldsWith b (product s.row x)) (sym e) (above e (list_any (is_tight_as p.generators s) (held_thresholds p given)) refl)

-- ---- fewer free rows
fewer_free : (p r : Polyhedron) (given : List LinearRow) (c : Setting p r given) → r ≢ p →
    length (free r (kept_thresholds p r given)) < length (free p (held_thresholds p given))
fewer_free p r given c other =
    let m : Matched (ComesFrom p c.h) (free r (kept_thresholds p r given)) (free p (held_thresholds p given)) = record {
      each = source p r given c;
      apart = λ f g s m n a b. sources_apart p r given c f g s m n a b;
    } in
    let i = no_longer (ComesFrom p c.h) (free r (kept_thresholds p r given)) (free p (held_thresholds p given)) (free_apart r c.k (kept_thresholds p r given))
    m in
    elim (cases_lt (length (free r (kept_thresholds p r given))) (length (free p (held_thresholds p given)))) [
      | inl l ↦ l
      | inr l ↦ absurd (other (sym (same_points_same_lists p r (inr c.h) (inr c.k) c.hull.dims (c.hull.within, reached_within p r given c (i.1 l)))))
    ]

-- ---- the numbers of the rank
some_generators : (p : Polyhedron) → HasPoint p → (l : List LinearRow) → p.generators ≡ l →
    equalities_from l p ≡ length (filter (λ (g : LinearRow). g.equal) p.rows)
some_generators p h [] e = absurd (contains_none (has_vertex p h).vertex (subst (λ l. Contains (system_of l) (has_vertex p h).vertex) e (has_vertex p h).has))
some_generators p h (g ∷ l) e = refl

equalities_with : (p : Polyhedron) (h : HasPoint p) → equalities_from p.generators p ≡ length h.equalities
equalities_with p h = some_generators p h p.generators refl ∙ equalities_many p h

equalities_without : (p : Polyhedron) → p.generators ≡ [] → equalities_from p.generators p ≡ suc p.dims
equalities_without p e = ap (λ l. equalities_from l p) e

-- with a point in P
falls_with_point : (p r : Polyhedron) (h : HasPoint p) (k : HasPoint r) (given : List LinearRow) → r.dims ≡ p.dims → IsWithin p.dims (Con p.rows) (Con r.rows) → r ≢ p →
    ((g : LinearRow) → Contains given g → length g.row ≡ suc p.dims) → KeepsRows p r given → Falls p r given
falls_with_point p r h k given d w other widths keeps =
    let s = smaller_span k.equalities h.equalities k.constraints_canonical.pivots h.constraints_canonical.pivots k.constraints_canonical.echelon h.constraints_canonical.echelon
    (within_spans p r h k d w) in
    let ep = equalities_with p h in
    let er = equalities_with r k in
    elim (cases_lt (length k.equalities) (length h.equalities)) [
      | inl l ↦ inl (omega (arith, l, ep, er))
      | inr l ↦
          let same : equalities_from r.generators r ≡ equalities_from p.generators p = omega (arith, l, ep, er, s.0) in
          let hk = kept_held p r given in
          let fewer = kept_fewer p r given in
          let heldk : length (held_thresholds r (kept_thresholds p r given)) ≡ length (kept_thresholds p r given) = ap length hk in
          inr (
            same,
            elim (cases_lt (length (kept_thresholds p r given)) (length (held_thresholds p given))) [
              | inl m ↦ inl (omega (arith, m, heldk))
              | inr m ↦
                  let c : Setting p r given = record {
                    h = h;
                    k = k;
                    hull = record { dims = d; within = w; spans = s.1 l };
                    all_kept = kept_all p r given m;
                    given_widths = widths;
                    keeps = keeps;
                  } in
                  let less = fewer_free p r given c other in
                  let freek : length (free r (held_thresholds r (kept_thresholds p r given))) ≡ length (free r (kept_thresholds p r given)) =
                  ap (λ l. length (free r l)) hk in
                  inr (omega (arith, m, heldk, fewer), omega (arith, less, freek))
            ],
          )
    ]

-- ---- without one
vertex_inside : (p : Polyhedron) (h : HasPoint p) → (x : List ℤ) × IsPoint p.dims x × Con p.rows x
vertex_inside p h =
    let b = some_member h.points h.some_point in
    let i : Contains (gen p h) b.0 = Contains-append_left (h.points ++ h.rays) (both_ways h.lines) b.0 (Contains-append_left h.points h.rays b.0 b.1) in
    (b.0, record { width = h.dual.row_widths b.0 i; divisor = h.divisors b.0 b.1 }, rows_hold p h b.0 (h.dual.meets b.0 i))

pub not_inside : (p r : Polyhedron) → HasPoint p → IsWithoutPoint r → r.dims ≡ p.dims → ¬ (IsWithin p.dims (Con p.rows) (Con r.rows))
not_inside p r h none d w =
    let x = vertex_inside p h in
    let row : LinearRow = record { row = falsity r.dims; equal = false } in
    falsity_never r.dims x.0 (subst (λ (n : ℕ). IsPoint n x.0) (sym d) x.1) (w x.0 x.1 x.2 row (subst (λ l. Contains l row) (sym none.0) (contains_head row [])))

both_without : (p r : Polyhedron) → IsWithoutPoint p → IsWithoutPoint r → r.dims ≡ p.dims → p ≡ r
both_without p r h k d =
    let rows : p.rows ≡ r.rows = h.0 ∙ ap (λ n. (let g : LinearRow = record { row = falsity n; equal = false } in g) ∷ []) (sym d) ∙ sym k.0 in
    same_points_same_lists p r (inl h) (inl k) d (λ x i c. subst (λ l. Con l x) rows c, λ x i c. subst (λ l. Con l x) (sym rows) c)

-- ---- the law
-- P lies in R, which is another polyhedron; if P has a point, R is that of tight and widening thresholds
pub rank_falls : (p r : Polyhedron) (given : List LinearRow) → IsPolyhedron p → IsPolyhedron r → r.dims ≡ p.dims → IsWithin p.dims (Con p.rows) (Con r.rows) → r ≢ p →
    ((g : LinearRow) → Contains given g → length g.row ≡ suc p.dims) → (HasPoint p → KeepsRows p r given) → Falls p r given
rank_falls p r given (inl h) (inl k) d w other widths keeps = absurd (other (sym (both_without p r h k d)))
rank_falls p r given (inl h) (inr k) d w other widths keeps =
    let few = few_rows r.dims k.equalities k.constraints_canonical.pivots
    (λ t m. k.dual.system_widths t (Contains-append_right k.facets (both_ways k.equalities) t (in_lines k.equalities t m))) k.constraints_canonical.echelon (no_pivot_first r k) in
    inl (omega (arith, few, d, equalities_with r k, equalities_without p h.1))
rank_falls p r given (inr h) (inl k) d w other widths keeps = absurd (not_inside p r h k d w)
rank_falls p r given (inr h) (inr k) d w other widths keeps = falls_with_point p r h k given d w other widths (keeps h)
