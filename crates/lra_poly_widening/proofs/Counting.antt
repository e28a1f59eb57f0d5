-- How many members pass a test, and the lists that the rank counts.
use Rattle.std.proofs.Common.{Bool, List, [], ap, arith, cond, false, inl, inr, length, not, refl, subst, suc, sym, true, ℤ, ◌++◌, ◌≤◌, ◌∙◌, ◌∷◌, ◌≡◌}
use Rattle.std.proofs.lemmas.Bool.{or_left, or_right, not-true}
use Rattle.std.proofs.{lemmas.Bool.and_parts, lemmas.List.append-nil, lemmas.List.Elements.filter-append}
use Rattle.std.specs.{List.Contains, List.filter, List.list_any, Prelude.◌&&◌, Prelude.◌||◌}
use Rattle.lra_poly_widening.specs.Crates.lra_linear_spec.Widening.{holds_with, is_tight_as, is_valid}
use Rattle.lra_poly_widening.specs.Crates.{lra_linear_spec.CheckedArithmetic.checked_product, lra_linear_spec.Descriptions.LinearRow, lra_linear_spec.Descriptions.rows_as}
use Rattle.lra_poly_widening.specs.Crates.{lra_linear_spec.Polyhedra.HasPoint, lra_linear_spec.Polyhedra.Polyhedron, lra_linear_spec.RowOrder.Ascends, lra_linear_spec.RowOrder.inequality_cmp}
use Rattle.lra_poly_widening.proofs.Crates.lra_linear_spec.Membership.{NoRepeat, contains_cases, contains_none, filter_from, filter_has, list_all_at, list_all_from}
use Rattle.lra_poly_widening.proofs.Crates.lra_linear_spec.RowOrder.{inequality_cmp_total, never_both}
use Rattle.lra_poly_widening.proofs.Crates.{lra_cone.Cutting.no_repeat_filter, lra_linear_spec.OneSpelling.given_from}
use Rattle.lra_poly_widening.specs.Rank.{fits, free, held_thresholds, holds_in_range, is_free, kept_thresholds}

-- ---- members that pass two tests
both_tests : {A : Type 0} (t s : A → Bool) (xs : List A) →
    (length (filter (λ x. t x && s x) xs) ≤ length (filter t xs)) × (length (filter t xs) ≤ length (filter (λ x. t x && s x) xs) → filter (λ x. t x && s x) xs ≡ filter t xs)
both_tests t s [] = (omega arith, λ h. refl)
both_tests {A = A} t s (x ∷ xs) = by_tests (t x) (s x) (both_tests t s xs)
  where
    by_tests : (a b : Bool) → (length (filter (λ y. t y && s y) xs) ≤ length (filter t xs)) ×
        (length (filter t xs) ≤ length (filter (λ y. t y && s y) xs) → filter (λ y. t y && s y) xs ≡ filter t xs) →
        (length (cond (a && b) (x ∷ filter (λ y. t y && s y) xs) (filter (λ y. t y && s y) xs)) ≤ length (cond a (x ∷ filter t xs) (filter t xs))) ×
        (length (cond a (x ∷ filter t xs) (filter t xs)) ≤ length (cond (a && b) (x ∷ filter (λ y. t y && s y) xs) (filter (λ y. t y && s y) xs)) →
        cond (a && b) (x ∷ filter (λ y. t y && s y) xs) (filter (λ y. t y && s y) xs) ≡ cond a (x ∷ filter t xs) (filter t xs))
    by_tests true true i = (omega (arith, i.0), λ h. ap (λ l. x ∷ l) (i.1 (omega (arith, h))))
    by_tests true false i = (omega (arith, i.0), λ h. absurd (omega (arith, h, i.0)))
    by_tests false true i = i
    by_tests false false i = i

-- what passes both tests passes the second
filtered_again : {A : Type 0} (t s : A → Bool) (xs : List A) → filter s (filter (λ x. t x && s x) xs) ≡ filter (λ x. t x && s x) xs
filtered_again t s [] = refl
filtered_again {A = A} t s (x ∷ xs) = by_tests (t x) (s x) refl (filtered_again t s xs)
  where
    by_tests : (a b : Bool) → s x ≡ b → filter s (filter (λ y. t y && s y) xs) ≡ filter (λ y. t y && s y) xs →
        filter s (cond (a && b) (x ∷ filter (λ y. t y && s y) xs) (filter (λ y. t y && s y) xs)) ≡ cond (a && b) (x ∷ filter (λ y. t y && s y) xs) (filter (λ y. t y && s y) xs)
    by_tests true true e i = ap (λ c. cond c (x ∷ filter s (filter (λ y. t y && s y) xs)) (filter s (filter (λ y. t y && s y) xs))) e ∙ ap (λ l. x ∷ l) i
    by_tests true false e i = i
    by_tests false true e i = i
    by_tests false false e i = i

-- ---- widening thresholds
pub kept_held : (p r : Polyhedron) (given : List LinearRow) → held_thresholds r (kept_thresholds p r given) ≡ kept_thresholds p r given
kept_held p r given = filtered_again (holds_in_range p) (holds_in_range r) given

pub kept_fewer : (p r : Polyhedron) (given : List LinearRow) → length (kept_thresholds p r given) ≤ length (held_thresholds p given)
kept_fewer p r given = (both_tests (holds_in_range p) (holds_in_range r) given).0

pub kept_all : (p r : Polyhedron) (given : List LinearRow) → length (held_thresholds p given) ≤ length (kept_thresholds p r given) →
    kept_thresholds p r given ≡ held_thresholds p given
kept_all p r given h = (both_tests (holds_in_range p) (holds_in_range r) given).1 h

pub kept_at : (p r : Polyhedron) (given : List LinearRow) (g : LinearRow) → Contains (kept_thresholds p r given) g → Contains given g × (holds_in_range p g ≡ true) × (holds_in_range r g ≡ true)
kept_at p r given g k =
    let f = filter_from (λ x. holds_in_range p x && holds_in_range r x) given g k in
    let b = and_parts (holds_in_range p g) (holds_in_range r g) f.1 in
    (f.0, b.0, b.1)

-- what holds in the range is valid
pub holds_valid : (p : Polyhedron) (g : LinearRow) → holds_in_range p g ≡ true → is_valid p g ≡ true
holds_valid p g h = list_all_from (holds_with g) p.generators (λ t k.
    (and_parts (fits (checked_product g.row t.row)) (holds_with g t) (list_all_at (λ x. fits (checked_product g.row x.row) && holds_with g x) p.generators h t k)).1)

-- ---- the rows of a polyhedron
none_passes : (t : LinearRow → Bool) (rows : List (List ℤ)) (b : Bool) → ((r : List ℤ) → t (record { row = r; equal = b }) ≡ false) → filter t (rows_as b rows) ≡ []
none_passes t [] b h = refl
none_passes t (r ∷ rows) b h = ap (λ c. cond c ((let g : LinearRow = record { row = r; equal = b } in g) ∷ filter t (rows_as b rows)) (filter t (rows_as b rows))) (h r) ∙ none_passes t rows b h

all_pass : (rows : List (List ℤ)) → length (filter (λ (r : LinearRow). r.equal) (rows_as true rows)) ≡ length rows
all_pass [] = refl
all_pass (r ∷ rows) = ap suc (all_pass rows)

pub equalities_many : (p : Polyhedron) (h : HasPoint p) → length (filter (λ (r : LinearRow). r.equal) p.rows) ≡ length h.equalities
equalities_many p h =
    ap (λ l. length (filter (λ (r : LinearRow). r.equal) l)) h.rows_are ∙
    ap length (filter-append (λ (r : LinearRow). r.equal) (rows_as true h.equalities) (rows_as false h.inequalities)) ∙
    ap (λ l. length (filter (λ (r : LinearRow). r.equal) (rows_as true h.equalities) ++ l)) (none_passes (λ (r : LinearRow). r.equal) h.inequalities false (λ r. refl)) ∙
    ap length (append-nil (filter (λ (r : LinearRow). r.equal) (rows_as true h.equalities))) ∙ all_pass h.equalities

free_rows : (p : Polyhedron) (h : HasPoint p) (rows : List LinearRow) → free p rows ≡ filter (is_free p rows) (rows_as false h.inequalities)
free_rows p h rows =
    ap (filter (is_free p rows)) h.rows_are ∙ filter-append (is_free p rows) (rows_as true h.equalities) (rows_as false h.inequalities) ∙
    ap (λ l. l ++ filter (is_free p rows) (rows_as false h.inequalities)) (none_passes (is_free p rows) h.equalities true (λ r. refl))

given_apart : (rows : List (List ℤ)) → Ascends inequality_cmp rows → NoRepeat (rows_as false rows)
given_apart [] a = tt
given_apart (r ∷ rows) a = (
  λ k. let l = a.0 r (given_from false rows (record { row = r; equal = false }) k).1 in never_both inequality_cmp inequality_cmp_total r r l l,
  given_apart rows a.1,
)

pub free_apart : (p : Polyhedron) (h : HasPoint p) (rows : List LinearRow) → NoRepeat (free p rows)
free_apart p h rows = subst NoRepeat (sym (free_rows p h rows)) (no_repeat_filter (is_free p rows) (rows_as false h.inequalities) (given_apart h.inequalities h.inequalities_ascend))

-- a free row is an inequality, and none of the rows saturates the same
pub record IsFree (p : Polyhedron) (h : HasPoint p) (rows : List LinearRow) (f : LinearRow) : Type 0 where
  pub is_row : Contains p.rows f
  pub is_inequality : Contains h.inequalities f.row
  pub unequal : f.equal ≡ false
  pub alone : list_any (is_tight_as p.generators f) rows ≡ false

pub free_said : (p : Polyhedron) (h : HasPoint p) (rows : List LinearRow) (f : LinearRow) → Contains (free p rows) f → IsFree p h rows f
free_said p h rows f k =
    let m = filter_from (is_free p rows) (rows_as false h.inequalities) f (subst (λ l. Contains l f) (free_rows p h rows) k) in
    let g = given_from false h.inequalities f m.0 in
    record {
      is_row = (filter_from (is_free p rows) p.rows f k).0;
      is_inequality = g.1;
      unequal = g.0;
      alone = not-true (list_any (is_tight_as p.generators f) rows) (and_parts (not f.equal) (not (list_any (is_tight_as p.generators f) rows)) m.1).1;
    }

pub free_has : (p : Polyhedron) (rows : List LinearRow) (s : LinearRow) → Contains p.rows s → s.equal ≡ false → list_any (is_tight_as p.generators s) rows ≡ false → Contains (free p rows) s
free_has p rows s k e a = filter_has (is_free p rows) p.rows s k (ap (λ b. not b && not (list_any (is_tight_as p.generators s) rows)) e ∙ ap not a)

-- ---- some member passes
pub any_from : {A : Type 0} (t : A → Bool) (xs : List A) (x : A) → Contains xs x → t x ≡ true → list_any t xs ≡ true
any_from t [] x k e = absurd (contains_none x k)
any_from {A = A} t (y ∷ xs) x k e = elim (contains_cases y x xs k) [
  | inl q ↦ or_left (t y) (list_any t xs) (ap t q ∙ e)
  | inr d ↦ or_right (t y) (list_any t xs) (any_from t xs x d e)
]
