-- Which rows are tight at a ray, as truth values.
use Rattle.std.proofs.Common.{◌≡◌, ℕ, zero, suc, ◌<◌, Bool, true, false, List, [], ◌∷◌, ◌++◌, length, get_or, refl, ap, sym, ◌∙◌, arith, pos, ℤ, neg_ℤ, inl, inr, ◌⊎◌}
use Rattle.std.proofs.lemmas.Bool.{and_from}
use Rattle.std.proofs.{lemmas.Bool.and_parts, lemmas.Bool.Decides.Decides-int_eq, lemmas.Int.ints}
use Rattle.std.specs.{List.Contains, Ordering.int_eq}
use Rattle.lra_cone.specs.Crates.{lra_bits.Matrix.unmarked, lra_bits.TruthValues.IsSubset, lra_bits.TruthValues.both, lra_linear_spec.Cones.with_row, lra_linear_spec.Descriptions.LinearRow}
use Rattle.lra_cone.specs.Crates.{lra_linear_spec.Descriptions.system_of, lra_linear_spec.Vectors.entry, lra_linear_spec.Vectors.dot, lra_linear_spec.Vectors.product, lra_linear_spec.Vectors.negated}
use Rattle.lra_cone.proofs.Crates.lra_linear_spec.Membership.{contains_cases, contains_head, contains_tail, contains_none}
use Rattle.lra_cone.proofs.Crates.{lra_linear_spec.Products.negated_dot, lra_linear_spec.Widening.zero_said}
use Rattle.lra_cone.specs.Cones.{tight_values, saturation_rows}

pub zero_yes : (z : ℤ) → z ≡ pos 0 → int_eq z (pos 0) ≡ true
zero_yes z h = (Decides-int_eq z (pos 0)).1 h

-- ---- the rows of a system
pub with_cases : (equal : Bool) (c : List ℤ) (system : List (List ℤ)) (s : List ℤ) → Contains (with_row equal c system) s → ((s ≡ c) ⊎ (s ≡ negated c)) ⊎ Contains system s
with_cases true c system s m = elim (contains_cases c s (negated c ∷ system) m) [
  | inl e ↦ inl (inl (sym e))
  | inr n ↦ elim (contains_cases (negated c) s system n) [ inl e ↦ inl (inr (sym e)) | inr o ↦ inr o ]
]
with_cases false c system s m = elim (contains_cases c s system m) [ inl e ↦ inl (inl (sym e)) | inr o ↦ inr o ]

pub with_has : (equal : Bool) (c : List ℤ) (system : List (List ℤ)) → Contains (with_row equal c system) c
with_has true c system = contains_head c (negated c ∷ system)
with_has false c system = contains_head c system

pub with_later : (equal : Bool) (c : List ℤ) (system : List (List ℤ)) (s : List ℤ) → Contains system s → Contains (with_row equal c system) s
with_later true c system s m = contains_tail c s (negated c ∷ system) (contains_tail (negated c) s system m)
with_later false c system s m = contains_tail c s system m

-- either direction of a row is tight where the row is
pub either_tight : (c s : List ℤ) (u : ℕ → ℤ) → (s ≡ c) ⊎ (s ≡ negated c) → dot s u ≡ pos 0 → dot c u ≡ pos 0
either_tight c s u (inl e) h = ap (λ (x : List ℤ). dot x u) (sym e) ∙ h
either_tight c s u (inr e) h = back (dot c u) (sym (negated_dot c u) ∙ ap (λ (x : List ℤ). dot x u) (sym e) ∙ h)
  where
    back : (z : ℤ) → neg_ℤ z ≡ pos 0 → z ≡ pos 0
    back z h = omega (arith, ints, h)

pub tight_either : (c s : List ℤ) (u : ℕ → ℤ) → (s ≡ c) ⊎ (s ≡ negated c) → dot c u ≡ pos 0 → dot s u ≡ pos 0
tight_either c s u (inl e) h = ap (λ (x : List ℤ). dot x u) e ∙ h
tight_either c s u (inr e) h = ap (λ (x : List ℤ). dot x u) e ∙ negated_dot c u ∙ ap neg_ℤ h

-- ---- wherever two are tight, a third is
pub subset_said : (taken : List LinearRow) (u d r : List ℤ) → IsSubset (both (tight_values taken u) (tight_values taken d)) (tight_values taken r) →
    (s : List ℤ) → Contains (system_of taken) s → dot s (entry u) ≡ pos 0 → dot s (entry d) ≡ pos 0 → dot s (entry r) ≡ pos 0
subset_said [] u d r h s m e f = absurd (contains_none s m)
subset_said (g ∷ taken) u d r h s m e f = elim (with_cases g.equal g.row (system_of taken) s m) [
  | inl x ↦ tight_either g.row s (entry r) x (zero_said (product g.row r) (h 0 (and_from (int_eq (product g.row u) (pos 0)) (int_eq (product g.row d) (pos 0))
      (zero_yes (product g.row u) (either_tight g.row s (entry u) x e)) (zero_yes (product g.row d) (either_tight g.row s (entry d) x f)))))
  | inr n ↦ subset_said taken u d r (λ k. h (suc k)) s n e f
]

pub subset_from : (taken : List LinearRow) (u d r : List ℤ) → ((s : List ℤ) → Contains (system_of taken) s → dot s (entry u) ≡ pos 0 → dot s (entry d) ≡ pos 0 → dot s (entry r) ≡ pos 0) →
    IsSubset (both (tight_values taken u) (tight_values taken d)) (tight_values taken r)
subset_from [] u d r h k e = e
subset_from (g ∷ taken) u d r h zero e =
    let b = and_parts (int_eq (product g.row u) (pos 0)) (int_eq (product g.row d) (pos 0)) e in
    zero_yes (product g.row r) (h g.row (with_has g.equal g.row (system_of taken)) (zero_said (product g.row u) b.0) (zero_said (product g.row d) b.1))
subset_from (g ∷ taken) u d r h (suc k) e = subset_from taken u d r (λ s m. h s (with_later g.equal g.row (system_of taken) s m)) k e

-- ---- the matrix
pub values_length : (taken : List LinearRow) (r : List ℤ) → length (tight_values taken r) ≡ length taken
values_length [] r = refl
values_length (g ∷ taken) r = ap suc (values_length taken r)

pub rows_length : (taken : List LinearRow) (rays : List (List ℤ)) → length (saturation_rows taken rays) ≡ length rays
rows_length taken [] = refl
rows_length taken (r ∷ rays) = ap suc (rows_length taken rays)

pub row_at : (taken : List LinearRow) (rays : List (List ℤ)) (i : ℕ) → i < length rays → get_or (saturation_rows taken rays) i [] ≡ tight_values taken (get_or rays i [])
row_at taken [] i h = absurd (omega (arith, h))
row_at taken (r ∷ rays) zero h = refl
row_at taken (r ∷ rays) (suc i) h = row_at taken rays i (omega (arith, h))

pub rows_append : (taken : List LinearRow) (rays more : List (List ℤ)) → saturation_rows taken (rays ++ more) ≡ saturation_rows taken rays ++ saturation_rows taken more
rows_append taken [] more = refl
rows_append taken (r ∷ rays) more = ap (λ (x : List (List Bool)). tight_values taken r ∷ x) (rows_append taken rays more)

pub rows_unmarked : (taken : List LinearRow) (marks : List Bool) (rays : List (List ℤ)) → unmarked marks (saturation_rows taken rays) ≡ saturation_rows taken (unmarked marks rays)
rows_unmarked taken marks [] = refl
rows_unmarked taken [] (r ∷ rays) = refl
rows_unmarked taken (true ∷ marks) (r ∷ rays) = rows_unmarked taken marks rays
rows_unmarked taken (false ∷ marks) (r ∷ rays) = ap (λ (x : List (List Bool)). tight_values taken r ∷ x) (rows_unmarked taken marks rays)

-- one more row added
pub values_end : (taken : List LinearRow) (g : LinearRow) (r : List ℤ) → tight_values (taken ++ g ∷ []) r ≡ tight_values taken r ++ int_eq (product g.row r) (pos 0) ∷ []
values_end [] g r = refl
values_end (x ∷ taken) g r = ap (λ (y : List Bool). int_eq (product x.row r) (pos 0) ∷ y) (values_end taken g r)
