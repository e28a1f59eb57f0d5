-- Tightness by lists of truth values.
use Rattle.std.proofs.Common.{Bool, List, [], ap, arith, length, map, pos, refl, subst, suc, sym, take, zero, ℕ, ℤ, ◌∙◌, ◌∷◌, ◌≡◌, ◌≤◌}
use Rattle.std.proofs.lemmas.List.{length-map, take_all}
use Rattle.std.specs.{Bool.beq, List.All, List.list_all, List.list_any, Ordering.int_eq, Prelude.◌&&◌, Prelude.◌||◌}
use Rattle.lra_poly_widening.specs.Crates.{lra_bits.TruthValues.are_true, lra_duality.Saturations.saturated, lra_linear_spec.Descriptions.LinearRow, lra_linear_spec.Polyhedra.Polyhedron}
use Rattle.lra_poly_widening.specs.Crates.{lra_linear_spec.Vectors.product, lra_linear_spec.Widening.is_tight, lra_linear_spec.Widening.is_tight_as, lra_linear_spec.Widening.saturates}
use Rattle.lra_systems.specs.LinearSystems.{LinearSystem, rows_by_kind}
use Rattle.lra_poly_widening.proofs.Crates.lra_duality.SaturationLemmas.{rows_saturate}
use Rattle.lra_poly_widening.specs.Saturated.{same_values}

-- ---- all, and the same
pub all_saturate : (generators : List LinearRow) (r : LinearRow) → are_true (saturated generators r.row) ≡ list_all (saturates r) generators
all_saturate [] r = refl
all_saturate (g ∷ generators) r = ap (λ b. saturates r g && b) (all_saturate generators r)

pub same_saturate : (generators : List LinearRow) (r s : LinearRow) →
    same_values (saturated generators r.row) (saturated generators s.row) ≡ is_tight_as generators r s
same_saturate [] r s = refl
same_saturate (g ∷ generators) r s = ap (λ b. beq (saturates r g) (saturates s g) && b) (same_saturate generators r s)

pub any_saturates : (generators : List LinearRow) (r : LinearRow) (rows : List LinearRow) →
    list_any (same_values (saturated generators r.row)) (map (λ (s : LinearRow). saturated generators s.row) rows) ≡ list_any (is_tight_as generators r) rows
any_saturates generators r [] = refl
any_saturates generators r (s ∷ rows) =
    ap (λ b. b || list_any (same_values (saturated generators r.row)) (map (λ (s : LinearRow). saturated generators s.row) rows))
    (same_saturate generators r s) ∙
    ap (λ b. is_tight_as generators r s || b) (any_saturates generators r rows)

-- tightness
pub tight_by_values : (p : Polyhedron) (r : LinearRow) (bits : List Bool) (classes : List (List Bool)) → bits ≡ saturated p.generators r.row →
    classes ≡ map (λ (s : LinearRow). saturated p.generators s.row) p.rows → (are_true bits || list_any (same_values bits) classes) ≡ is_tight p r
tight_by_values p r bits classes e f =
    ap (λ l. are_true l || list_any (same_values l) classes) e ∙ ap (λ l. are_true (saturated p.generators r.row) || list_any (same_values (saturated p.generators r.row)) l) f ∙
    ap (λ b. b || list_any (same_values (saturated p.generators r.row)) (map (λ (s : LinearRow). saturated p.generators s.row) p.rows)) (all_saturate p.generators r) ∙
    ap (λ b. list_all (saturates r) p.generators || b) (any_saturates p.generators r p.rows)

-- ---- widths
pub class_widths : (generators : List LinearRow) (rows : List LinearRow) (classes : List (List Bool)) →
    classes ≡ map (λ (s : LinearRow). saturated generators s.row) rows →
    All (λ class. length generators ≡ length class) classes
class_widths generators rows classes e = subst (All (λ class. length generators ≡ length class)) (sym e) (all_wide rows)
  where
    all_wide : (rows : List LinearRow) → All (λ class. length generators ≡ length class) (map (λ (s : LinearRow). saturated generators s.row) rows)
    all_wide [] k d h = absurd (omega (arith, h))
    all_wide (s ∷ rows) zero d h = sym (length-map generators (λ g. int_eq (product s.row g.row) (pos 0)))
    all_wide (s ∷ rows) (suc k) d h = all_wide rows k d (omega (arith, h))

-- ---- as they are set one after the other
pub all_rows_saturate : {K : Type 0} (equal : K → Bool) (generators : List LinearRow) (all : LinearSystem K) (rows : List (List ℤ)) (kinds : List K) (classes : List (List Bool)) (k : ℕ) →
    rows ≡ all.rows →
    kinds ≡ all.kinds → length kinds ≡ length all.rows → length rows ≤ k → classes ≡ map (saturated generators) (take k rows) →
    classes ≡ map (λ (s : LinearRow). saturated generators s.row) (rows_by_kind equal all.rows all.kinds)
all_rows_saturate equal generators all rows kinds classes k er ek n h e =
    e ∙ ap (map (saturated generators)) (take_all k rows h) ∙ rows_saturate equal generators rows kinds (n ∙ ap length (sym er)) ∙
    ap (λ l. map (λ (s : LinearRow). saturated generators s.row) (rows_by_kind equal l kinds)) er ∙ ap (λ l. map (λ (s : LinearRow). saturated generators s.row) (rows_by_kind equal all.rows l)) ek

-- the values of one list beside those of others
pub bits_widths : (generators : List LinearRow) (r : List ℤ) (bits : List Bool) (classes : List (List Bool)) → bits ≡ saturated generators r → All (λ class. length generators ≡ length class) classes →
    All (λ class. length bits ≡ length class) classes
bits_widths generators r bits classes e h k d l =
    ap length e ∙ length-map generators (λ g. int_eq (product r g.row) (pos 0)) ∙ h k d l
