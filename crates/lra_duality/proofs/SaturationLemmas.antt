-- Which generators rows saturate, set one after the other.
use Rattle.std.proofs.Common.{Bool, List, [], ap, arith, get_or, length, map, pos, refl, suc, sym, take, ℕ, ℤ, ◌<◌, ◌∙◌, ◌∷◌, ◌≡◌, ◌≤◌}
use Rattle.std.proofs.lemmas.List.{take_all}
use Rattle.std.specs.Ordering.{int_eq}
use Rattle.lra_duality.specs.Crates.{lra_bits.Matrix.Matrix, lra_bits.TruthValues.value_at, lra_double_description.Steps.IsFilled, lra_linear_spec.Descriptions.LinearRow}
use Rattle.lra_duality.specs.Crates.{lra_linear_spec.Vectors.product, lra_systems.LinearSystems.LinearSystem, lra_systems.LinearSystems.rows_by_kind}
use Rattle.lra_duality.specs.Saturations.{saturated, saturation_of}

-- ---- one row
filled_here : {K : Type 0} (equal : K → Bool) (rows : List (List ℤ)) (kinds : List K) (r : List ℤ) (bits : List Bool) → length kinds ≡ length rows → length bits ≡ length rows →
    ((j : ℕ) → j < length rows → value_at bits j ≡ int_eq (product r (get_or rows j [])) (pos 0)) → bits ≡ saturated (rows_by_kind equal rows kinds) r
filled_here equal [] kinds r [] n l h = refl
filled_here equal [] kinds r (b ∷ bits) n l h = absurd (omega (arith, l))
filled_here equal (x ∷ rows) [] r bits n l h = absurd (omega (arith, n))
filled_here equal (x ∷ rows) (k ∷ kinds) r [] n l h = absurd (omega (arith, l))
filled_here equal (x ∷ rows) (k ∷ kinds) r (b ∷ bits) n l h =
    ap (λ c. c ∷ bits) (h 0 (omega arith)) ∙
    ap (λ t. int_eq (product r x) (pos 0) ∷ t) (filled_here equal rows kinds r bits (omega (arith, n)) (omega (arith, l)) (λ j m. h (suc j) (omega (arith, m))))

pub filled_saturated : {K : Type 0} (equal : K → Bool) (all : LinearSystem K) (rows : List (List ℤ)) (kinds : List K) (r : List ℤ) (bits : List Bool) (k : ℕ) → rows ≡ all.rows → kinds ≡ all.kinds →
    length kinds ≡ length all.rows → length rows ≤ k → IsFilled (λ j. int_eq (product r (get_or rows j [])) (pos 0)) (length rows) k bits → bits ≡ saturated (rows_by_kind equal all.rows all.kinds) r
filled_saturated equal all rows kinds r bits k er ek n h f =
    filled_here equal rows kinds r bits (n ∙ ap length (sym er)) f.0 (λ j m. f.1 j (omega (arith, m, h))) ∙
    ap (λ l. saturated (rows_by_kind equal l kinds) r) er ∙ ap (λ l. saturated (rows_by_kind equal all.rows l) r) ek

-- ---- row by row
pub given_length : {K : Type 0} (equal : K → Bool) (rows : List (List ℤ)) (kinds : List K) → length kinds ≡ length rows → length (rows_by_kind equal rows kinds) ≡ length rows
given_length equal [] kinds n = refl
given_length equal (r ∷ rows) [] n = absurd (omega (arith, n))
given_length equal (r ∷ rows) (k ∷ kinds) n = ap suc (given_length equal rows kinds (omega (arith, n)))

pub rows_saturate : {K : Type 0} (equal : K → Bool) (generators : List LinearRow) (rows : List (List ℤ)) (kinds : List K) → length kinds ≡ length rows →
    map (saturated generators) rows ≡ map (λ (s : LinearRow). saturated generators s.row) (rows_by_kind equal rows kinds)
rows_saturate equal generators [] kinds n = refl
rows_saturate equal generators (r ∷ rows) [] n = absurd (omega (arith, n))
rows_saturate equal generators (r ∷ rows) (k ∷ kinds) n = ap (λ l. saturated generators r ∷ l) (rows_saturate equal generators rows kinds (omega (arith, n)))

-- no row is set yet
pub matrix_start : {K : Type 0} (equal : K → Bool) (all : LinearSystem K) (columns : List (List ℤ)) (kinds : List K) (m : Matrix) → columns ≡ all.rows → kinds ≡ all.kinds →
    length kinds ≡ length all.rows → m ≡ record { width = length columns; rows = [] } → m ≡ record { width = length (rows_by_kind equal all.rows all.kinds); rows = [] }
matrix_start equal all columns kinds m ec ek n e =
    e ∙ ap (λ (w : ℕ). (let x : Matrix = record { width = w; rows = [] } in x)) (ap length ec ∙ sym (given_length equal all.rows all.kinds (ap length (sym ek) ∙ n)))

-- as the code states it
pub all_saturated : {K : Type 0} (equal : K → Bool) (generators : List LinearRow) (all : LinearSystem K) (rows : List (List ℤ)) (kinds : List K) (m : Matrix) (k : ℕ) → rows ≡ all.rows →
    kinds ≡ all.kinds → length kinds ≡ length all.rows → length rows ≤ k → m ≡ record { width = length generators; rows = map (saturated generators) (take k rows) } →
    m ≡ saturation_of (rows_by_kind equal all.rows all.kinds) generators
all_saturated equal generators all rows kinds m k er ek n h e =
    e ∙ ap (λ (l : List (List Bool)). record { width = length generators; rows = l }) (
    ap (map (saturated generators)) (take_all k rows h) ∙ rows_saturate equal generators rows kinds (n ∙ ap length (sym er)) ∙
    ap (λ l. map (λ (s : LinearRow). saturated generators s.row) (rows_by_kind equal l kinds)) er ∙ ap (λ l. map (λ (s : LinearRow). saturated generators s.row) (rows_by_kind equal all.rows l)) ek)
