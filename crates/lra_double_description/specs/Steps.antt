-- The parts of a step, as the code goes through them.
use Rattle.std.specs.Ordering.{int_eq}
use Rattle.std.specs.Prelude.{◌≡◌, ◌≢◌, ℕ, suc, ◌+◌, ◌<◌, ◌≤◌, ◌⊎◌, ℤ, pos, ◌+ℤ◌, ◌*ℤ◌, neg_ℤ, ◌<ℤ◌, int_lt, int_le}
use Rattle.std.specs.Prelude.{Bool, true, false, cond, List, [], ◌∷◌, ◌++◌, length, map, not, take, drop, replicate}
use Rattle.std.specs.Prelude.{Result, Ok, Option, Some, None, slice_index_or}
use Rattle.lra_bits.specs.{Matrix.Matrix, TruthValues.value_at}
pub use Rattle.lra_bits.specs.Matrix.{lengthened_rows}
use Rattle.lra_double_description.specs.Crates.lra_linear_spec.declared.Excess as E
use Rattle.lra_double_description.specs.Crates.lra_linear_spec.CheckedArithmetic.{checked_blend}
use Rattle.lra_double_description.specs.Crates.lra_linear_spec.LowestTerms.{IsPrimitive}
use Rattle.lra_double_description.specs.Crates.lra_linear_spec.Vectors.{entry, negated}
use Rattle.lra_double_description.specs.declared.line_step.Across.{Across}

-- of the first n products, the last that isn't 0, if there is one
abbrev pub IsLastAcross : List ℤ → ℕ → Option ℕ → Type 0
IsLastAcross products n None = (k : ℕ) → k < n → slice_index_or products k (pos 0) ≡ pos 0
IsLastAcross products n (Some at) =
    (at < n) × (slice_index_or products at (pos 0) ≢ pos 0) ×
    ((k : ℕ) → at < k → k < n → slice_index_or products k (pos 0) ≡ pos 0)

-- ---- with a line across
-- the line in both directions, with its place: `up` is the one with a product above 0
pub record IsTurned (line : List ℤ) (place : ℕ) (product : ℤ) (turned : Across) : Type 0 where
  pub is_place : turned.place ≡ place
  pub above : pos 0 <ℤ turned.product
  pub sign : ((turned.up ≡ line) × (turned.down ≡ negated line) × (turned.product ≡ product))
      ⊎ ((turned.up ≡ negated line) × (turned.down ≡ line) × (turned.product ≡ neg_ℤ product))

-- t is (the line's product) r - (the product of r) line, in lowest terms
pub record IsCombinedWith (line : Across) (product : ℤ) (r t : List ℤ) : Type 0 where
  pub times : ℕ
  pub positive : 0 < times
  pub is : (j : ℕ) → pos times *ℤ entry t j ≡ (line.product *ℤ entry r j) +ℤ (neg_ℤ product *ℤ entry line.up j)
  pub lowest : IsPrimitive t ⊎ ((j : ℕ) → entry t j ≡ pos 0)
  pub same_length : length t ≡ length r

-- r itself if its product is 0, else combined with the line
abbrev pub IsFlattened : Across → ℤ → List ℤ → List ℤ → Type 0
IsFlattened line product r t = ((product ≡ pos 0) × (t ≡ r)) ⊎ IsCombinedWith line product r t

-- the sum that is formed: with the line in the direction that has its product on the other side
abbrev pub flattening : Across → ℤ → List ℤ → Result (List ℤ) E.Excess
flattening line product r =
    cond (int_lt (pos 0) product) (checked_blend line.product product r line.down)
    (cond (int_lt product (pos 0)) (checked_blend (neg_ℤ product) line.product line.up r) (Ok r))

-- row by row
abbrev pub AreFlattened : Across → List ℤ → List (List ℤ) → List (List ℤ) → Type 0
AreFlattened line products [] [] = Unit {0}
AreFlattened line products [] (t ∷ ts) = ⊥
AreFlattened line [] (r ∷ rows) ts = ⊥
AreFlattened line (p ∷ products) (r ∷ rows) [] = ⊥
AreFlattened line (p ∷ products) (r ∷ rows) (t ∷ ts) = IsFlattened line p r t × AreFlattened line products rows ts

abbrev pub PushesFlattened : Across → List ℤ → List (List ℤ) → List (List ℤ) → List (List ℤ) → Type 0
PushesFlattened line products rows old new =
    (flat : List (List ℤ)) × (new ≡ old ++ flat) × AreFlattened line products rows flat

-- the lines before the one across combined with it, and then those after it
abbrev pub AreFlatLines : Across → List ℤ → List (List ℤ) → List (List ℤ) → Type 0
AreFlatLines line products lines new =
    (flat : List (List ℤ)) × (new ≡ flat ++ drop (line.place + 1) lines) ×
    AreFlattened line (take line.place products) (take line.place lines) flat

-- for an inequality the line first; then the rays combined with it
abbrev pub AreFlatRays : Bool → Across → List ℤ → List (List ℤ) → List (List ℤ) → Type 0
AreFlatRays equal line products rays new =
    (flat : List (List ℤ)) × (new ≡ cond equal flat (line.up ∷ flat)) × AreFlattened line products rays flat

-- ---- the matrix
-- with a line across: for an inequality the line is tight at all rows but the new one; the others are tight at it too
abbrev pub flat_matrix : Bool → Matrix → Matrix
flat_matrix equal m = record {
  width = suc m.width;
  rows = cond equal (lengthened_rows m.rows (replicate (length m.rows) true))
      ((replicate m.width true ++ false ∷ []) ∷ lengthened_rows m.rows (replicate (length m.rows) true));
}

-- of n truth values, the first k are those of f, and the others are false
abbrev pub IsFilled : (ℕ → Bool) → ℕ → ℕ → List Bool → Type 0
IsFilled f n k values =
    (length values ≡ n) × ((j : ℕ) → j < k → value_at values j ≡ f j) × ((j : ℕ) → k ≤ j → value_at values j ≡ false)

-- ---- without a line across
-- the product is as an equality, or as an inequality asks
abbrev pub is_inside : Bool → ℤ → Bool
is_inside true p = int_eq p (pos 0)
is_inside false p = int_le (pos 0) p

-- true for each product that isn't
abbrev pub outside_marks : Bool → List ℤ → List Bool
outside_marks equal products = map (λ p. not (is_inside equal p)) products

abbrev pub inside_count : Bool → List ℤ → ℕ
inside_count equal [] = 0
inside_count equal (p ∷ products) =
    cond (is_inside equal p) (suc (inside_count equal products)) (inside_count equal products)
