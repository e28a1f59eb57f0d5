-- Matrices of truth values.
use Rattle.std.specs.Prelude.{◌≡◌, ◌≢◌, ℕ, ◌<◌, Bool, true, cond, List, [], ◌∷◌, ◌++◌, length, slice_index_or, Option}
use Rattle.std.specs.Prelude.{Some, None}
use Rattle.lra_bits.specs.TruthValues.{value_at, both, IsSubset}

-- rows of one width
pub record Matrix : Type 0 where
  pub width : ℕ
  pub rows : List (List Bool)

-- the rows that are not marked
abbrev pub unmarked : {A : Type 0} → List Bool → List A → List A
unmarked marks [] = []
unmarked [] (r ∷ rows) = r ∷ rows
unmarked (m ∷ marks) (r ∷ rows) = cond m (unmarked marks rows) (r ∷ unmarked marks rows)

-- each row with a value after it
abbrev pub lengthened_rows : List (List Bool) → List Bool → List (List Bool)
lengthened_rows [] last = []
lengthened_rows (r ∷ rows) [] = []
lengthened_rows (r ∷ rows) (b ∷ last) = (r ++ b ∷ []) ∷ lengthened_rows rows last

-- of the first n of these rows, each that is marked is true at the place
abbrev pub IsCommon : Matrix → List ℕ → List Bool → ℕ → ℕ → Type 0
IsCommon m rows marked n k = (i : ℕ) → i < n → value_at marked (slice_index_or rows i 0) ≡ true →
    value_at (slice_index_or m.rows (slice_index_or rows i 0) []) k ≡ true

-- at none of the first n places but these two is each of these rows true that is marked
abbrev pub NoneCommon : Matrix → List ℕ → List Bool → ℕ → ℕ → ℕ → Type 0
NoneCommon m rows marked first second n = (k : ℕ) → k < n → k < m.width → k ≢ first → k ≢ second →
    ¬ (IsCommon m rows marked (length rows) k)

-- a place but these two where each of these rows is true that is marked, if there is one
abbrev pub TellsCommon : Matrix → List ℕ → List Bool → ℕ → ℕ → Option ℕ → Type 0
TellsCommon m rows marked first second None = NoneCommon m rows marked first second m.width
TellsCommon m rows marked first second (Some k) =
    (k < m.width) × (k ≢ first) × (k ≢ second) × IsCommon m rows marked (length rows) k

-- the row at `place` is true wherever both of these are
abbrev pub IsWithin : Matrix → ℕ → ℕ → ℕ → Type 0
IsWithin m first second place =
    IsSubset (both (slice_index_or m.rows first []) (slice_index_or m.rows second [])) (slice_index_or m.rows place [])

-- none of the first n rows but these two is
abbrev pub NoneWithin : Matrix → ℕ → ℕ → ℕ → Type 0
NoneWithin m first second n = (k : ℕ) → k < n → k ≢ first → k ≢ second → ¬ (IsWithin m first second k)

-- a row but these two that is true wherever both are, if there is one
abbrev pub TellsWithin : Matrix → ℕ → ℕ → Option ℕ → Type 0
TellsWithin m first second None = NoneWithin m first second (length m.rows)
TellsWithin m first second (Some k) =
    (k < length m.rows) × (k ≢ first) × (k ≢ second) × IsWithin m first second k
