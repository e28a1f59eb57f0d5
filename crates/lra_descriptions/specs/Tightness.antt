-- Which rows are tight at which others: where their product is 0.
use Rattle.std.specs.Prelude.{◌≡◌, ◌<◌, ℕ, ℤ, pos, Bool, true, List, [], length, map, replicate, slice_index_or}
use Rattle.std.specs.{List.Contains, Ordering.int_eq}
use Rattle.lra_descriptions.specs.Crates.lra_linear_spec.Descriptions.{LinearRow}
use Rattle.lra_descriptions.specs.Crates.{lra_bits.Matrix.Matrix, lra_linear_spec.Vectors.product}

-- for each of the columns, whether the row has product 0 with it
abbrev pub tight_at : List (List ℤ) → List ℤ → List Bool
tight_at columns r = map (λ c. int_eq (product r c) (pos 0)) columns

-- a row for each of the rows, with a column for each of the columns: true exactly if their product is 0
abbrev pub tight_matrix : List (List ℤ) → List (List ℤ) → Matrix
tight_matrix columns rows = record { width = length columns; rows = map (tight_at columns) rows }

-- for each of the generators, whether the row has product 0 with it
abbrev pub saturated : List LinearRow → List ℤ → List Bool
saturated generators r = map (λ g. int_eq (product r g.row) (pos 0)) generators

-- a row for each of the constraints, with a column for each of the generators: true exactly if their product is 0
abbrev pub saturation_of : List LinearRow → List LinearRow → Matrix
saturation_of rows generators = record {
  width = length generators;
  rows = map (λ r. saturated generators r.row) rows;
}

-- ---- rows of a matrix that go with rows
-- the first rows of the matrix are what is reported about these rows
abbrev pub TellsFirst : (List ℤ → List Bool) → List (List ℤ) → Matrix → Type 0
TellsFirst told rows m = (i : ℕ) → i < length rows → slice_index_or m.rows i [] ≡ told (slice_index_or rows i [])

-- whatever the old matrix says of the rays, and is true everywhere for the lines, the new one says of the list's rows
abbrev pub GoesWith : List (List ℤ) → List (List ℤ) → Matrix → List (List ℤ) → Matrix → Type 0
GoesWith lines rays old rows new = (told : List ℤ → List Bool) → TellsFirst told rays old →
    ((l : List ℤ) → Contains lines l → told l ≡ replicate old.width true) →
    new ≡ record { width = old.width; rows = map told rows }
