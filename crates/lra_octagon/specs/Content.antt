-- What an octagon holds.
use Rattle.std.specs.Option.{option_map}
use Rattle.std.specs.Prelude.{◌≡◌, ℕ, ℤ, pos, List, Option, None, Some}
use Rattle.lra_dbm.specs.Cells.{Cells, entries, outside, IsMatrix, DbmContent as Matrix}
use Rattle.lra_dbm.specs.{Pointwise.CellsWithin, Tight.IsStore}

-- the dimensions of an octagon or a head, and the cells of its matrix, or none if it is empty
pub record OctagonContent : Type 0 where
  pub dims : ℕ
  pub cells : Option Cells

abbrev pub content : ℕ → Option Cells → OctagonContent
content n cells = record { dims = n; cells = cells }

-- a matrix of n variables whose diagonal is 0
pub record IsOctagon (n : ℕ) (cells : Cells) : Type 0 where
  pub is : IsMatrix n cells
  pub diagonal : (i : ℕ) → entries n cells i i ≡ Some (pos 0)

abbrev pub CellsFit : ℕ → Option Cells → Type 0
CellsFit n None = Unit {0}
CellsFit n (Some cells) = IsOctagon n cells

-- what an octagon holds: its cells are a matrix of its variables, whose diagonal is 0
abbrev pub WellFormedOctagon : OctagonContent → Type 0
WellFormedOctagon a = CellsFit a.dims a.cells

-- the matrix has as many variables
abbrev pub DimsFit : ℕ → Option Matrix → Type 0
DimsFit n None = Unit {0}
DimsFit n (Some m) = m.dims ≡ n

-- what the code's matrix is seen as
abbrev pub matrix_view : Option Matrix → Option Cells
matrix_view o = option_map (λ m. m.cells) o

-- the list is a store of the matrix, if there is one
abbrev pub has_store : ℕ → Option Cells → List ℤ → Type 0
has_store n None s = ⊥
has_store n (Some cells) s = IsStore n (entries n cells) s

-- the list is a store of the octagon: it has a number for each dimension, and meets every entry
abbrev pub OctagonGamma : OctagonContent → List ℤ → Type 0
OctagonGamma a s = has_store a.dims a.cells s

-- the first matrix lies in the second, entry by entry
abbrev pub MatrixWithin : Option Cells → Option Cells → Type 0
MatrixWithin None b = Unit {0}
MatrixWithin (Some cs) None = ⊥
MatrixWithin (Some cs) (Some ds) = CellsWithin cs ds

abbrev pub OctagonWithin : OctagonContent → OctagonContent → Type 0
OctagonWithin a b = (a.dims ≡ b.dims) × MatrixWithin a.cells b.cells

-- all entries are infinite, those of the diagonal 0
abbrev pub IsTopMatrix : ℕ → Option Cells → Type 0
IsTopMatrix n None = ⊥
IsTopMatrix n (Some cells) = IsMatrix n cells × ((i j : ℕ) → entries n cells i j ≡ outside i j)
