-- Two matrices of the same variables, cell by cell.
use Rattle.std.specs.Prelude.{ℕ, ◌+◌, ◌<◌, ◌^◌, ℤ, unsigned_abs, Option, None, Some, [], ◌∷◌}
use Rattle.lra_dbm.specs.{Cells.Cells, Entry.◌⊑◌}
use Rattle.lra_domain.specs.Bounds.{finite, greater, stable}

-- the greater entries; infinite if one of the two is
abbrev pub greater_cells : Cells → Cells → Cells
greater_cells [] ds = []
greater_cells (c ∷ cs) [] = []
greater_cells (c ∷ cs) (d ∷ ds) = greater c d ∷ greater_cells cs ds

-- the first entries if the second ones are at most them, else infinite
abbrev pub stable_cells : Cells → Cells → Cells
stable_cells [] ds = []
stable_cells (c ∷ cs) [] = []
stable_cells (c ∷ cs) (d ∷ ds) = stable c d ∷ stable_cells cs ds

-- each entry of the first is at most that of the second
abbrev pub CellsWithin : Cells → Cells → Type 0
CellsWithin [] [] = Unit {0}
CellsWithin [] (d ∷ ds) = ⊥
CellsWithin (c ∷ cs) [] = ⊥
CellsWithin (c ∷ cs) (d ∷ ds) = (c ⊑ d) × CellsWithin cs ds

-- how many entries are finite
abbrev pub finite_cells : Cells → ℕ
finite_cells [] = 0
finite_cells (c ∷ cs) = finite c + finite_cells cs

-- a finite entry is within half of the range, so that the sum of two doesn't pass it
abbrev pub IsSmall : Option ℤ → Type 0
IsSmall None = Unit {0}
IsSmall (Some a) = unsigned_abs a < 2 ^ 126

abbrev pub AreSmall : Cells → Type 0
AreSmall [] = Unit {0}
AreSmall (c ∷ cs) = IsSmall c × AreSmall cs
