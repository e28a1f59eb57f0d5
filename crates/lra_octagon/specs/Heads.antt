-- Joins, heads and ranks of octagons.
use Rattle.std.specs.Prelude.{◌≡◌, ℕ, ◌+◌, Option, None, Some}
use Rattle.lra_domain.specs.declared.Included.TheVariants.{Yes, No, Wide}
use Rattle.lra_domain.specs.declared.Mode.TheVariants.{Join, Widen, Limited, Tightest}
use Rattle.lra_domain.specs.{declared.Included.Included, declared.Mode.Mode, declared.Rank.Rank}
use Rattle.lra_dbm.specs.Pointwise.{greater_cells, stable_cells, finite_cells}
use Rattle.lra_dbm.specs.{Cells.Cells, Cells.size, Cells.entries, Cells.IsMatrix, Closure.IsClosure}
use Rattle.lra_octagon.specs.{Content.OctagonContent, Content.OctagonWithin, Tables.ClosingPasses}

-- entry by entry the greater; an empty operand gives the other
abbrev pub joined_cells : Option Cells → Option Cells → Option Cells
joined_cells None b = b
joined_cells (Some cs) None = Some cs
joined_cells (Some cs) (Some ds) = Some (greater_cells cs ds)

-- an entry stays if next's is no greater, and becomes infinite otherwise
abbrev pub widened_cells : Option Cells → Option Cells → Option Cells
widened_cells None b = b
widened_cells (Some cs) None = Some cs
widened_cells (Some cs) (Some ds) = Some (stable_cells cs ds)

abbrev pub grown_cells : Mode → Option Cells → Option Cells → Option Cells
grown_cells Join a b = joined_cells a b
grown_cells Widen a b = widened_cells a b
grown_cells Limited a b = widened_cells a b
grown_cells Tightest a b = widened_cells a b

-- how many of the kept entries are finite; an empty head has one more than the most there can be
abbrev pub octagon_rank_number : ℕ → Option Cells → ℕ
octagon_rank_number n None = size n + 1
octagon_rank_number n (Some cells) = finite_cells cells

abbrev pub octagon_rank : OctagonContent → Rank
octagon_rank h = record { first = 1; second = 0; third = 0; fourth = octagon_rank_number h.dims h.cells }

-- an inclusion answers what is so, and never exceeds a limit
abbrev pub OctagonAnswers : OctagonContent → OctagonContent → Included → Type 0
OctagonAnswers h a Yes = OctagonWithin a h
OctagonAnswers h a No = ¬ OctagonWithin a h
OctagonAnswers h a Wide = ⊥

-- the value of a head is the closure of its matrix
abbrev pub ClosesTo : ℕ → Option Cells → Option Cells → Type 0
ClosesTo n None new = new ≡ None
ClosesTo n (Some cells) new = IsMatrix n cells × IsClosure n (entries n cells) new

abbrev pub ValuePasses : ℕ → Option Cells → Type 0
ValuePasses n None = ⊥
ValuePasses n (Some cells) = ClosingPasses n cells
