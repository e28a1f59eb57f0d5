-- What holds if no closing was flagged: an octagon is then empty, or its matrix is tight.
use Rattle.std.specs.Prelude.{◌≡◌, ℕ, Option, None, Some}
use Rattle.lra_domain.specs.Actions.{Within}
use Rattle.lra_dbm.specs.{Cells.Cells, Cells.entries, Tight.IsTight}
use Rattle.lra_octagon.specs.Content.{OctagonContent, CellsFit, OctagonGamma, OctagonWithin}

abbrev pub IsTightOrNone : ℕ → Option Cells → Type 0
IsTightOrNone n None = Unit {0}
IsTightOrNone n (Some cells) = IsTight n (entries n cells)

abbrev pub IsTightOctagon : OctagonContent → Type 0
IsTightOctagon a = IsTightOrNone a.dims a.cells

-- if both octagons are tight, the new one lies in each that has the stores of both
abbrev pub LeastOctagon : OctagonContent → OctagonContent → OctagonContent → Type 0
LeastOctagon a b new =
    IsTightOctagon a → IsTightOctagon b → (c : OctagonContent) → c.dims ≡ a.dims → CellsFit c.dims c.cells
    → Within (OctagonGamma a) (OctagonGamma c) → Within (OctagonGamma b) (OctagonGamma c) → OctagonWithin new c
