-- Goals of `cell_place`: the place of the entry, or of its twin if the row doesn't hold it.
use Rattle.std.proofs.Common.{rules}
use Rattle.lra_dbm.proofs.CellLemmas.{place_in_row, place_of_twin, that_place_below}
use Rattle.lra_dbm.proofs.cells.cell_place.Goals as goal

pub returns-then-j-i-clause-place : goal.returns-then-j-i-clause-place
returns-then-j-i-clause-place c =
    place_in_row c.args.i c.args.j c.row_place.result (search rules) c.row_place.ensures

pub returns-then-j-i-clause-below : goal.returns-then-j-i-clause-below
returns-then-j-i-clause-below c =
    that_place_below c.args.n c.args.i c.args.j c.row_place.result c.requires.row c.requires.column
    (place_in_row c.args.i c.args.j c.row_place.result (search rules) c.row_place.ensures)

pub returns-else-j-i-clause-place : goal.returns-else-j-i-clause-place
returns-else-j-i-clause-place c =
    place_of_twin c.args.i c.args.j c.row_place-else-j-i.result (λ h. search rules) (search rules)

pub returns-else-j-i-clause-below : goal.returns-else-j-i-clause-below
returns-else-j-i-clause-below c =
    that_place_below c.args.n c.args.i c.args.j c.row_place-else-j-i.result c.requires.row c.requires.column
    (place_of_twin c.args.i c.args.j c.row_place-else-j-i.result (λ h. search rules) (search rules))
