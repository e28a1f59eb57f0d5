-- Goals of `row_of`: the row `constant + factor * x_k` in `n` dimensions.
use Rattle.std.proofs.Common.{rules, ◌≡◌}
use Rattle.lra_box.specs.Parts.{bound_row}
use Rattle.lra_box.proofs.PartLemmas.{row_in_range}
use Rattle.lra_box.proofs.parts.row_of.Goals as goal

pub from_slice-requires : goal.from_slice-requires
from_slice-requires c =
    let row : c.as_slice-2.result.now ≡ bound_row c.args.n c.args.k c.args.constant c.args.factor = search rules in
    rw row (row_in_range c.args.n c.args.k c.args.constant c.args.factor c.requires.constant c.requires.factor)
