-- Goals of `pair_row`: the row `q + v_i + v_j` in `n` dimensions, and with `j` the same as `i` the row `q + v_i`.
use Rattle.std.proofs.Common.{rules, ◌≡◌}
use Rattle.lra_octagon.specs.Parts.{pair_row}
use Rattle.lra_octagon.proofs.PartLemmas.{pair_in_range}
use Rattle.lra_octagon.proofs.parts.pair_row.Goals as goal

pub from_slice-requires : goal.from_slice-requires
from_slice-requires c =
    let row : c.as_slice-2.result.now ≡ pair_row c.args.n c.args.i c.args.j c.args.q = search rules in
    rw row (pair_in_range c.args.n c.args.i c.args.j c.args.q c.requires.range)
