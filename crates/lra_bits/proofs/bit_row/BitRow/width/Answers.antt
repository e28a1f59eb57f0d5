-- Goals of `BitRow::width`: the number of truth values.
use Rattle.std.proofs.Common.{◌∙◌, sym, ap, length}
use Rattle.lra_bits.proofs.Packing.{length_unpacked}
use Rattle.lra_bits.proofs.bit_row.BitRow.width.Goals as goal

pub returns : goal.returns
returns c = sym (length_unpacked c.self.inside.width c.self.inside.words.items) ∙ ap length c.self.view_is
