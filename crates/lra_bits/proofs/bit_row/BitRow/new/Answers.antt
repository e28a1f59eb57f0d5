-- Goals of `BitRow::new`: so many truth values, all false.
use Rattle.lra_bits.proofs.Packing.{zeros_unpacked}
use Rattle.lra_bits.proofs.bit_row.BitRow.new.Goals as goal

pub returns : goal.returns
returns c = zeros_unpacked c.args.width _ _ (c.in_ok-words.ensures.items_if_clones_equal (λ y h. h))
