-- Goals of `BitRow::words`: the words.
use Rattle.std.proofs.Common.{List, Bool, subst}
use Rattle.lra_bits.specs.Words.{ArePacked}
use Rattle.lra_bits.proofs.Packing.{all_packed}
use Rattle.lra_bits.proofs.bit_row.BitRow.words.Goals as goal

pub returns : goal.returns
returns c =
    let i = c.self.inside in
    rw (c.as_slice.ensures.value) (subst (λ (v : List Bool). ArePacked v i.words.items) c.self.view_is (all_packed i.width i.words.items c.self.invariant.0 c.self.invariant.1))
