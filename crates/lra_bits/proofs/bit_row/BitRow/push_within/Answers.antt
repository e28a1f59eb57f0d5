-- Goals of `BitRow::push_within`: puts a truth value after the others, in a word that is there.
use Rattle.std.proofs.Common.{◌∙◌, ap, length, sym}
use Rattle.lra_bits.proofs.{Packing.length_unpacked, Widening.last_inside, Widening.pushed_value}
use Rattle.lra_bits.proofs.bit_row.BitRow.push_within.Goals as goal

pub set-requires : goal.set-requires
set-requires c = last_inside c.self.inside.width c.self.inside.words.items c.args.self.now c.widen_within.new.self c.self.view_is c.widen_within.ensures

pub returns : goal.returns
returns c =
    let last = sym (length_unpacked c.self.inside.width c.self.inside.words.items) ∙ ap length c.self.view_is in
    pushed_value c.args.self.now c.widen_within.new.self c.set.new.self c.self.inside.width c.args.v last c.widen_within.ensures c.set.ensures
