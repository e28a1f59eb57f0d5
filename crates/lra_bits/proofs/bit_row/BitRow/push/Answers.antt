-- Goals of `BitRow::push`: puts a truth value after the others.
use Rattle.std.proofs.Common.{◌∙◌, sym, ap, length}
use Rattle.lra_bits.proofs.{Packing.length_unpacked, Widening.last_inside, Widening.pushed_true}
use Rattle.lra_bits.proofs.bit_row.BitRow.push.Goals as goal

pub set-requires : goal.set-requires
set-requires c = last_inside c.self.inside.width c.self.inside.words.items c.args.self.now c.widen.new.self c.self.view_is c.in_ok-widen.ensures.widened

pub returns-then-v-clause-pushed : goal.returns-then-v-clause-pushed
returns-then-v-clause-pushed c =
    let last = sym (length_unpacked c.self.inside.width c.self.inside.words.items) ∙ ap length c.self.view_is in
    pushed_true c.args.self.now c.widen.new.self c.set.new.self c.self.inside.width c.args.v last c.if-v.true c.in_ok-widen.ensures.widened
    c.set.ensures
