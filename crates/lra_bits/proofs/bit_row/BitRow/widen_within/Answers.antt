-- Goals of `BitRow::widen_within`: one more value, false, in a word that is there.
use Rattle.std.proofs.Common.{◌^◌}
use Rattle.lra_bits.proofs.Widening.{fits_wider, room_left, widened_within}
use Rattle.lra_bits.proofs.bit_row.BitRow.widen_within.Goals as goal

pub overflow_add-self : goal.overflow_add-self
overflow_add-self c = record { fits = fits_wider c.self.inside.width c.self.inside.words.items c.args.self.now (2 ^ 64) c.self.view_is c.requires.few }

pub invariant_of-self : goal.invariant_of-self
invariant_of-self c = room_left c.self.inside.width c.self.inside.words.items c.args.self.now c.self.view_is c.requires.room c.self.invariant.0
    c.self.invariant.1

pub returns : goal.returns
returns c = widened_within c.self.inside.width c.self.inside.words.items c.args.self.now c.self.view_is c.self.invariant.0 c.self.invariant.1
