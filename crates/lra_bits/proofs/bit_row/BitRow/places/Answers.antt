-- Goals of `BitRow::places`: of the first so many places those with a value that is true.
use Rattle.std.proofs.Common.{arith, sym}
use Rattle.lra_bits.proofs.{CommonPlaces.packed_bit, Places.next_word}
use Rattle.lra_bits.proofs.bit_row.BitRow.places.Goals as goal

pub bounds-words-at : goal.bounds-words-at
bounds-words-at c = omega (arith, c.loop-at-test.true, c.div_ceil-at-end.ensures, c.requires, c.words-words.ensures.count)

pub loop-at-preserved : goal.loop-at-preserved
loop-at-preserved c =
    next_word c.args.self.now c.args.count c.loop-at.at c.push_places.new.places.items
    (c.in_ok-push_places.ensures c.args.self.now (λ j h. sym (packed_bit c.args.self.now c.words-words.result.now c.loop-at.at j c.words-words.ensures h)) c.loop-at.invariant)
