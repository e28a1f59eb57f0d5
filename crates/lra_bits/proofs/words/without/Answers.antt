-- Goals of `without`: the word without the bit of a place.
use Rattle.lra_bits.proofs.CommonPlaces.{cleared}
use Rattle.lra_bits.proofs.words.without.Goals as goal

pub returns-then-place-at : goal.returns-then-place-at
returns-then-place-at c = λ j h. cleared c.args.word c.args.at c.args.place j c.if-place-at.true h
