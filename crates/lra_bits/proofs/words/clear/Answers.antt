-- Goals of `clear`: the word without this bit.
use Rattle.std.specs.Int.{w64}
use Rattle.std.proofs.{lemmas.Nat.and_le_l, lemmas.Nat.Bits.bit_at_clear_same, lemmas.Nat.Bits.bit_at_clear_other}
use Rattle.lra_bits.proofs.Transposing.{smaller_without}
use Rattle.lra_bits.proofs.words.clear.Goals as goal

pub returns-clause-cleared : goal.returns-clause-cleared
returns-clause-cleared c = bit_at_clear_same w64 c.args.word c.args.bit c.requires

pub returns-clause-others : goal.returns-clause-others
returns-clause-others c = λ j h n. bit_at_clear_other w64 c.args.word c.args.bit c.requires j h n

pub returns-clause-smaller : goal.returns-clause-smaller
returns-clause-smaller c = λ one. smaller_without c.args.word _ c.args.bit (and_le_l c.args.word _) (bit_at_clear_same w64 c.args.word c.args.bit c.requires) one
