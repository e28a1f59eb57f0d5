-- Goals of `BitRow::get`: the truth value at a place.
use Rattle.std.proofs.{Common.arith, Common.◌≡◌, Common.length, lemmas.Grind.common_steps}
use Rattle.std.specs.Vec.{vec_len}
use Rattle.lra_bits.proofs.Packing.{bit_place, get_is}
use Rattle.lra_bits.proofs.bit_row.BitRow.get.Goals as goal

pub index-requires : goal.index-requires
index-requires c =
    let i = c.self.inside in
    let same : vec_len i.words ≡ length i.words.items = grind (arith, common_steps) in
    bit_place i.width i.words.items c.args.self.now c.args.k (vec_len i.words) c.self.view_is c.requires c.self.invariant.0 same

pub returns : goal.returns
returns c = get_is c.self.inside.width c.self.inside.words.items c.args.self.now c.args.k c.index.result.now c.self.view_is c.requires c.self.invariant.0 c.index.ensures
