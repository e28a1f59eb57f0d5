-- Goals of `BitRow::set`: puts a truth value at a place.
use Rattle.std.proofs.{Common.arith, Common.◌≡◌, Common.length, lemmas.Grind.common_steps}
use Rattle.std.specs.Vec.{vec_len}
use Rattle.lra_bits.proofs.Packing.{bit_place, set_is, clear_is, set_unused, clear_unused}
use Rattle.lra_bits.proofs.bit_row.BitRow.set.Goals as goal

pub index_mut-requires : goal.index_mut-requires
index_mut-requires c =
    let i = c.self.inside in
    let same : vec_len i.words ≡ length i.words.items = grind (arith, common_steps) in
    bit_place i.width i.words.items c.args.self.now c.args.k (vec_len i.words) c.self.view_is c.requires c.self.invariant.0 same

pub index_mut-requires-else-v : goal.index_mut-requires-else-v
index_mut-requires-else-v c =
    let i = c.self.inside in
    let same : vec_len i.words ≡ length i.words.items = grind (arith, common_steps) in
    bit_place i.width i.words.items c.args.self.now c.args.k (vec_len i.words) c.self.view_is c.requires c.self.invariant.0 same

pub invariant_of-self : goal.invariant_of-self
invariant_of-self c = set_unused c.self.inside.width c.self.inside.words.items c.args.self.now c.index_mut.result.now c.args.k c.self.view_is c.requires c.self.invariant.0 c.index_mut.ensures.value
    c.self.invariant.1

pub invariant_of-self-else-v : goal.invariant_of-self-else-v
invariant_of-self-else-v c =
    clear_unused c.self.inside.width c.self.inside.words.items c.args.self.now c.index_mut-else-v.result.now c.args.k c.self.view_is c.requires c.self.invariant.0 c.index_mut-else-v.ensures.value
    c.self.invariant.1

pub returns-then-v : goal.returns-then-v
returns-then-v c = rw c.if-v.true (set_is c.self.inside.width c.self.inside.words.items c.args.self.now c.index_mut.result.now c.args.k c.self.view_is c.requires c.self.invariant.0
    c.index_mut.ensures.value)

pub returns-else-v : goal.returns-else-v
returns-else-v c = rw c.if-v.false (clear_is c.self.inside.width c.self.inside.words.items c.args.self.now c.index_mut-else-v.result.now c.args.k c.self.view_is c.requires c.self.invariant.0
    c.index_mut-else-v.ensures.value)
