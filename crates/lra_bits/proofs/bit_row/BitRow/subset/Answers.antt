-- Goals of `BitRow::subset`: each value that is true is true in the other list too.
use Rattle.std.proofs.Common.{◌<◌, ◌^◌, sym, ◌∙◌, ap}
use Rattle.std.specs.List.{All}
use Rattle.lra_bits.specs.Words.{unpacked, words_needed}
use Rattle.lra_bits.proofs.{Packing.same_width, Pairs.words_subset, Pairs.subset_words}
use Rattle.lra_bits.proofs.bit_row.BitRow.subset.Goals as goal

pub are_within-requires : goal.are_within-requires
are_within-requires c =
    let same = same_width _ _ _ _ _ _ c.self.view_is c.other.view_is c.requires in
    rw (c.deref.ensures.value, c.deref-2.ensures.value) (c.self.invariant.0 ∙ ap words_needed same ∙ sym c.other.invariant.0)

pub returns : goal.returns
returns c =
    let us = c.self.inside.words.items in
    let vs = c.other.inside.words.items in
    let w = c.self.inside.width in
    let same = same_width _ _ _ _ _ _ c.self.view_is c.other.view_is c.requires in
    let f = ap (λ n. unpacked n vs) same ∙ c.other.view_is in
    let n = c.other.invariant.0 ∙ ap words_needed (sym same) in
    let r : All (λ x. x < 2 ^ 64) us = rw c.deref.ensures.value at c.are_within.ensures.fit in
    let e = rw (c.deref.ensures.value, c.deref-2.ensures.value) at c.are_within.ensures.within in (
      λ t. words_subset w us vs c.args.self.now c.args.other.now c.self.view_is f c.self.invariant.0 n (e.0 t),
      λ s. e.1 (subset_words w us vs c.args.self.now c.args.other.now c.self.view_is f c.self.invariant.0 n c.self.invariant.1 r s),
    )
