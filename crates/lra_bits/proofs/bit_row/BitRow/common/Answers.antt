-- Goals of `BitRow::common`: the list that is true where both are.
use Rattle.std.proofs.Common.{sym, ◌∙◌, ap}
use Rattle.lra_bits.specs.Words.{unpacked, words_needed}
use Rattle.lra_bits.proofs.{Packing.same_width, Pairs.common_is, Pairs.common_unused}
use Rattle.lra_bits.proofs.bit_row.BitRow.common.Goals as goal

pub common-requires : goal.common-requires
common-requires c =
    let same = same_width _ _ _ _ _ _ c.self.view_is c.other.view_is c.requires in
    rw (c.deref.ensures.value, c.deref-2.ensures.value) (c.self.invariant.0 ∙ ap words_needed same ∙ sym c.other.invariant.0)

pub invariant_of-result : goal.invariant_of-result
invariant_of-result c =
    let vs = c.other.inside.words.items in
    let same = same_width _ _ _ _ _ _ c.self.view_is c.other.view_is c.requires in
    let f = ap (λ n. unpacked n vs) same ∙ c.other.view_is in
    let n = c.other.invariant.0 ∙ ap words_needed (sym same) in
    let e = rw (c.deref.ensures.value, c.deref-2.ensures.value) at c.in_ok-words.ensures in
    common_unused c.self.inside.width c.self.inside.words.items vs c.args.self.now c.args.other.now c.self.view_is f c.self.invariant.0 n c.self.invariant.1 _ e

pub returns : goal.returns
returns c =
    let vs = c.other.inside.words.items in
    let same = same_width _ _ _ _ _ _ c.self.view_is c.other.view_is c.requires in
    let f = ap (λ n. unpacked n vs) same ∙ c.other.view_is in
    let n = c.other.invariant.0 ∙ ap words_needed (sym same) in
    let e = rw (c.deref.ensures.value, c.deref-2.ensures.value) at c.in_ok-words.ensures in
    common_is c.self.inside.width c.self.inside.words.items vs c.args.self.now c.args.other.now c.self.view_is f c.self.invariant.0 n _ e
