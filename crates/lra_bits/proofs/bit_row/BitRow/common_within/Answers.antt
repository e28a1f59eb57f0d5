-- Goals of `BitRow::common_within`: each value that is true here and in the second list is true in the third too.
use Rattle.std.proofs.Common.{◌<◌, ◌^◌, sym, ◌∙◌, ap}
use Rattle.std.specs.List.{All}
use Rattle.lra_bits.specs.Words.{unpacked, words_needed}
use Rattle.lra_bits.proofs.{Packing.same_width, Pairs.common_subset}
use Rattle.lra_bits.proofs.bit_row.BitRow.common_within.Goals as goal

pub are_common_within-requires-clause-second : goal.are_common_within-requires-clause-second
are_common_within-requires-clause-second c =
    let same = same_width _ _ _ _ _ _ c.self.view_is c.second.view_is c.requires.second in
    rw (c.deref.ensures.value, c.deref-2.ensures.value) (c.self.invariant.0 ∙ ap words_needed same ∙ sym c.second.invariant.0)

pub are_common_within-requires-clause-third : goal.are_common_within-requires-clause-third
are_common_within-requires-clause-third c =
    let same = same_width _ _ _ _ _ _ c.self.view_is c.third.view_is c.requires.third in
    rw (c.deref.ensures.value, c.deref-3.ensures.value) (c.self.invariant.0 ∙ ap words_needed same ∙ sym c.third.invariant.0)

pub returns : goal.returns
returns c =
    let us = c.self.inside.words.items in
    let vs = c.second.inside.words.items in
    let ts = c.third.inside.words.items in
    let w = c.self.inside.width in
    let second = same_width _ _ _ _ _ _ c.self.view_is c.second.view_is c.requires.second in
    let third = same_width _ _ _ _ _ _ c.self.view_is c.third.view_is c.requires.third in
    let r : All (λ x. x < 2 ^ 64) us = rw c.deref.ensures.value at c.are_common_within.ensures.fit in
    let e = rw (c.deref.ensures.value, c.deref-2.ensures.value, c.deref-3.ensures.value) at c.are_common_within.ensures.within in
    let s = common_subset w us vs ts c.args.self.now c.args.second.now c.args.third.now c.self.view_is (ap (λ n. unpacked n vs) second ∙ c.second.view_is)
    (ap (λ n. unpacked n ts) third ∙ c.third.view_is) c.self.invariant.0 (c.second.invariant.0 ∙ ap words_needed (sym second)) (c.third.invariant.0 ∙ ap words_needed (sym third))
    c.self.invariant.1 r in
    ((λ t. s.0 (e.0 t)), (λ t. e.1 (s.1 t)))
