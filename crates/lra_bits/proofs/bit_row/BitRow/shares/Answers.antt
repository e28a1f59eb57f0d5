-- Goals of `BitRow::shares`: whether at least so many values are true in both.
use Rattle.std.proofs.Common.{◌<◌, ◌≤◌, ◌^◌, ℕ, sym, ◌∙◌, ap, subst}
use Rattle.std.specs.List.{All}
use Rattle.lra_bits.specs.Words.{unpacked, words_needed}
use Rattle.lra_bits.proofs.{CommonBits.common_count, Packing.same_width}
use Rattle.lra_bits.proofs.bit_row.BitRow.shares.Goals as goal

pub share_bits-requires : goal.share_bits-requires
share_bits-requires c =
    let same = same_width _ _ _ _ _ _ c.self.view_is c.other.view_is c.requires in
    rw (c.deref.ensures.value, c.deref-2.ensures.value) (c.self.invariant.0 ∙ ap words_needed same ∙ sym c.other.invariant.0)

pub returns : goal.returns
returns c =
    let us = c.self.inside.words.items in
    let vs = c.other.inside.words.items in
    let w = c.self.inside.width in
    let same = same_width _ _ _ _ _ _ c.self.view_is c.other.view_is c.requires in
    let f = ap (λ n. unpacked n vs) same ∙ c.other.view_is in
    let n = c.other.invariant.0 ∙ ap words_needed (sym same) in
    let fit : All (λ x. x < 2 ^ 64) us = rw c.deref.ensures.value at c.share_bits.ensures.fit in
    let e = rw (c.deref.ensures.value, c.deref-2.ensures.value) at c.share_bits.ensures.enough in
    let count = common_count w us vs c.args.self.now c.args.other.now c.self.view_is f c.self.invariant.0 n c.self.invariant.1 fit in (
      (λ t. subst (λ (k : ℕ). c.args.least ≤ k) (sym count) (e.0 t)),
      (λ h. e.1 (subst (λ (k : ℕ). c.args.least ≤ k) count h)),
    )
