-- Goals of `push_places`: puts the places of the bits of a word after what is there.
use Rattle.std.proofs.{Common.◌<◌, Common.◌+◌, Common.◌*◌, Common.◌^◌, Common.arith, Common.rules, lemmas.Nat.Bits.bit_at-trailing_zeros}
use Rattle.std.specs.Int.{w64, trailing_zeros}
use Rattle.lra_bits.proofs.Places.{all_left, one_fewer, zero_left, past_left, true_bit, still_within}
use Rattle.lra_bits.proofs.bit_row.push_places.Goals as goal

pub loop-left-init : goal.loop-left-init
loop-left-init c = record {
  fits = omega (arith, c.ranges.word.fits);
  within = λ j h one. one;
  pushed = λ values same a. all_left values c.args.count c.args.at c.args.word c.args.places.now.items same a;
}

pub overflow_add-place : goal.overflow_add-place
overflow_add-place c =
    let low = bit_at-trailing_zeros w64 c.loop-left.left (omega (arith, c.loop-left-test.true)) c.loop-left.invariant.fits in
    let inside : c.args.at * 64 + trailing_zeros w64 c.loop-left.left < 2 ^ 64 = omega (arith, low.0, c.requires, c.ranges.count.fits) in
    search rules

pub returns-then-place-count : goal.returns-then-place-count
returns-then-place-count c =
    let low = bit_at-trailing_zeros w64 c.loop-left.left (omega (arith, c.loop-left-test.true)) c.loop-left.invariant.fits in
    λ values same a. past_left values c.args.count c.args.at c.loop-left.left _ c.loop-left.places.items low.2 c.if-place-count.true (c.loop-left.invariant.pushed values same a)

pub clear-left-requires : goal.clear-left-requires
clear-left-requires c =
    let low = bit_at-trailing_zeros w64 c.loop-left.left (omega (arith, c.loop-left-test.true)) c.loop-left.invariant.fits in
    low.0

pub loop-left-smaller : goal.loop-left-smaller
loop-left-smaller c =
    let low = bit_at-trailing_zeros w64 c.loop-left.left (omega (arith, c.loop-left-test.true)) c.loop-left.invariant.fits in
    c.clear-left.ensures.smaller low.1

pub loop-left-preserved : goal.loop-left-preserved
loop-left-preserved c =
    let left = c.loop-left.left in
    let less = c.clear-left.result in
    let before = c.loop-left.invariant in
    let low = bit_at-trailing_zeros w64 left (omega (arith, c.loop-left-test.true)) before.fits in
    record {
      fits = omega (arith, c.clear-left.ensures.smaller low.1, before.fits);
      within = still_within c.args.word left less _ c.clear-left.ensures.cleared c.clear-left.ensures.others before.within;
      pushed = λ values same a. one_fewer values c.args.count c.args.at left less (trailing_zeros w64 left) c.loop-left.places.items c.push.new.self.items low.0 c.if-place-count.false
          (true_bit values c.args.at c.args.word left _ same before.within low.0 low.1) c.clear-left.ensures.others c.in_ok-push.ensures.items (before.pushed values same a);
    }

pub returns : goal.returns
returns c = λ values same a. zero_left values _ c.args.at c.loop-left.left c.loop-left.places.items c.loop-left-test.false (c.loop-left.invariant.pushed values same a)
