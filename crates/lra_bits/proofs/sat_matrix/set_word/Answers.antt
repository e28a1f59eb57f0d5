-- Goals of `set_word`: puts place `k` in the rows at the places of the bits of the word at `at`.
use Rattle.std.proofs.Common.{ℕ, ◌<◌, ◌+◌, ◌*◌, length, arith, rules, sym, ap, get_or, set, [], Bool, List, ◌∙◌, refl, subst, nat_eq, true}
use Rattle.std.proofs.{lemmas.List.get_or_default, lemmas.Nat.Bits.bit_at-trailing_zeros}
use Rattle.std.specs.{Int.w64, Int.trailing_zeros, Prelude.IsTrue}
use Rattle.lra_bits.specs.Transposed.{IsMarked, is_in_word}
use Rattle.lra_bits.proofs.Transposing.{marked_one, word_step, fewer_inside, in_word_lowest, wider_still}
use Rattle.lra_bits.proofs.sat_matrix.set_word.Goals as goal

pub overflow_mul-at : goal.overflow_mul-at
overflow_mul-at c =
    let low = bit_at-trailing_zeros w64 c.loop-left.left (omega (arith, c.loop-left-test.true)) c.loop-left.invariant.fits in
    let inside : c.args.at * 64 + trailing_zeros w64 c.loop-left.left < length c.loop-left.columns =
    c.loop-left.invariant.inside _ (in_word_lowest c.loop-left.left c.args.at _ low.0 low.1) in
    let less : c.args.at * 64 < length c.loop-left.columns = omega (arith, inside) in
    search rules

pub overflow_add-at : goal.overflow_add-at
overflow_add-at c =
    let low = bit_at-trailing_zeros w64 c.loop-left.left (omega (arith, c.loop-left-test.true)) c.loop-left.invariant.fits in
    let inside : c.args.at * 64 + trailing_zeros w64 c.loop-left.left < length c.loop-left.columns =
    c.loop-left.invariant.inside _ (in_word_lowest c.loop-left.left c.args.at _ low.0 low.1) in
    search rules

pub offset_bounds-columns-at : goal.offset_bounds-columns-at
offset_bounds-columns-at c =
    let low = bit_at-trailing_zeros w64 c.loop-left.left (omega (arith, c.loop-left-test.true)) c.loop-left.invariant.fits in
    let inside : c.args.at * 64 + trailing_zeros w64 c.loop-left.left < length c.loop-left.columns =
    c.loop-left.invariant.inside _ (in_word_lowest c.loop-left.left c.args.at _ low.0 low.1) in
    search rules

pub bounds-columns-at : goal.bounds-columns-at
bounds-columns-at c =
    let low = bit_at-trailing_zeros w64 c.loop-left.left (omega (arith, c.loop-left-test.true)) c.loop-left.invariant.fits in
    c.loop-left.invariant.inside _ (in_word_lowest c.loop-left.left c.args.at _ low.0 low.1)

pub set-requires : goal.set-requires
set-requires c =
    let low = bit_at-trailing_zeros w64 c.loop-left.left (omega (arith, c.loop-left-test.true)) c.loop-left.invariant.fits in
    let inside = c.loop-left.invariant.inside _ (in_word_lowest c.loop-left.left c.args.at _ low.0 low.1) in
    let same = get_or_default c.loop-left.columns _ [] c.index-columns-at.result inside in
    subst (λ (row : List Bool). c.args.k < length row) same (c.loop-left.invariant.wide _ inside)

pub clear-left-requires : goal.clear-left-requires
clear-left-requires c =
    let low = bit_at-trailing_zeros w64 c.loop-left.left (omega (arith, c.loop-left-test.true)) c.loop-left.invariant.fits in
    low.0

pub loop-left-smaller : goal.loop-left-smaller
loop-left-smaller c =
    let low = bit_at-trailing_zeros w64 c.loop-left.left (omega (arith, c.loop-left-test.true)) c.loop-left.invariant.fits in
    c.clear-left.ensures.smaller low.1

pub loop-left-preserved : goal.loop-left-preserved
loop-left-preserved c =
    let left = c.loop-left.left in
    let less = c.clear-left.result in
    let at = c.args.at in
    let rows = c.loop-left.columns in
    let low = bit_at-trailing_zeros w64 left (omega (arith, c.loop-left-test.true)) c.loop-left.invariant.fits in
    let inside = c.loop-left.invariant.inside _ (in_word_lowest left at _ low.0 low.1) in
    let wide = c.loop-left.invariant.wide _ inside in
    let same = get_or_default rows _ [] c.index-columns-at.result inside in
    let new = set rows (at * 64 + trailing_zeros w64 left) c.set.new.self in
    let one : IsMarked rows new c.args.k (λ c'. nat_eq c' (at * 64 + trailing_zeros w64 left)) =
    marked_one rows new _ c.args.k (get_or rows (at * 64 + trailing_zeros w64 left) []) inside wide refl
    (ap (λ (row : List Bool). set rows (at * 64 + trailing_zeros w64 left) row) (c.set.ensures ∙ ap (λ (row : List Bool). set row c.args.k true) (sym same))) in
    record {
      fits = omega (arith, c.clear-left.ensures.smaller low.1, c.loop-left.invariant.fits);
      wide = wider_still rows new c.args.k _ one c.loop-left.invariant.wide;
      inside = subst (λ (n : ℕ). (x : ℕ) → IsTrue (is_in_word less at x) → x < n) (sym one.height)
          (fewer_inside left less at _ (length rows) low.0 low.1 c.clear-left.ensures.cleared c.clear-left.ensures.others c.loop-left.invariant.inside);
      goes_on = λ final rest. c.loop-left.invariant.goes_on final
          (word_step left less at _ low.0 low.1 c.clear-left.ensures.cleared c.clear-left.ensures.others rows new c.args.k one final rest);
    }
