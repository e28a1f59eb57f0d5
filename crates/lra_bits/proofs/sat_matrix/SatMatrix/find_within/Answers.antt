-- Goals of `SatMatrix::find_within`: a row but two that is true wherever both are.
use Rattle.std.proofs.{Common.◌≡◌, Common.◌<◌, Common.arith, Common.length, Common.ap, lemmas.Grind.common_steps}
use Rattle.std.specs.Vec.{vec_len}
use Rattle.lra_bits.specs.Matrix.{Matrix}
use Rattle.lra_bits.proofs.WithinRows.{row_known, within_packed, not_said, within_more}
use Rattle.lra_bits.proofs.sat_matrix.SatMatrix.find_within.Goals.{then-place-first+then-place-second+else-are_common_within_from, else-place-first}
use Rattle.lra_bits.proofs.sat_matrix.SatMatrix.find_within.Goals.{else-place-first-via-then-place-first+else-place-second, else-place-first-via-else-place-first}
use Rattle.lra_bits.proofs.sat_matrix.SatMatrix.find_within.Goals as goal

pub returns-then-are_common_within_from : goal.returns-then-are_common_within_from
returns-then-are_common_within_from c =
    let i = c.self.inside in
    let m = c.args.self.now in
    let long : vec_len i.rows ≡ length i.rows.items = grind (arith, common_steps) in
    let inside : c.loop-place.place < length m.rows = omega (arith, c.loop-place-test.true, c.len-place-end.ensures, long, ap (λ (x : Matrix). length x.rows) c.self.view_is) in
    let x = row_known m i.width i.rows.items c.args.first c.index.result.now c.self.view_is c.self.invariant c.requires.first c.index.ensures in
    let y = row_known m i.width i.rows.items c.args.second c.index-2.result.now c.self.view_is c.self.invariant c.requires.second c.index-2.ensures in
    let z = row_known m i.width i.rows.items c.loop-place.place c.index-then-place-second.result.now c.self.view_is c.self.invariant inside c.index-then-place-second.ensures in
    let within = within_packed m c.args.first c.args.second c.loop-place.place c.index.result.now c.index-2.result.now c.index-then-place-second.result.now c.words-xs.result.now c.words-ys.result.now
    c.words.result.now x y z c.words-xs.ensures c.words-ys.ensures c.words.ensures c.are_common_within_from.ensures.fit in
    (inside, c.if-place-first.true, c.if-place-second.true, within.0 (c.are_common_within_from.ensures.within.0 c.if-are_common_within_from.true))

pub loop-place-preserved : goal.loop-place-preserved
loop-place-preserved c =
    let i = c.self.inside in
    let m = c.args.self.now in
    let k = c.loop-place.place in
    let long : vec_len i.rows ≡ length i.rows.items = grind (arith, common_steps) in
    let inside : k < length m.rows = omega (arith, c.loop-place-test.true, c.len-place-end.ensures, long, ap (λ (x : Matrix). length x.rows) c.self.view_is) in
    let x = row_known m i.width i.rows.items c.args.first c.index.result.now c.self.view_is c.self.invariant c.requires.first c.index.ensures in
    let y = row_known m i.width i.rows.items c.args.second c.index-2.result.now c.self.view_is c.self.invariant c.requires.second c.index-2.ensures in
    elim c.if-place-first.branch [
      | then-place-first+then-place-second+else-are_common_within_from w ↦
          let z = row_known m i.width i.rows.items k w.index-then-place-second.result.now c.self.view_is c.self.invariant inside w.index-then-place-second.ensures in
          let within = within_packed m c.args.first c.args.second k c.index.result.now c.index-2.result.now w.index-then-place-second.result.now c.words-xs.result.now c.words-ys.result.now
          w.words.result.now x y z c.words-xs.ensures c.words-ys.ensures w.words.ensures w.are_common_within_from.ensures.fit in
          within_more m c.args.first c.args.second k c.loop-place.invariant
          (λ _ _ s. not_said w.are_common_within_from.result w.if-are_common_within_from.false w.are_common_within_from.ensures.within.1 (within.1 s))
      | else-place-first w ↦ elim w.else-place-first.branch [
        | else-place-first-via-then-place-first+else-place-second v ↦ within_more m c.args.first c.args.second k c.loop-place.invariant (λ _ b. absurd (b v.if-place-second.false))
        | else-place-first-via-else-place-first v ↦ within_more m c.args.first c.args.second k c.loop-place.invariant (λ a. absurd (a v.if-place-first.false))
      ]
    ]
