-- Goals of `SatMatrix::find_common`: the first place but two where each of these rows is true that is marked.
use Rattle.std.proofs.Common.{arith, ap, ◌≡◌}
use Rattle.lra_bits.specs.Matrix.{Matrix}
use Rattle.lra_bits.proofs.CommonPlaces.{found, none_here, none_inside}
use Rattle.lra_bits.proofs.sat_matrix.SatMatrix.find_common.Goals.{then-others-ne0+else-bit-self, else-others-ne0}
use Rattle.lra_bits.proofs.sat_matrix.SatMatrix.find_common.Goals as goal

pub returns-then-bit-self : goal.returns-then-bit-self
returns-then-bit-self c =
    let wide : c.self.inside.width ≡ c.args.self.now.width = ap (λ (m : Matrix). m.width) c.self.view_is in
    found c.args.self.now c.args.rows.now c.args.marked.now c.args.first c.args.second c.loop-at.at c.common_word-word.result c.without.result c.without-others.result
    c.common_word-word.ensures c.without.ensures c.without-others.ensures c.without-others.type_inv c.if-others-ne0.true (omega (arith, c.if-bit-self.true, wide))

pub loop-at-preserved : goal.loop-at-preserved
loop-at-preserved c =
    let wide : c.self.inside.width ≡ c.args.self.now.width = ap (λ (m : Matrix). m.width) c.self.view_is in
    let m = c.args.self.now in
    elim c.if-others-ne0.branch [
      | then-others-ne0+else-bit-self w ↦
          none_inside m c.args.rows.now c.args.marked.now c.args.first c.args.second c.loop-at.at c.common_word-word.result c.without.result c.without-others.result
          c.common_word-word.ensures c.without.ensures c.without-others.ensures c.without-others.type_inv w.if-others-ne0.true (omega (arith, w.if-bit-self.false, wide)) c.loop-at.invariant
      | else-others-ne0 w ↦
          none_here m c.args.rows.now c.args.marked.now c.args.first c.args.second c.loop-at.at c.common_word-word.result c.without.result c.without-others.result
          c.common_word-word.ensures c.without.ensures c.without-others.ensures w.if-others-ne0.false c.loop-at.invariant
    ]
