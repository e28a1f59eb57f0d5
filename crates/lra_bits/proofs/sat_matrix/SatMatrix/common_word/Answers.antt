-- Goals of `SatMatrix::common_word`: the bits that are set in each of these rows that is marked.
use Rattle.std.proofs.{Common.arith, Common.ap, Common.◌∙◌, Common.[], Common.get_or, Common.List, Common.Bool, lemmas.List.get_or_default, lemmas.Nat.Bits.bit_at_ones}
use Rattle.lra_bits.specs.Matrix.{Matrix}
use Rattle.lra_bits.proofs.CommonPlaces.{word_skip, word_meet, none_common}
use Rattle.lra_bits.proofs.sat_matrix.SatMatrix.common_word.Goals.{then-get+else-word-eq0, else-get}
use Rattle.lra_bits.proofs.sat_matrix.SatMatrix.common_word.Goals as goal

pub loop-i-init : goal.loop-i-init
loop-i-init c = λ j h. ((λ t i l. absurd (omega (arith, l))), (λ t. bit_at_ones 64 j h))

pub returns-then-word-eq0 : goal.returns-then-word-eq0
returns-then-word-eq0 c =
    let m = c.args.self.now in
    let rows = c.args.rows.now in
    let n = c.loop-i.i in
    none_common m rows c.args.marked.now c.args.at n _ c.loop-i-test.true c.if-word-eq0.true
    (word_meet m rows c.args.marked.now c.args.at n c.loop-i.word c.index.result.now c.words.result.now
    (c.index.ensures ∙ ap (λ (rs : List (List Bool)). get_or rs (get_or rows n 0) c.index.result.now) (ap (λ (x : Matrix). x.rows) c.self.view_is) ∙
    get_or_default m.rows (get_or rows n 0) c.index.result.now [] (c.requires.rows n 0 c.loop-i-test.true))
    c.words.ensures c.get.result c.get.ensures c.if-get.true c.loop-i.invariant)

pub loop-i-preserved : goal.loop-i-preserved
loop-i-preserved c =
    let m = c.args.self.now in
    let rows = c.args.rows.now in
    let n = c.loop-i.i in
    elim c.if-get.branch [
      | then-get+else-word-eq0 w ↦ rw (w.word-is)
          (word_meet m rows c.args.marked.now c.args.at n c.loop-i.word w.index.result.now w.words.result.now
          (w.index.ensures ∙ ap (λ (rs : List (List Bool)). get_or rs (get_or rows n 0) w.index.result.now) (ap (λ (x : Matrix). x.rows) c.self.view_is) ∙
          get_or_default m.rows (get_or rows n 0) w.index.result.now [] (c.requires.rows n 0 c.loop-i-test.true))
          w.words.ensures c.get.result c.get.ensures w.if-get.true c.loop-i.invariant)
      | else-get w ↦ rw (w.word-is) (word_skip m rows c.args.marked.now c.args.at n c.loop-i.word c.get.result c.get.ensures w.if-get.false c.loop-i.invariant)
    ]
