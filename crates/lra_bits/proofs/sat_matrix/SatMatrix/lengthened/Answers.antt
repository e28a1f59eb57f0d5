-- Goals of `SatMatrix::lengthened`: the rows with a value after each.
use Rattle.std.proofs.{Common.◌<◌, Common.◌≡◌, Common.◌∙◌, Common.[], Common.ap, Common.arith, Common.get_or, Common.length, lemmas.Grind.common_steps, lemmas.List.get_or_default}
use Rattle.std.specs.Vec.{vec_len}
use Rattle.lra_bits.specs.Matrix.{Matrix}
use Rattle.lra_bits.proofs.Lengthening.{copied_all, copied_more}
use Rattle.lra_bits.proofs.sat_matrix.SatMatrix.lengthened.Goals as goal

pub loop-k-preserved : goal.loop-k-preserved
loop-k-preserved c =
    let i = c.self.inside in
    let rows = c.args.self.now.rows in
    let k = c.loop-k.k in
    let seen : length i.rows.items ≡ length rows = ap (λ (m : Matrix). length m.rows) c.self.view_is in
    let long : vec_len i.rows ≡ length i.rows.items = grind (arith, common_steps) in
    let inside : k < length rows = omega (arith, c.loop-k-test.true, c.len-k-end.ensures, long, seen) in
    copied_more rows c.args.last.now k c.push.new.self c.in_ok-row.row c.get.result c.loop-k.rows.items c.push-in-loop-k.new.self.items c.requires inside
    (c.in_ok-row.ensures ∙ c.index.ensures ∙ get_or_default i.rows.items k c.index.result.now [] (omega (arith, inside, seen)) ∙ ap
    (λ (m : Matrix). get_or m.rows k []) c.self.view_is)
    c.get.ensures c.in_ok-push.ensures.pushed c.in_ok-push-2.ensures.items c.loop-k.invariant

pub returns : goal.returns
returns c =
    let i = c.self.inside in
    let rows = c.args.self.now.rows in
    let seen : length i.rows.items ≡ length rows = ap (λ (m : Matrix). length m.rows) c.self.view_is in
    let long : vec_len i.rows ≡ length i.rows.items = grind (arith, common_steps) in
    copied_all rows c.args.last.now c.loop-k.k c.loop-k.rows.items c.requires (omega (arith, c.loop-k-test.false, c.len-k-end.ensures, long, seen))
    c.loop-k.invariant
