-- Goals of `quotient`: the quotient by a positive divisor, rounded towards 0.
use Rattle.std.proofs.{Common.FitsSigned, Common.int_div, Common.refl, lemmas.Int.to_z-of_z, lemmas.Int.quot_fits}
use Rattle.std.specs.Int.{w64, w128}
use Rattle.lra_row.proofs.Words.{word_fits}
use Rattle.lra_row.proofs.number.quotient.Goals as goal

pub returns-then-is_word-2 : goal.returns-then-is_word-2
returns-then-is_word-2 c =
    let x = c.args.x in
    let d = c.args.divisor in
    let fx = c.ranges.x in
    let fd = c.ranges.divisor in
    let hx = simp to_z-of_z at c.is_word.ensures in
    let hd = simp to_z-of_z at c.is_word-then-is_word.ensures in
    let gx : FitsSigned w64 x = word_fits x (hx c.if-is_word.true) in
    let gd : FitsSigned w64 d = word_fits d (hd c.if-is_word-2.true) in
    let gq : FitsSigned w64 (int_div x d) = quot_fits w64 x d gx c.requires in
    let fq : FitsSigned w128 (int_div x d) = quot_fits w128 x d fx c.requires in
    simp to_z-of_z refl
