-- Goals of `divide`: divides each entry, all of which the positive divisor divides.
use Rattle.std.proofs.Common.{rules, arith, FitsSigned, get_or, pos, ap, ◌∙◌, int_div, set}
use Rattle.std.proofs.{lemmas.Int.to_z-of_z, lemmas.List.get_or_default, lemmas.List.Edits.map_over_more}
use Rattle.std.specs.Int.{w128}
use Rattle.lra_row.proofs.entries.divide.Goals as goal

pub loop-x-preserved : goal.loop-x-preserved
loop-x-preserved c =
    let i = c.loop-x.x-index in
    let xs = c.loop-x.xs in
    let x = get_or xs i (pos 0) in
    let d = c.args.divisor in
    let fx : FitsSigned w128 x = search rules in
    let fd = c.ranges.divisor in
    let fq : FitsSigned w128 c.quotient.result = search rules in
    let q = simp to_z-of_z at c.quotient.ensures in
    let j = simp to_z-of_z at c.loop-x.invariant in
    let more = map_over_more (λ y. int_div y d) c.args.xs.now xs i x c.loop-x-test.true j (get_or_default xs i (pos 0) x (omega arith)) in
    simp to_z-of_z (ap (λ y. set xs i y) q ∙ more)
