-- Goals of `pivot_of`: the first column other than 0 in the order 1, 2, 3 and on; 0 if there is none.
use Rattle.std.proofs.Common.{pos, get_or, arith, rules, ◌∙◌, FitsSigned}
use Rattle.std.specs.Int.{w128}
use Rattle.lra_row.proofs.Pivots.{lead_later, zero_test}
use Rattle.lra_row.proofs.entries.pivot_of.Goals as goal

pub loop-j-preserved : goal.loop-j-preserved
loop-j-preserved c =
    let xs = c.args.xs.now in
    let j = c.loop-j.j in
    let fx : FitsSigned w128 (get_or xs j (pos 0)) = search rules in
    lead_later xs j (omega arith) (zero_test (get_or xs j (pos 0)) fx c.if-xs-j-ne0.false) ∙ c.loop-j.invariant
