-- Goals of `are_narrow`: whether each number is narrow.
use Rattle.std.proofs.{Common.rules, Common.arith, Common.FitsSigned, Common.IsTrue, Common.get_or, Common.pos, Common.subst, lemmas.Int.to_z-of_z, lemmas.List.take_all, lemmas.List.Elements.All-more}
use Rattle.std.specs.{Int.w128, List.All}
use Rattle.lra_row.specs.Words.{IsNarrow}
use Rattle.lra_row.proofs.entries.are_narrow.Goals as goal

pub loop-x-preserved : goal.loop-x-preserved
loop-x-preserved c =
    let xs = c.args.xs.now in
    let i = c.loop-x.x-index in
    let fx : FitsSigned w128 (get_or xs i (pos 0)) = search rules in
    let narrow : IsTrue c.is_narrow.result = search rules in
    let here : IsNarrow (get_or xs i (pos 0)) = simp to_z-of_z at c.is_narrow.ensures narrow in
    All-more IsNarrow xs i (pos 0) c.loop-x-test.true c.loop-x.invariant here

pub returns : goal.returns
returns c = λ t. subst (All IsNarrow) (take_all c.loop-x.x-index c.args.xs.now (omega arith)) c.loop-x.invariant
