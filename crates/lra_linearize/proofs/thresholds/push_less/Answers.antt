-- Goals of `push_less`: the number less another comes last.
use Rattle.std.proofs.Common.{rules, FitsSigned, ℤ, [], ◌∷◌, ◌++◌, ap, ◌∙◌}
use Rattle.std.specs.Int.{w64}
use Rattle.lra_linearize.proofs.ThresholdSteps.{difference_in_128}
use Rattle.lra_linearize.proofs.thresholds.push_less.Goals as goal

pub returns-clause-items : goal.returns-clause-items
returns-clause-items c =
    let one : FitsSigned w64 c.args.number.now = search rules in
    let other : FitsSigned w64 c.args.less.now = search rules in
    c.in_ok-push.ensures.items ∙ ap (λ (z : ℤ). c.args.numbers.now.items ++ z ∷ []) (difference_in_128 c.args.number.now c.args.less.now one other)
