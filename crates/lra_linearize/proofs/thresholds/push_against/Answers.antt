-- Goals of `push_against`: the number times -1, with another added, comes last.
use Rattle.std.proofs.Common.{rules, FitsSigned, ℤ, [], ◌∷◌, ◌++◌, ap, ◌∙◌}
use Rattle.std.specs.Int.{w64}
use Rattle.lra_linearize.proofs.ThresholdSteps.{against_in_128}
use Rattle.lra_linearize.proofs.thresholds.push_against.Goals as goal

pub returns-clause-items : goal.returns-clause-items
returns-clause-items c =
    let one : FitsSigned w64 c.args.number.now = search rules in
    let other : FitsSigned w64 c.args.more.now = search rules in
    c.in_ok-push.ensures.items ∙ ap (λ (z : ℤ). c.args.numbers.now.items ++ z ∷ []) (against_in_128 c.args.number.now c.args.more.now one other)
