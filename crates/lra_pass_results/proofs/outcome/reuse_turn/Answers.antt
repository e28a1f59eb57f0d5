-- Goals of `reuse_turn`: the kept round of a loop's body, if the same value enters it again.
use Rattle.std.proofs.Common.{rules, ◌≡◌}
use Rattle.lra_pass_results.proofs.Again.{same_given}
use Rattle.lra_pass_results.proofs.outcome.reuse_turn.Goals as goal

pub returns : goal.returns
returns g c others plan body kept =
    let same : c.in-Some.turn.entered ≡ c.args.on.now = search rules in
    same_given (g.F.Interfere.interference others) g.D.Domain.abstraction plan body c.args.flag c.args.on.now c.args.kept c.in-Some.turn c.in-Some.is same kept
