-- Goals of `LoopCache::end`: the loop of this point is left.
use Rattle.std.proofs.Common.{sym, subst, arith}
use Rattle.std.specs.List.{All}
use Rattle.lra_pass_results.specs.Crates.lra_analysis_spec.Pass.{PassResult}
use Rattle.lra_pass_results.specs.{LoopCache.IsRecalled, Outcome.IsKept}
use Rattle.lra_pass_results.proofs.loop_cache.LoopCache.end.Goals as goal

pub returns-then-self-eq0 : goal.returns-then-self-eq0
returns-then-self-eq0 g c others plan loops all one =
    subst (λ xs. All (IsRecalled (g.F.Interfere.interference others) g.D.Domain.abstraction plan loops c.args.outcome.now.flag) xs) (sym c.new.ensures.items)
    (λ k d below. absurd (omega (arith, below)))

pub returns : goal.returns
returns g c others plan loops all one = c.keep.ensures others plan loops c.args.outcome.now.flag all
    (subst (λ (r : PassResult g.row.D.Denot). IsKept (g.F.Interfere.interference others) g.D.Domain.abstraction plan (loops c.args.point)
    c.args.outcome.now.flag
    c.args.first r) (sym c.in_ok-outcome.ensures) one)
