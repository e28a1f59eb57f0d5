-- Goals of `finish`: what was met, and whether nothing of it is left where runs start.
use Rattle.std.proofs.Common.{◌≡◌, ◌↔◌, List, map, subst, true}
use Rattle.lra_operations.specs.TreeViews.{site_view}
use Rattle.lra_back.specs.BackwardAnalysis.{NothingLeftAtStart}
use Rattle.lra_back.proofs.analysis.finish.Goals as goal

pub returns-clause-proved : goal.returns-clause-proved
returns-clause-proved g c tree is =
    let paths = c.args.paths.now in
    subst (λ (vs : List g.row.D.Denot). c.in_ok-is_proved.is_proved ≡ true
    ↔ NothingLeftAtStart g.D.Domain.abstraction paths.globals.now (map site_view paths.sites.now) tree vs) c.as_slice.ensures.value
    (c.in_ok-is_proved.ensures tree is)
