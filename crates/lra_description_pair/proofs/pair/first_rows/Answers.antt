-- Goals of `first_rows`: the first constraints of the list, at most as many as are kept after a loss.
use Rattle.std.proofs.Common.{◌≡◌, take, ap, ◌∙◌, arith}
use Rattle.lra_description_pair.specs.Crates.lra_systems.LinearSystems.{constraints}
use Rattle.lra_description_pair.specs.TakenPoints.{most_kept}
use Rattle.lra_description_pair.proofs.GeneratorPairs.{all_first, first_listed, so_many}
use Rattle.lra_description_pair.proofs.pair.first_rows.Goals.{then-rows-lt-MOST_KEPT, else-rows-lt-MOST_KEPT}
use Rattle.lra_description_pair.proofs.pair.first_rows.Goals as goal

pub returns-clause-first : goal.returns-clause-first
returns-clause-first c =
    let at = c.loop-place.place in
    let count = c.if-rows-lt-MOST_KEPT.count in
    let list = c.args.list.now in
    let seen = c.rows-rows.result.now in
    let kinds = c.kinds-kinds.result.now in
    let low = c.loop-place-test.false in
    let high = c.loop-place.auto.place-end in
    let same : take at (constraints list) ≡ take most_kept (constraints list) = elim c.if-rows-lt-MOST_KEPT.branch [
      | then-rows-lt-MOST_KEPT w ↦ all_first at count list seen kinds c.rows-rows.ensures.rows c.kinds-kinds.ensures.kinds c.kinds-kinds.ensures.len low high w.count-is
          (omega (arith, w.if-rows-lt-MOST_KEPT.true))
      | else-rows-lt-MOST_KEPT w ↦ so_many at count list low high w.count-is
    ] in
    first_listed at list c.loop-place.kept (c.loop-place.invariant.rows ∙ ap (take at) c.rows-rows.ensures.rows) (c.loop-place.invariant.kinds ∙ ap (take at) c.kinds-kinds.ensures.kinds) same
