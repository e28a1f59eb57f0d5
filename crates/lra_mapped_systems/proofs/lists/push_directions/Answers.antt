-- Goals of `push_directions`: the generators of the first, then those of the second as directions.
use Rattle.std.proofs.Common.{◌≡◌, ◌∙◌, ap, length, sym, ℤ, List}
use Rattle.lra_mapped_systems.specs.Crates.lra_linear_spec.Vectors.{entry}
use Rattle.lra_systems.specs.LinearSystems.{generators}
use Rattle.lra_mapped_systems.proofs.{ListLemmas.direction_level, PushedLists.direction_added, PushedLists.fit_more, PushedLists.many_more}
use Rattle.lra_mapped_systems.proofs.lists.push_directions.Goals as goal

pub loop-place-preserved : goal.loop-place-preserved
loop-place-preserved c =
    let all = c.loop-place.all in
    let more = c.push.new.self in
    let kinds = c.kinds-kinds-2.result.now in
    let rows = c.rows-rows.result.now in
    let n : length kinds ≡ length rows = c.kinds-kinds-2.ensures.len ∙ ap length (sym c.rows-rows.ensures.rows) in
    record {
      dims = c.in_ok-push.ensures.dims ∙ c.loop-place.invariant.dims;
      given = direction_added (generators c.args.first) all more rows kinds c.loop-place.place
          c.index-rows-place.result c.in_ok-row.row c.direction_kind.result c.loop-place.invariant.given
          c.loop-place.invariant.many c.in_ok-push.ensures.rows c.in_ok-push.ensures.kinds c.in_ok-row.ensures
          c.direction_kind.ensures.line n c.loop-place-test.true c.index-rows-place.is;
      many = many_more all.rows more.rows all.kinds more.kinds c.in_ok-row.row c.direction_kind.result
          c.loop-place.invariant.many c.in_ok-push.ensures.rows c.in_ok-push.ensures.kinds;
      fit = fit_more all.rows more.rows all.kinds more.kinds c.in_ok-row.row c.direction_kind.result
          c.loop-place.invariant.many c.loop-place.invariant.fit
          (c.direction_kind.ensures.fits c.in_ok-row.row (ap (λ (r : List ℤ). entry r 0) c.in_ok-row.ensures ∙
          direction_level c.index-rows-place.result)) c.in_ok-push.ensures.rows c.in_ok-push.ensures.kinds;
    }
