-- Goals of `push_rows`: the rows come last.
use Rattle.std.proofs.Common.{◌++◌, List, arith, ap, refl, ◌∙◌}
use Rattle.lra_certificate_lines.specs.Crates.{lra_linear_spec.Descriptions.LinearRow, lra_systems.LinearSystems.constraints}
use Rattle.lra_certificate_lines.proofs.TrackSteps.{row_pushed, all_constraints}
use Rattle.lra_multipliers.proofs.ListedKinds.{kinds_pushed}
use Rattle.lra_certificate_lines.proofs.path_checks.push_rows.Goals as goal

pub loop-place-preserved : goal.loop-place-preserved
loop-place-preserved c = record {
  so_far = row_pushed c.args.rows.now c.loop-place.all c.push_copy.new.self c.loop-place.place c.at-kind.result.0.now c.at-kind.result.0.now c.at-kind.result.1
      c.at-kind.ensures.row c.at-kind.ensures.kind c.loop-place.invariant.kinds c.in_ok-push_copy.ensures.rows c.in_ok-push_copy.ensures.kinds
      (constraints c.args.all.now) refl c.loop-place.invariant.so_far;
  dims = c.push_copy.ensures.dims ∙ c.loop-place.invariant.dims;
  kinds = kinds_pushed c.loop-place.all c.push_copy.new.self c.at-kind.result.0.now c.at-kind.result.1 c.loop-place.invariant.kinds
      c.in_ok-push_copy.ensures.rows c.in_ok-push_copy.ensures.kinds;
}

pub returns-clause-rows : goal.returns-clause-rows
returns-clause-rows c =
    let h = c.loop-place-test.false in
    let l = c.len-place-end.ensures.rows in
    c.loop-place.invariant.so_far ∙
    ap (λ (gs : List LinearRow). constraints c.args.all.now ++ gs) (all_constraints c.args.rows.now c.loop-place.place (omega (arith, h, l)))
