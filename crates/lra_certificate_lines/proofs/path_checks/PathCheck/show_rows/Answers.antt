-- Goals of `show_rows`: the claims of the rows, in order.
use Rattle.std.proofs.{Common.◌+◌, Common.drop, Common.arith, lemmas.List.drop_all}
use Rattle.lra_certificate_lines.specs.Crates.{lra_linear_spec.Descriptions.LinearRow, lra_linear_spec.Kinds.is_equality, lra_systems.LinearSystems.constraints}
use Rattle.lra_certificate_spec.specs.Lines.{judged_in_turn, left_at}
use Rattle.lra_certificate_lines.specs.PathCheckViews.{row_by}
use Rattle.lra_certificate_lines.proofs.{ShowSteps.turn_more, ShowSteps.turn_fault, ShowSteps.turn_done, ShowSteps.constraint_from, TrackSteps.constraints_few}
use Rattle.lra_certificate_lines.proofs.path_checks.PathCheck.show_rows.Goals as goal

pub loop-place-preserved : goal.loop-place-preserved
loop-place-preserved c =
    let all = constraints c.args.rows.now in
    let g : LinearRow = record { row = c.at-kind.result.0.now; equal = is_equality c.at-kind.result.1 } in
    let first = constraint_from c.args.rows.now c.loop-place.place c.at-kind.result.0.now c.at-kind.result.1 c.at-kind.ensures.row c.at-kind.ensures.kind in
    record {
      so_far = turn_more (row_by c.args.self.now) g (drop (c.loop-place.place + 1) all) (drop c.loop-place.place all) (left_at c.args.bytes.now c.loop-place.next)
          (judged_in_turn (row_by c.args.self.now) all (left_at c.args.bytes.now c.args.at)) first c.loop-place.invariant.so_far
          (left_at c.args.bytes.now c.in-Ok.behind) c.in-Ok.ensures.told;
      within = c.in-Ok.ensures.within;
    }

pub returns-in-Err-clause-told : goal.returns-in-Err-clause-told
returns-in-Err-clause-told c =
    let all = constraints c.args.rows.now in
    let g : LinearRow = record { row = c.at-kind.result.0.now; equal = is_equality c.at-kind.result.1 } in
    let first = constraint_from c.args.rows.now c.loop-place.place c.at-kind.result.0.now c.at-kind.result.1 c.at-kind.ensures.row c.at-kind.ensures.kind in
    turn_fault (row_by c.args.self.now) g (drop (c.loop-place.place + 1) all) (drop c.loop-place.place all) (left_at c.args.bytes.now c.loop-place.next)
    (judged_in_turn (row_by c.args.self.now) all (left_at c.args.bytes.now c.args.at)) first c.loop-place.invariant.so_far c.in-Err.error c.in-Err.ensures.told

pub returns-clause-told : goal.returns-clause-told
returns-clause-told c =
    let all = constraints c.args.rows.now in
    let h = c.loop-place-test.false in
    let l = c.len-place-end.ensures.rows in
    let k = constraints_few c.args.rows.now in
    turn_done (row_by c.args.self.now) (drop c.loop-place.place all) (left_at c.args.bytes.now c.loop-place.next)
    (judged_in_turn (row_by c.args.self.now) all (left_at c.args.bytes.now c.args.at)) (drop_all c.loop-place.place all (omega (arith, h, l, k)))
    c.loop-place.invariant.so_far
