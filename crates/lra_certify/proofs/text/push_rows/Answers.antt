-- Goals of `push_rows`: the lines of the rows.
use Rattle.std.proofs.{Common.◌+◌, Common.◌++◌, Common.drop, Common.arith, Common.string_bytes, lemmas.List.drop_all}
use Rattle.lra_certify.specs.Crates.{lra_linear_spec.Kinds.is_equality, lra_systems.LinearSystems.constraints}
use Rattle.lra_certify.proofs.Crates.{lra_certificate_lines.ShowSteps.constraint_from, lra_certificate_lines.TrackSteps.constraints_few}
use Rattle.lra_certify.specs.Lines.{rows_text}
use Rattle.lra_certify.proofs.TextSteps.{rows_left, rows_end, point_rows}
use Rattle.lra_certify.proofs.text.push_rows.Goals as goal

pub loop-place-preserved : goal.loop-place-preserved
loop-place-preserved c =
    let all = constraints c.args.rows.now in
    let i = c.loop-place.place in
    let row = c.at-kind.result.0.now in
    let kind = c.at-kind.result.1 in
    rows_left (string_bytes c.loop-place.text) (string_bytes c.push_row.new.text) (string_bytes c.args.text.now ++ rows_text all)
    (record { row = row; equal = is_equality kind }) (drop (i + 1) all) (drop i all)
    (constraint_from c.args.rows.now i row kind c.at-kind.ensures.row c.at-kind.ensures.kind) c.loop-place.invariant c.in_ok-push_row.ensures

pub returns-clause-text : goal.returns-clause-text
returns-clause-text c =
    let all = constraints c.args.rows.now in
    let h = c.loop-place-test.false in
    let l = c.len-place-end.ensures.rows in
    let k = constraints_few c.args.rows.now in
    rows_end (string_bytes c.loop-place.text) (string_bytes c.args.text.now ++ rows_text all) (drop c.loop-place.place all)
    (drop_all c.loop-place.place all (omega (arith, h, l, k))) c.loop-place.invariant

pub returns-clause-fit : goal.returns-clause-fit
returns-clause-fit c =
    point_rows c.args.rows.now c.rows-rows.result.now c.rows-rows.ensures.rows c.rows-rows.ensures.widths c.rows-rows.ensures.in_range

pub returns-in_err-push_row-clause-fit : goal.returns-in_err-push_row-clause-fit
returns-in_err-push_row-clause-fit c =
    point_rows c.args.rows.now c.rows-rows.result.now c.rows-rows.ensures.rows c.rows-rows.ensures.widths c.rows-rows.ensures.in_range
