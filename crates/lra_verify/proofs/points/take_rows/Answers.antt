-- Goals of `take_rows`: the rows of a point with so many variables.
use Rattle.std.proofs.Common.{◌≡◌, arith, Some, ap, sym, ◌∙◌}
use Rattle.std.specs.Prelude.{option_map}
use Rattle.lra_verify.specs.Crates.lra_certificate_spec.Lines.{line_number_at, pieces_at}
use Rattle.lra_verify.specs.Crates.{lra_certificate_spec.Judged.row_in, lra_certificate_spec.Judged.judged_rows, lra_script.Views.constraint_of}
use Rattle.lra_verify.proofs.Crates.lra_multipliers.ListedKinds.{kinds_pushed}
use Rattle.lra_certificate_lines.proofs.JudgedLines.{rows_more_by}
use Rattle.lra_verify.proofs.points.take_rows.Goals as goal

pub rows-preserved : goal.rows-preserved
rows-preserved c =
    let read : row_in c.args.live c.in-Some.line.now ≡ Some (constraint_of c.in-Some-2.constraint) =
    sym c.in_ok-constraint.ensures.row ∙ ap (option_map constraint_of) c.in-Some-2.is in
    let w = c.in-Some.ensures.0.within in
    record {
      so_far = rows_more_by c.args.live c.args.bytes.now c.rows.behind c.rows.rows c.push_copy.new.self c.in-Some-2.constraint.row c.in-Some-2.constraint.kind
          (judged_rows c.args.live (line_number_at c.args.bytes.now c.args.at) (pieces_at c.args.bytes.now c.args.at)) c.rows.invariant.so_far
          c.rows.invariant.same
          c.in_ok-push_copy-in-Some-2.ensures.rows c.in_ok-push_copy-in-Some-2.ensures.kinds c.in-Some.line.now c.in-Some.ensures.0 c.in-Some.ensures.1 read;
      within = omega (arith, w);
      same = kinds_pushed c.rows.rows c.push_copy.new.self c.in-Some-2.constraint.row c.in-Some-2.constraint.kind c.rows.invariant.same
          c.in_ok-push_copy-in-Some-2.ensures.rows c.in_ok-push_copy-in-Some-2.ensures.kinds;
      dims = c.push_copy.ensures.dims ∙ c.rows.invariant.dims;
    }
