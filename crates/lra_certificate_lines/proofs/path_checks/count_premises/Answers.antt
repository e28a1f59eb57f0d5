-- Goals of `count_premises`: how many premises the lines of a path have.
use Rattle.std.proofs.Common.{sym, ◌∙◌, arith}
use Rattle.lra_certificate_lines.proofs.TrackSteps.{given_many}
use Rattle.lra_certificate_lines.proofs.path_checks.count_premises.Goals as goal

pub returns-then-count : goal.returns-then-count
returns-then-count c =
    let rows = c.args.rows.now in
    let r = c.len.ensures.rows in
    let many = given_many rows.rows rows.kinds (sym c.len.ensures.kinds ∙ r) in
    let t = c.count_tests.ensures in
    let s = c.in-Some.ensures in
    let l = c.if-count.true in
    (omega (arith, l), omega (arith, many, r, t, s))
