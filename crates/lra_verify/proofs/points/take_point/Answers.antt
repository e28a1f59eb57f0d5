-- Goals of `take_point`: what is said of a point.
use Rattle.std.proofs.Common.{◌∙◌}
use Rattle.lra_verify.proofs.Crates.lra_certificate_spec.WritePoints.{point_clean, empty_clean}
use Rattle.lra_verify.proofs.points.take_point.Goals as goal

pub after_text-requires-clause-text : goal.after_text-requires-clause-text
after_text-requires-clause-text c =
    empty_clean c.args.number c.as_bytes.result.now (c.as_bytes.ensures.value ∙ c.in_ok-empty.ensures)

pub take_line-requires-clause-text : goal.take_line-requires-clause-text
take_line-requires-clause-text c =
    point_clean c.args.number c.as_bytes-2.result.now (c.as_bytes-2.ensures.value ∙ c.in_ok-text.ensures)
