-- Goals of `take_assertion`: after the assertion at a point.
use Rattle.std.proofs.Common.{◌∙◌}
use Rattle.lra_verify.proofs.ListedSteps.{assert_clean}
use Rattle.lra_verify.proofs.annotated.AnnotatedProgram.take_assertion.Goals as goal

pub after_text-requires-clause-text : goal.after_text-requires-clause-text
after_text-requires-clause-text c = assert_clean c.args.point c.as_bytes.result.now (c.as_bytes.ensures.value ∙ c.in_ok-text.ensures)
