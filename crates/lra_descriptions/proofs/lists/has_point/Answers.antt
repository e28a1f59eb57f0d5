-- Goals of `has_point`: whether there is a point among the kinds.
use Rattle.std.proofs.Common.{arith}
use Rattle.lra_descriptions.proofs.Validity.{no_point_found}
use Rattle.lra_descriptions.proofs.lists.has_point.Goals as goal

pub returns-clause-no : goal.returns-clause-no
returns-clause-no c = λ _. no_point_found c.args.kinds.now (λ k h. c.loop-place.invariant k (omega (arith, h, c.loop-place-test.false, c.loop-place.auto.place-end)))
