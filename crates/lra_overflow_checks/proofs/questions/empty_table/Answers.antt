-- Goals of `empty_table`: a table without a verdict.
use Rattle.std.proofs.Common.{None}
use Rattle.lra_overflow_checks.proofs.TableSteps.{one_more_place}
use Rattle.lra_overflow_checks.proofs.questions.empty_table.Goals as goal

pub places-preserved : goal.places-preserved
places-preserved g c =
    one_more_place c.places._place None c.places.table.items c.push.new.self.items c.places.invariant c.in_ok-push.ensures.items
