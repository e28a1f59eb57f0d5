-- Goals of `parts_by_rows`: the parts of a value, without generators; they mean the value.
use Rattle.lra_report_build.proofs.StateSteps.{pushed, pushed_in_range}
use Rattle.lra_report_build.proofs.rows.parts_by_rows.Goals as goal

pub each-preserved : goal.each-preserved
each-preserved g c = record {
  shown =
      pushed c.each.state.items c.push.new.self.items c.new.result c.each.yielded c.in-Some.part c.each.invariant.shown c.in_ok-push.ensures.items
      c.new.ensures.rows c.new.ensures.generators;
  in_range = pushed_in_range c.each.state.items c.push.new.self.items c.new.result c.each.invariant.in_range c.in_ok-push.ensures.items c.new.ensures.in_range;
}
