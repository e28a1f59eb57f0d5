-- Goals of `push_unmatched`: one arm more, before those that are passed.
use Rattle.std.proofs.Common.{sym, ◌∙◌}
use Rattle.lra_path_disjuncts.proofs.{GuardSteps.grows_on, LabelSteps.all_passed, LabelSteps.none_passed, LabelSteps.one_passed, LabelSteps.passed_in}
use Rattle.lra_path_disjuncts.proofs.selections.push_unmatched.Goals as goal

pub arms-init : goal.arms-init
arms-init c = record {
  table = c.in_ok-place.ensures.table;
  grows = c.in_ok-place.ensures.grows;
  passed = none_passed c.args.live c.args.seen.now c.args.arms.now c.push_stay.new.entries.items c.in_ok-place.place c.in_ok-place.ensures.has;
}

pub push_unmatched_arm-requires-clause-later : goal.push_unmatched_arm-requires-clause-later
push_unmatched_arm-requires-clause-later c = passed_in c.args.live c.args.seen.now c.args.arms.now c.arms.entries.items c.arms.left.now c.arms.place
    c.arms.invariant.passed

pub arms-preserved : goal.arms-preserved
arms-preserved c = record {
  table = c.in_ok-place-2.ensures.table;
  grows = grows_on c.args.entries.now.items c.arms.entries.items c.push_unmatched_arm.new.entries.items c.arms.invariant.grows c.in_ok-place-2.ensures.grows;
  passed = one_passed c.args.live c.args.seen.now c.args.arms.now c.arms.entries.items c.push_unmatched_arm.new.entries.items c.arms.left.now
      c.in-Some.before.now c.in-Some.arm.now c.arms.place c.in_ok-place-2.place c.in-Some.ensures.cases.0 c.arms.invariant.passed c.in_ok-place-2.ensures.puts;
}

pub returns-clause-has : goal.returns-clause-has
returns-clause-has c = all_passed c.args.live c.args.seen.now c.args.arms.now c.arms.entries.items c.arms.left.now c.arms.place
    c.in_default.ensures.cases c.arms.invariant.passed
