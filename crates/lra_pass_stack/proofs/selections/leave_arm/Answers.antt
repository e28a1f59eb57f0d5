-- Goals of `leave_arm`: what is left of the value after an arm, if no label matches.
use Rattle.lra_operations.specs.Tree.{entries_of}
use Rattle.lra_pass_stack.proofs.SelectFrames.{entry_left, tree_left}
use Rattle.lra_pass_stack.proofs.selections.leave_arm.Goals as goal

pub returns-in-Entry-clause-leaves : goal.returns-in-Entry-clause-leaves
returns-in-Entry-clause-leaves g c base e behind last all same =
    entry_left g.D.Domain.abstraction base e c.leave_label.result c.args.arm.now c.in-Entry.label behind c.args.value.now c.leave_label.new.value c.args.before
    last all
    c.in-Entry.is (c.leave_label.ensures.leaves base e (entries_of behind) last all same)

pub returns-in-Tree-clause-leaves : goal.returns-in-Tree-clause-leaves
returns-in-Tree-clause-leaves g c base e behind last all same none =
    tree_left g.D.Domain.abstraction base e c.args.arm.now c.in-Tree.field-0 behind c.args.value.now c.args.before last all c.in-Tree.is none
