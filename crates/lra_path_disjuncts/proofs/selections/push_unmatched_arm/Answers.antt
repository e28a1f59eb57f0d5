-- Goals of `push_unmatched_arm`: a label is passed, a tree does nothing.
use Rattle.lra_path_disjuncts.proofs.LabelSteps.{entry_puts, tree_puts}
use Rattle.lra_path_disjuncts.proofs.selections.push_unmatched_arm.Goals as goal

pub returns-in-Entry-clause-puts : goal.returns-in-Entry-clause-puts
returns-in-Entry-clause-puts c = entry_puts c.args.live c.args.seen.now c.push_unmatched_label.result c.args.entries.now.items
    c.push_unmatched_label.new.entries.items c.args.arm.now c.in-Entry.label c.args.later c.in-Entry.is c.push_unmatched_label.ensures.puts

pub returns-in-Tree-clause-puts : goal.returns-in-Tree-clause-puts
returns-in-Tree-clause-puts c = tree_puts c.args.live c.args.seen.now c.args.entries.now.items c.args.arm.now c.in-Tree.field-0 c.args.later c.in-Tree.is
