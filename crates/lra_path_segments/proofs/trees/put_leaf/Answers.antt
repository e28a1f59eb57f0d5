-- Goals of `put_leaf`: there is no other tree with one step.
use Rattle.lra_path_segments.proofs.TaskSteps.{no_leaf}
use Rattle.lra_path_segments.proofs.trees.put_leaf.Goals as goal

pub unreachable-requires : goal.unreachable-requires
unreachable-requires c =
    no_leaf c.args.node.now c.requires c.in_default.not-Empty c.in_default.not-Point c.in_default.not-Probe c.in_default.not-Act c.in_default.not-Check c.in_default.not-Leave

pub unreachable-unreachable : goal.unreachable-unreachable
unreachable-unreachable c =
    no_leaf c.args.node.now c.requires c.in_default.not-Empty c.in_default.not-Point c.in_default.not-Probe c.in_default.not-Act c.in_default.not-Check c.in_default.not-Leave
