-- Goals of `leaf_of`: any other tree takes more than one step.
use Rattle.lra_pass_results.proofs.FlatRows.{choice_takes, other_takes, row_takes}
use Rattle.lra_pass_results.proofs.flat.leaf_of.Goals as goal

pub unreachable-requires : goal.unreachable-requires
unreachable-requires c = other_takes _ 0 (c.requires.0 0) (c.in-Probe.ensures.1 0)

pub unreachable-requires-in-Row : goal.unreachable-requires-in-Row
unreachable-requires-in-Row c = row_takes _ _ _ (c.requires.0 0) (c.in-Row.ensures.1 0)

pub unreachable-requires-in-Choice : goal.unreachable-requires-in-Choice
unreachable-requires-in-Choice c = choice_takes _ _ (c.requires.0 0) (c.in-Choice.ensures.1 0)

pub unreachable-requires-in-Loop : goal.unreachable-requires-in-Loop
unreachable-requires-in-Loop c = other_takes _ _ (c.requires.0 0) (c.in-Loop.ensures.1 0)

pub unreachable-requires-in-Catch : goal.unreachable-requires-in-Catch
unreachable-requires-in-Catch c = other_takes _ _ (c.requires.0 0) (c.in-Catch.ensures.1 0)

pub unreachable-requires-in-Select : goal.unreachable-requires-in-Select
unreachable-requires-in-Select c = other_takes _ _ (c.requires.0 0) (c.in-Select.ensures.1 0)
