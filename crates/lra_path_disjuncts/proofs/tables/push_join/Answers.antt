-- The goal of `push_join`: how many disjuncts there are.
use Rattle.lra_path_disjuncts.specs.Tables.{moves_at}
use Rattle.lra_path_disjuncts.proofs.TableSteps.{plus_counted}
use Rattle.lra_path_disjuncts.proofs.tables.push_join.Goals as goal

pub push_entry-requires-clause-count : goal.push_entry-requires-clause-count
push_entry-requires-clause-count c =
    plus_counted (moves_at c.args.entries.now.items c.args.one) (moves_at c.args.entries.now.items c.args.other)
    c.disjuncts_at-ours.result c.disjuncts_at-theirs.result c.add_capped.result
    (rw c.as_slice.ensures.value at c.disjuncts_at-ours.ensures) (rw c.as_slice-2.ensures.value at c.disjuncts_at-theirs.ensures) c.add_capped.ensures
