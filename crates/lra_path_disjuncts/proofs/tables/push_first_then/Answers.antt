-- The goal of `push_first_then`: how many disjuncts there are.
use Rattle.lra_path_disjuncts.specs.Tables.{moves_at}
use Rattle.lra_path_disjuncts.proofs.TableSteps.{times_counted}
use Rattle.lra_path_disjuncts.proofs.tables.push_first_then.Goals as goal

pub push_entry-requires-clause-count : goal.push_entry-requires-clause-count
push_entry-requires-clause-count c =
    times_counted (moves_at c.args.entries.now.items c.args.first) (moves_at c.args.entries.now.items c.args.then)
    c.disjuncts_at-one.result c.disjuncts_at-other.result c.multiply_capped.result
    (rw c.as_slice.ensures.value at c.disjuncts_at-one.ensures) (rw c.as_slice-2.ensures.value at c.disjuncts_at-other.ensures) c.multiply_capped.ensures
