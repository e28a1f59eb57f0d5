-- Goals of `join_rows`: the constraints of the first list, then those of the second.
use Rattle.std.proofs.Common.{arith, ap, sym, ◌∙◌, length}
use Rattle.lra_duality.specs.Crates.lra_linear_spec.Kinds.{is_equality}
use Rattle.lra_duality.proofs.JoinedLists.{joined_given}
use Rattle.lra_duality.proofs.lists.join_rows.Goals as goal

pub returns-clause-rows : goal.returns-clause-rows
returns-clause-rows c = joined_given is_equality c.args.first.now c.args.second.now c.loop-place.all c.rows-rows.result.now c.kinds-kinds-2.result.now c.loop-place.place c.loop-place.invariant.rows
    c.loop-place.invariant.kinds c.rows-rows.ensures.rows c.kinds-kinds-2.ensures.kinds (omega arith) c.kinds-kinds-2.ensures.len
    (ap length (sym c.kinds-kinds.ensures.kinds) ∙ c.kinds-kinds.ensures.len)
