-- Goals of `join_generators`: the generators of the first list, then those of the second.
use Rattle.std.proofs.Common.{arith, ap, sym, ◌∙◌, length}
use Rattle.lra_duality.specs.Crates.lra_linear_spec.Kinds.{is_line}
use Rattle.lra_duality.proofs.JoinedLists.{joined_given, joined_kinds}
use Rattle.lra_duality.proofs.lists.join_generators.Goals as goal

pub returns-clause-generators : goal.returns-clause-generators
returns-clause-generators c = joined_given is_line c.args.first.now c.args.second.now c.loop-place.all c.rows-given.result.now c.kinds-kinds-2.result.now c.loop-place.place
    c.loop-place.invariant.rows c.loop-place.invariant.kinds c.rows-given.ensures.rows c.kinds-kinds-2.ensures.kinds (omega arith) c.kinds-kinds-2.ensures.len
    (ap length (sym c.kinds-kinds.ensures.kinds) ∙ c.kinds-kinds.ensures.len)

pub returns-clause-kinds : goal.returns-clause-kinds
returns-clause-kinds c = joined_kinds c.args.first.now c.args.second.now c.loop-place.all c.rows-given.result.now c.kinds-kinds-2.result.now c.loop-place.place
    c.loop-place.invariant.rows c.loop-place.invariant.kinds c.rows-given.ensures.rows c.kinds-kinds-2.ensures.kinds (omega arith) c.kinds-kinds-2.ensures.len
    (ap length (sym c.kinds-kinds.ensures.kinds) ∙ c.kinds-kinds.ensures.len) c.requires.first c.requires.second
