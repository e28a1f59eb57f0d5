-- Goals of `include`: whether each point of the first polyhedron is in the second.
use Rattle.lra_calc.proofs.OneAnswer.{inclusion_placed}
use Rattle.lra_calc.proofs.answering.include.Goals as goal

pub inclusion_text-requires-clause-placed : goal.inclusion_text-requires-clause-placed
inclusion_text-requires-clause-placed c = inclusion_placed c.args.other.now.rows c.args.set.now.generators c.included-answer.result c.included-answer.ensures.first
