-- Goals of `tight_at`: the interval of a place, tightened by `constant + factors >= 0`.
use Rattle.std.proofs.{Common.rules, lemmas.Int.to_z-of_z}
use Rattle.std.specs.Int.{w128}
use Rattle.lra_box.proofs.{RefineLemmas.set_back, RefineSteps.tight_of}
use Rattle.lra_box.proofs.refine.tight_at.Goals as goal

pub returns-clause-factors : goal.returns-clause-factors
returns-clause-factors c = set_back c.args.factors.now c.args.k _ _ (to_z-of_z w128 _ (search rules)) c.requires.place

pub returns-clause-tight : goal.returns-clause-tight
returns-clause-tight c =
    let bound = rw (to_z-of_z w128 c.args.constant c.ranges.constant) at c.sum_end-most.ensures.bound in
    tight_of c.args.constant c.args.factors.now c.args.k c.args.bounds.now c.sum_end-most.result c.tighten.result bound (search rules) (search rules) c.tighten.ensures.range
