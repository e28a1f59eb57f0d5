-- Goals of `combine_into`: the first set becomes what is made of both.
use Rattle.lra_calc.proofs.making.combine_into.Goals as goal

pub returns-in-Meet : goal.returns-in-Meet
returns-in-Meet c = rw c.in-Meet.is c.meet.ensures.becomes

pub returns-in-Hull : goal.returns-in-Hull
returns-in-Hull c = rw c.in-Hull.is c.hull.ensures.becomes

pub returns-in-Elapse : goal.returns-in-Elapse
returns-in-Elapse c = rw c.in-Elapse.is c.time_elapse.ensures.becomes
