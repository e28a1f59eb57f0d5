-- Goals of `add`: what is begun with a head and its branch.
use Rattle.lra_parse_heads.proofs.Goes.{some_branch}
use Rattle.lra_parse_heads.proofs.heads.Head.add.Goals as goal

pub returns-clause-fewer : goal.returns-clause-fewer
returns-clause-fewer c = rw c.in_ok-begun.ensures.left (some_branch c.args.self)
