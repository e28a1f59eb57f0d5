-- Goals of `each_answer`: every list of bytes is refused, one of more than 65,536 bytes for that, or accepted with
-- its tree and the tree of operations of its program; never both.
use Rattle.lra_front_end.proofs.SomeAnswer as law
use Rattle.lra_front_end.proofs.laws.each_answer.Goals as goal

pub returns : goal.returns
returns c = law.each_answer c.one_answer.ensures
