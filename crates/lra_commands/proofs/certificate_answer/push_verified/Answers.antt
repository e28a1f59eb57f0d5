-- Goals of `push_verified`.
use Rattle.std.proofs.Common.{append_assoc}
use Rattle.lra_commands.proofs.certificate_answer.push_verified.Goals as goal

pub returns : goal.returns
returns c = simp append_assoc c.writeln.ensures.bytes
