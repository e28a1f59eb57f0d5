-- Goals of `each_list`: every list of words asks for exactly one command, or for none.
use Rattle.lra_command_line.proofs.OneCommand.{asks_not_none, each_asks}
use Rattle.lra_command_line.proofs.law.each_list.Goals as goal

pub returns : goal.returns
returns c = λ words. (each_asks words, asks_not_none words)
