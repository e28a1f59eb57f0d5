-- Goals of `one_file`: words that ask for a command name one file, or none.
use Rattle.lra_command_line.proofs.OneCommand.{one_named}
use Rattle.lra_command_line.proofs.law.one_file.Goals as goal

pub returns : goal.returns
returns c = λ words. one_named words
