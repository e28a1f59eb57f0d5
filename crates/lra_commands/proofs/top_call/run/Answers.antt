-- Goals of `run`: all that it promises follows from the record that states the whole.
use Rattle.lra_commands.proofs.Ending.{promises}
use Rattle.lra_commands.proofs.top_call.run.Goals as goal

pub returns : goal.returns
returns g c = promises c.answer_words.ensures
