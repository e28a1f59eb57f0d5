-- Goals of `parse_command`: `Usage` comes exactly if the command line doesn't take the words, `Memory` only when
-- memory runs out.
use Rattle.lra_command_line.proofs.ParsedWords.{unasked_asks_none}
use Rattle.lra_command_line.proofs.words.parse_command.Goals as goal

pub returns-in-Err-clause-usage : goal.returns-in-Err-clause-usage
returns-in-Err-clause-usage c = λ e. unasked_asks_none _ c.in-Err.why c.in-Err.ensures.none (let is = c.refusal.ensures in cc)
