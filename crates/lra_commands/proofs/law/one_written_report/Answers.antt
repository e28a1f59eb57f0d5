-- Goals of `one_written_report`: two reports that a source must get under one list of options and that are written
-- alike, in one format, are the same report.
use Rattle.lra_commands.proofs.OneWritten.{one_written}
use Rattle.lra_commands.proofs.law.one_written_report.Goals as goal

pub returns : goal.returns
returns c = one_written c.one_answer.ensures
