-- Goals of `one_unflagged_report`: two reports without a flag that answer one source under one list of options.
use Rattle.lra_analyse_source.proofs.OneReport.{one_unflagged}
use Rattle.lra_analyse_source.proofs.laws.one_unflagged_report.Goals as goal

pub returns : goal.returns
returns c = one_unflagged c.one_answer.ensures c.one_constants.ensures
