-- Goals of `one_answered_text`: two reports that answer one source under one list of options and have the same text
-- are the same report.
use Rattle.lra_analyse_source.proofs.OneText.{one_text}
use Rattle.lra_analyse_source.proofs.laws.one_answered_text.Goals as goal

pub returns : goal.returns
returns c = one_text c.one_answer.ensures
