-- Goals of `one_text`: two reports of one program under one list of options that have the same text are the same
-- report.
use Rattle.lra_report.specs.Crates.lra_syntax.Grammar.{Spells}
use Rattle.lra_report.specs.View.{report_of}
use Rattle.lra_report.proofs.{OneText.one_report, SourceTexts.one_accepted, SourceTexts.one_source}
use Rattle.lra_report.proofs.law.one_text.Goals as goal

pub returns-clause-program : goal.returns-clause-program
returns-clause-program c = one_report (report_of c.args.first.now) (report_of c.args.second.now)

pub returns-clause-accepted : goal.returns-clause-accepted
returns-clause-accepted c = one_accepted (report_of c.args.first.now) (report_of c.args.second.now)

pub returns-clause-source : goal.returns-clause-source
returns-clause-source c = one_source Spells (λ t z h. h) (report_of c.args.first.now) (report_of c.args.second.now)
