-- A row for each command.
use Rattle.lra_command_line.specs.declared.commands.Command.TheVariants.{Analyse, Sample, Back, Threads, Plain}
use Rattle.lra_command_line.specs.declared.commands.PlainCommand.TheVariants.{Calc, Verify, Certify}
use Rattle.lra_command_line.specs.{ParsedCommand.IsWithinRanges, declared.commands.Command.Command}
use Rattle.lra_commands.specs.{Commands.limit_of, Commands.AnswersInput, Commands.statuses_of, Commands.AllowedInputStatuses, SourceAnswer.written_report}
use Rattle.lra_command_answers.proofs.{Answering.IsAnswering, ReportedOutcomes.told_answering}
use Rattle.lra_commands.proofs.{BackOutcomes.back_answering, CertificateOutcomes.certificate_answering, CertifyOutcomes.certified_answering, SampleOutcomes.sample_answering, ScriptOutcomes.script_answering}
use Rattle.lra_commands.proofs.{SourceOutcomes.report_telling, ThreadsOutcomes.threads_telling}

pub answering : (c : Command) → IsAnswering (IsWithinRanges c) (limit_of c) (λ bytes text status. AnswersInput c bytes text status) (statuses_of c) (λ bytes among. AllowedInputStatuses c bytes among)
answering (Analyse options format) = told_answering (report_telling options (written_report format)) _
answering (Sample seed size) = sample_answering seed size
answering (Back number) = back_answering number
answering (Threads delay narrow) = told_answering (threads_telling delay narrow) _
answering (Plain Calc) = script_answering _
answering (Plain Verify) = certificate_answering _
answering (Plain Certify) = certified_answering _
