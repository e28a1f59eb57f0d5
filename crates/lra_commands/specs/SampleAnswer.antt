-- What a sample must get: what its source does, its report summed up in five lines.
use Rattle.std.specs.Prelude.{ℕ, List}
use Rattle.lra_sample.specs.{Sample.sample_source, Summary.summary_text}
use Rattle.lra_command_line.specs.ParsedCommand.{default_options}
use Rattle.lra_commands.specs.SourceAnswer.{AnswersSource}
use Rattle.lra_command_answers.specs.declared.status.Status.{Status}

-- the text and the status that the sample of a seed and a size must get, analysed as a source is if words name no
-- option
abbrev pub AnswersSample : ℕ → ℕ → List ℕ → Status → Type 0
AnswersSample seed size text status =
    AnswersSource default_options (summary_text seed size) (sample_source seed size) text status
