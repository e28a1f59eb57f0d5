-- Goals of `is_given`: whether the words themselves give the option.
use Rattle.std.proofs.Common.{◌∙◌, Some, ap}
use Rattle.clap.specs.Words.{found_of}
use Rattle.lra_command_line.proofs.GivenWords.{default_given, unknown_given, words_given}
use Rattle.lra_command_line.proofs.words.is_given.Goals as goal

pub returns-in-Some-DefaultValue : goal.returns-in-Some-DefaultValue
returns-in-Some-DefaultValue c =
    default_given (found_of c.args.matches.now) c.args.option.now c.value_source.result c.value_source.ensures (c.in-Some-DefaultValue.is ∙ ap Some c.in-Some-DefaultValue.field-0-is)

pub returns-in-Some-CommandLine : goal.returns-in-Some-CommandLine
returns-in-Some-CommandLine c =
    words_given (found_of c.args.matches.now) c.args.option.now c.value_source.result c.value_source.ensures (c.in-Some-CommandLine.is ∙ ap Some c.in-Some-CommandLine.field-0-is)

pub returns-in-None : goal.returns-in-None
returns-in-None c =
    unknown_given (found_of c.args.matches.now) c.args.option.now c.value_source.result c.value_source.ensures c.contains_id.result c.in-None.is c.contains_id.ensures
