-- Goals of `read_number`.
use Rattle.std.specs.Str.Parse.{ExplainsUnsignedError, HasUnsignedDigitsIfOk, ParsesUnsigned}
use Rattle.clap.specs.Words.{found_of}
use Rattle.lra_command_line.proofs.Readings.{number_got}
use Rattle.lra_command_line.proofs.words.read_number.Goals as goal

pub returns : goal.returns
returns c = number_got (λ t r. ParsesUnsigned 32 10 t r × ExplainsUnsignedError 10 t r × HasUnsignedDigitsIfOk t r) 32 (λ t r h. h.0)
    (found_of c.args.matches.now) c.args.option.now c.get_one.result c.get_one.ensures.none c.get_one.ensures.value
