-- Goals of `read_flag`.
use Rattle.clap.specs.Words.{found_of}
use Rattle.lra_command_line.proofs.Readings.{flag_got}
use Rattle.lra_command_line.proofs.words.read_flag.Goals as goal

pub returns : goal.returns
returns c = flag_got _ (found_of c.args.matches.now) c.args.option.now c.get_one.result c.get_one.ensures.none c.get_one.ensures.value
