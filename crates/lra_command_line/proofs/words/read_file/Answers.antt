-- Goals of `read_file`: a file's name, but for `-`.
use Rattle.std.proofs.Common.{◌∙◌, sym}
use Rattle.clap.specs.Words.{found_of}
use Rattle.lra_command_line.proofs.Readings.{dash_got, file_got, name_got}
use Rattle.lra_command_line.proofs.words.read_file.Goals as goal

pub returns-in_err-name : goal.returns-in_err-name
returns-in_err-name c = rw c.from_residual.ensures (file_got (found_of c.args.matches.now) _ _ c.get_str.ensures c.in_err-name.was)

pub returns-then-eq : goal.returns-then-eq
returns-then-eq c = dash_got (found_of c.args.matches.now) _ c.in_ok-name.name c.get_str.ensures c.in_ok-name.was (sym c.eq.ensures ∙ c.if-eq.true)

pub returns-else-eq : goal.returns-else-eq
returns-else-eq c = name_got (found_of c.args.matches.now) _ c.in_ok-name.name c.get_str.ensures c.in_ok-name.was (sym c.eq.ensures ∙ c.if-eq.false)
