-- The exit number of each status.
use Rattle.std.specs.Prelude.{ℕ}
use Rattle.lra_command_answers.specs.declared.status.Status.{Status}
use Rattle.lra_command_answers.specs.declared.status.Status.TheVariants.{Proved, Unknown, Refused, Usage, ReadFault}
use Rattle.lra_command_answers.specs.declared.status.Status.TheVariants.{WriteFault, Memory}

abbrev pub exit_of : Status → ℕ
exit_of Proved = 0
exit_of Unknown = 1
exit_of Refused = 2
exit_of Usage = 3
exit_of ReadFault = 4
exit_of WriteFault = 5
exit_of Memory = 6
