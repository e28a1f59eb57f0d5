-- Goals of `ask`: a command over a file, or options that conflict.
use Rattle.lra_command_line.proofs.ParsedWords.{conflicts, taken_over}
use Rattle.lra_command_line.proofs.words.ask.Goals as goal

pub returns-in-Some-clause-asked : goal.returns-in-Some-clause-asked
returns-in-Some-clause-asked c =
    let done = c.in-Ok.ensures.taken in
    (taken_over _ c.in-Ok.matches done c.in-Some.asked.command _ c.in-Some.ensures.command c.in-Some.ensures.file).0

pub returns-in-Some-clause-ranges : goal.returns-in-Some-clause-ranges
returns-in-Some-clause-ranges c =
    let done = c.in-Ok.ensures.taken in
    (taken_over _ c.in-Ok.matches done c.in-Some.asked.command _ c.in-Some.ensures.command c.in-Some.ensures.file).1

pub returns-clause-none : goal.returns-clause-none
returns-clause-none c = conflicts _ c.in-Ok.matches c.in-Ok.ensures.taken c.in-None.ensures.command
