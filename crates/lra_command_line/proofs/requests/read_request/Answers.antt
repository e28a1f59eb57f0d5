-- Goals of `read_request`: words that ask for no command.
use Rattle.lra_command_line.proofs.requests.read_request.Goals as goal

pub returns-in-Err : goal.returns-in-Err
returns-in-Err c = c.request_without_command.ensures _ c.in-Err.ensures.none
