use Rattle.std.proofs.Common.{length}
use Rattle.lra_transfer.proofs.globals.+append_globals.Given as goal

abbrev pub decreases-append_globals : goal.decreases-append_globals
decreases-append_globals g l = length l.globals.now
