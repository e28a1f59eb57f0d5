use Rattle.std.proofs.Common.{length}
use Rattle.use_signs.proofs.lists.+keep_both.Given as goal

abbrev pub decreases-keep_both : goal.decreases-keep_both
decreases-keep_both l = length l.known.now
