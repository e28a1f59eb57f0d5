use Rattle.std.proofs.Common.{◌≡◌, take}
use Rattle.lra_pass_results.proofs.outcome.copy_entries.Given as goal

abbrev pub invariant-entries : goal.invariant-entries
invariant-entries g l = l.copies.items ≡ take l.entry-index l.entries
