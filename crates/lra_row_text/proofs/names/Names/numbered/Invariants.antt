-- So far the names up to this place are there.
use Rattle.std.proofs.Common.{◌≡◌, ◌+◌, ◌-◌, ◌++◌}
use Rattle.lra_row_text.specs.Whole.{numbered_from, numbered_names}
use Rattle.lra_row_text.proofs.names.Names.numbered.Given as goal

abbrev pub invariant-loop-place : goal.invariant-loop-place
invariant-loop-place l = l.names ++ numbered_from (l.place + 1) (l.n - l.place) ≡ numbered_names l.n
