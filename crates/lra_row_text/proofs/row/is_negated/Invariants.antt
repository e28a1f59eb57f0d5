use Rattle.std.proofs.Common.{◌≡◌, drop}
use Rattle.lra_row_text.specs.Texts.{is_negated}
use Rattle.lra_row_text.proofs.row.is_negated.Given as goal

abbrev pub invariant-loop-column : goal.invariant-loop-column
invariant-loop-column l = is_negated (drop l.column l.row) ≡ is_negated (drop 1 l.row)
