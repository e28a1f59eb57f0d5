use Rattle.std.proofs.Common.{◌≡◌, ◌++◌, drop, string_bytes}
use Rattle.std.specs.List.{flat_map}
use Rattle.lra_row_text.specs.{Lists.shown_rows, Whole.plain_row}
use Rattle.lra_row_text.proofs.whole.push_plain_rows.Given as goal

abbrev pub invariant-loop-index : goal.invariant-loop-index
invariant-loop-index l =
    string_bytes l.text ++ flat_map (plain_row l.names) (shown_rows (drop l.index l.rows) (drop l.index l.kinds))
    ≡ string_bytes l.initial.text ++ flat_map (plain_row l.names) (shown_rows l.rows l.kinds)
