use Rattle.std.proofs.Common.{◌≡◌, ◌++◌, drop, string_bytes}
use Rattle.std.specs.List.{flat_map}
use Rattle.lra_row_text.specs.{Lines.row_line, Lists.shown_rows}
use Rattle.lra_row_text.proofs.lines.push_each_row.Given as goal

abbrev pub invariant-loop-index : goal.invariant-loop-index
invariant-loop-index l =
    string_bytes l.text ++ flat_map (row_line l.names) (shown_rows (drop l.index l.rows) (drop l.index l.kinds))
    ≡ string_bytes l.initial.text ++ flat_map (row_line l.names) (shown_rows l.rows l.kinds)
