use Rattle.std.proofs.Common.{◌≡◌, ◌++◌, drop, map}
use Rattle.serde_json.specs.{Data.string, View.view}
use Rattle.lra_row_text.specs.{Lists.shown_rows, Texts.row_text}
use Rattle.lra_report_json.proofs.lists.row_values.Given as goal

abbrev pub invariant-loop-index : goal.invariant-loop-index
invariant-loop-index l =
    map view l.texts.items ++ map (λ r. string (row_text l.names r)) (shown_rows (drop l.index l.rows) (drop l.index l.kinds))
    ≡ map (λ r. string (row_text l.names r)) (shown_rows l.rows l.kinds)
