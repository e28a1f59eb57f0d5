use Rattle.std.proofs.Common.{◌≡◌, ◌+◌, ◌++◌, drop, map, string_bytes}
use Rattle.lra_row_text.specs.{Shown.rest_text, Texts.form_text, Texts.negated_if}
use Rattle.lra_row_text.proofs.row.push_form.Given as goal

abbrev pub invariant-loop-index : goal.invariant-loop-index
invariant-loop-index l =
    string_bytes l.text ++ rest_text l.is_first (map (negated_if l.is_negated) (drop (l.index + 1) l.row)) (map string_bytes (drop l.index l.names))
    ≡ string_bytes l.initial.text ++ form_text (map (negated_if l.is_negated) (drop 1 l.row)) (map string_bytes l.names)
