use Rattle.std.proofs.Common.{◌≡◌, ◌+◌, ◌++◌, drop, map, nat_abs, string_bytes}
use Rattle.lra_row_text.specs.Crates.lra_linear_spec.Vectors.{entry}
use Rattle.lra_row_text.specs.Texts.{value_text, values_text}
use Rattle.lra_row_text.proofs.generator.push_values.Given as goal

abbrev pub invariant-loop-index : goal.invariant-loop-index
invariant-loop-index l =
    let value = value_text l.kind (nat_abs (entry l.row 0)) in
    string_bytes l.text ++ values_text value (map string_bytes (drop l.index l.names)) (drop (l.index + 1) l.row)
    ≡ string_bytes l.initial.text ++ values_text value (map string_bytes l.names) (drop 1 l.row)
