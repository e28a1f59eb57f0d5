-- Goals of `push_values`: appends the values of the variables.
use Rattle.std.proofs.Common.{arith, string_bytes, nat_abs, ap, ◌∙◌, ◌++◌, codes}
use Rattle.lra_row_text.specs.Crates.lra_linear_spec.Vectors.{entry}
use Rattle.lra_row_text.specs.Texts.{value_text}
use Rattle.lra_row_text.proofs.Values.{value_step, values_end}
use Rattle.lra_row_text.proofs.generator.push_values.Goals as goal

pub loop-index-preserved : goal.loop-index-preserved
loop-index-preserved c =
    value_step string_bytes (value_text c.args.kind (nat_abs (entry c.args.row.now 0)))
    (string_bytes c.loop-index.text) _ _ _ c.args.row.now c.args.names.now c.loop-index.index c.index-names-index.result
    c.loop-index.invariant c.index-names-index.is (omega arith) (omega arith)
    (c.in_ok-write.ensures.bytes ∙ ap (λ n. string_bytes c.loop-index.text ++ (codes " " ++ n ++ codes "=")) c.as_str-name.ensures.value) c.in_ok-push_value.ensures

pub returns : goal.returns
returns c = values_end string_bytes (value_text c.args.kind (nat_abs (entry c.args.row.now 0))) _ _ c.args.row.now c.args.names.now c.loop-index.index c.loop-index.invariant
    (omega arith)
