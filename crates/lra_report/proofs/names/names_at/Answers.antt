-- Goals of `names_at`: the names as they are printed.
use Rattle.std.proofs.Common.{arith, string_bytes, ◌∙◌, ap, ◌+◌, ◌-◌, length, count_by, bytes_eq, map, take, drop, ◌++◌, ◌∷◌, []}
use Rattle.lra_resolution_spec.specs.ShownNames.{shown_name, shown_names}
use Rattle.lra_report.proofs.NamesShown.{rest_whole, name_step, names_end}
use Rattle.lra_report.proofs.names.names_at.Goals as goal

pub loop-index-preserved : goal.loop-index-preserved
loop-index-preserved c =
    let rest = c.loop-index.index + 1 in
    let names = c.texts-texts.result.now in
    name_step string_bytes c.loop-index.shown _ _ c.texts-texts.result.now c.loop-index.index c.count_of-hiding.result c.index-texts-index.result
    c.loop-index.invariant c.index-texts-index.is (omega arith)
    (c.count_of-hiding.ensures
    ∙ ap (λ name. count_by (bytes_eq name) (map string_bytes (take (length names - rest) (drop rest names)))) c.as_str.ensures.value
    ∙ ap (λ ns. count_by (bytes_eq (string_bytes c.index-texts-index.result)) (map string_bytes ns)) (rest_whole names rest))
    (c.in_ok-push_shown.ensures ∙ ap (λ name. c.loop-index.shown ++ shown_name c.count_of-hiding.result name ∷ []) c.as_str-in-loop-index.ensures.value)

pub returns : goal.returns
returns c = names_end string_bytes c.loop-index.shown _ c.texts-texts.result.now c.loop-index.index c.loop-index.invariant (omega arith) ∙ ap shown_names c.texts-texts.ensures
