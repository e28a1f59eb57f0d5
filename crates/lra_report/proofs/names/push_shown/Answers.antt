-- Goals of `push_shown`: adds the text of a name that so many newer variables of the name hide.
use Rattle.std.proofs.Common.{◌≡◌, ◌∙◌}
use Rattle.lra_resolution_spec.specs.ShownNames.{shown_name}
use Rattle.lra_report.proofs.NamesShown.{hidden_name}
use Rattle.lra_report.proofs.names.push_shown.Goals as goal

pub returns : goal.returns
returns c =
    let text : c.as_str.result.now ≡ shown_name c.args.hiding c.args.name.now = c.as_str.ensures.value ∙ c.in_ok-text.ensures.ok ∙ hidden_name c.args.hiding c.args.name.now c.if-hiding-eq0.false in
    rw (← text) c.push-2.ensures.ok
