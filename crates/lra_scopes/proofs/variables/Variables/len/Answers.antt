-- Goals of `Variables::len`: how many there are.
use Rattle.std.proofs.Common.{◌∙◌, length, sym, ap}
use Rattle.lra_scopes.proofs.VariableLaws.{entries_length}
use Rattle.lra_scopes.proofs.variables.Variables.len.Goals as goal

pub returns : goal.returns
returns c = c.len.ensures ∙ sym (entries_length c.self.inside.names c.self.inside.placed.items c.self.invariant.0) ∙ ap length c.self.view_is
