-- Goals of `Variables::has_behind`: whether one after the oldest `count` has the name.
use Rattle.std.proofs.Common.{◌∙◌, ℕ, List, drop, bytes_eq, sym, ap}
use Rattle.std.specs.List.{list_any}
use Rattle.lra_resolution_spec.specs.Scope.{names_in}
use Rattle.lra_scopes.proofs.VariableLaws.{entries_named}
use Rattle.lra_scopes.proofs.variables.Variables.has_behind.Goals as goal

pub returns : goal.returns
returns c = c.has_behind.ensures
    ∙ ap (λ (xs : List (List ℕ)). list_any (bytes_eq c.args.name.now) (drop c.args.count xs))
    (sym (entries_named c.self.inside.names c.self.inside.placed.items c.self.invariant.0) ∙ ap names_in c.self.view_is)
