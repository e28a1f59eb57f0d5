-- Goals of `Variables::truncate`: all but the oldest `count` go.
use Rattle.std.proofs.Common.{◌≡◌, List, take, subst, rules}
use Rattle.lra_resolution_spec.specs.Scope.{SymbolEntry}
use Rattle.lra_scopes.specs.Variables.{entries_of}
use Rattle.lra_scopes.proofs.VariableLaws.{entries_take, taken_length, counted_take}
use Rattle.lra_scopes.proofs.variables.Variables.truncate.Goals as goal

pub returns : goal.returns
returns c =
    let named : c.truncate.new.self ≡ take c.args.count c.self.inside.names = search rules in
    let placed : c.truncate-2.new.self.items ≡ take c.args.count c.self.inside.placed.items = search rules in
    subst (λ (v : List SymbolEntry). entries_of c.truncate.new.self c.truncate-2.new.self.items ≡ take c.args.count v) c.self.view_is
    (rw (named, placed) (entries_take c.args.count c.self.inside.names c.self.inside.placed.items))

pub invariant_of-self : goal.invariant_of-self
invariant_of-self c =
    let named : c.truncate.new.self ≡ take c.args.count c.self.inside.names = search rules in
    let placed : c.truncate-2.new.self.items ≡ take c.args.count c.self.inside.placed.items = search rules in
    rw (named, placed) (
      taken_length c.args.count c.self.inside.placed.items c.self.inside.names c.self.invariant.0,
      counted_take c.args.count 0 c.self.inside.placed.items c.self.invariant.1,
    )
