-- Goals of `Variables::push`: one more.
use Rattle.std.proofs.Common.{◌≡◌, ◌++◌, ◌∷◌, [], List, ◌+◌, ap, arith, subst, rules}
use Rattle.lra_resolution_spec.specs.Scope.{SymbolEntry, width_of_all}
use Rattle.lra_scopes.specs.{Bindings.binding_view, Variables.entries_of, declared.variables.Placed.Placed}
use Rattle.lra_scopes.proofs.VariableLaws.{entries_push, pushed_length, counted_push}
use Rattle.lra_scopes.proofs.variables.Variables.push.Goals as goal

pub returns : goal.returns
returns c =
    let p : Placed = record { scalars = c.count_scalars-scalars.result; meaning = c.args.meaning } in
    let named : c.push.new.self ≡ c.self.inside.names ++ c.args.name.now ∷ [] = search rules in
    let placed : c.push-2.new.self.items ≡ c.self.inside.placed.items ++ p ∷ [] = search rules in
    let e : SymbolEntry = record { name = c.args.name.now; binding = binding_view c.args.meaning } in
    subst (λ (v : List SymbolEntry). entries_of c.push.new.self c.push-2.new.self.items ≡ v ++ e ∷ []) c.self.view_is
    (rw (named, placed) (entries_push c.self.inside.names c.self.inside.placed.items c.args.name.now p c.self.invariant.0))

pub invariant_of-self-2 : goal.invariant_of-self-2
invariant_of-self-2 c =
    let p : Placed = record { scalars = c.count_scalars-scalars.result; meaning = c.args.meaning } in
    let named : c.push.new.self ≡ c.self.inside.names ++ c.args.name.now ∷ [] = search rules in
    let placed : c.push-2.new.self.items ≡ c.self.inside.placed.items ++ p ∷ [] = search rules in
    let all = ap width_of_all c.self.view_is in
    let counted : c.count_scalars-scalars.result ≡ 0 + width_of_all (entries_of c.self.inside.names c.self.inside.placed.items) =
    omega (arith, all, c.count_scalars-scalars.ensures) in
    rw (named, placed) (
      pushed_length c.self.inside.placed.items c.self.inside.names p c.args.name.now c.self.invariant.0,
      counted_push 0 c.self.inside.names c.self.inside.placed.items p c.self.invariant.0 c.self.invariant.1 counted,
    )
