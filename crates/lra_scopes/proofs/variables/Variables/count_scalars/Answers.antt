-- Goals of `Variables::count_scalars`: how many of them are scalars.
use Rattle.std.proofs.Common.{◌≡◌, ◌∙◌, ◌+◌, ◌≤◌, ◌-◌, ◌^◌, ℕ, suc, List, length, Some, sym, ap, arith, rules}
use Rattle.std.specs.Prelude.{slice_get}
use Rattle.lra_resolution_spec.specs.Scope.{width_of_all}
use Rattle.lra_scopes.specs.declared.variables.Placed.{Placed}
use Rattle.lra_scopes.proofs.VariableLaws.{all_scalars, scalars_within}
use Rattle.lra_scopes.proofs.variables.Variables.count_scalars.Goals as goal

pub overflow_add-result : goal.overflow_add-result
overflow_add-result c =
    let p : Placed = c.in-Some.last.now in
    let ps : List Placed = c.self.inside.placed.items in
    let last : slice_get ps (length ps - 1) ≡ Some p = search rules in
    let all = all_scalars c.self.inside.names ps p c.self.invariant.0 c.self.invariant.1 last in
    let few = scalars_within c.self.inside.names ps in
    let short : ps ≡ c.deref.result.now = sym c.deref.ensures.value in
    let long : suc (length ps) ≤ 2 ^ 64 = rw short c.deref.type_inv.0 in
    record { fits = omega (arith, all, few, long, c.width.ensures) }

pub returns-in-Some : goal.returns-in-Some
returns-in-Some c =
    let p : Placed = c.in-Some.last.now in
    let ps : List Placed = c.self.inside.placed.items in
    let last : slice_get ps (length ps - 1) ≡ Some p = search rules in
    ap (λ (w : ℕ). p.scalars + w) c.width.ensures ∙ all_scalars c.self.inside.names ps p c.self.invariant.0 c.self.invariant.1 last
    ∙ ap width_of_all c.self.view_is
