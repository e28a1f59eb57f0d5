-- Goals of `resolve_function`.
use Rattle.std.proofs.Common.{List, ◌+◌, ◌++◌, ap, ap₂, arith, map, refl, ◌∙◌, ℕ}
use Rattle.lra_base.specs.declared.refusals.Place.{Place}
use Rattle.lra_syntax.specs.{Labels.Labelled, Labels.items_labels, Views.function_view as tree_function_view, declared.trees.Parameter.Parameter}
use Rattle.lra_resolve.specs.Crates.lra_resolution_spec.Resolve.{items_count, resolve_items}
use Rattle.lra_resolve.specs.Crates.{lra_resolution_spec.NameFaults.function_faults, lra_resolution_spec.Scope.Scope, lra_resolution_spec.Scope.function_scope}
use Rattle.lra_scopes.specs.Calls.{functions_at}
use Rattle.lra_scopes.proofs.Loops.{both_clean, first_told, second_told, wanting_told}
use Rattle.lra_resolve_simple.proofs.StatementLaws.{block_end}
use Rattle.lra_resolve.proofs.OneFunction.{function_faults_split, function_found}
use Rattle.lra_resolve.proofs.functions.resolve_function.Goals as goal

pub returns-in_err-declare_parameters-clause-told : goal.returns-in_err-declare_parameters-clause-told
returns-in_err-declare_parameters-clause-told c =
    let f = tree_function_view c.args.function.now in
    let outside = c.args.scope.now.globals in
    first_told _ _ _ c.from_residual-in_err-declare_parameters.result _
    (function_faults_split (functions_at c.args.functions.now) outside f _ c.deref-parameters.result.now (function_scope outside c.deref-parameters.result.now)
    refl c.deref-parameters.ensures.value refl)
    c.from_residual-in_err-declare_parameters.ensures.1 c.in_err-declare_parameters.ensures.told

pub returns-in_err-body-clause-told : goal.returns-in_err-body-clause-told
returns-in_err-body-clause-told c =
    let f = tree_function_view c.args.function.now in
    second_told _ _ _ c.from_residual-in_err-body.result _
    (function_faults_split (functions_at c.args.functions.now) c.args.scope.now.globals f c.is_some.result c.deref-parameters.result.now
    c.declare_parameters.new.scope c.is_some.ensures c.deref-parameters.ensures.value
    c.in_ok-declare_parameters.ensures.declared)
    c.in_ok-declare_parameters.ensures.told c.from_residual-in_err-body.ensures.1 c.in_err-body.ensures.told

pub returns-in_err-end-clause-told : goal.returns-in_err-end-clause-told
returns-in_err-end-clause-told c =
    wanting_told (function_faults (functions_at c.args.functions.now) c.args.scope.now.globals (tree_function_view c.args.function.now))
    c.from_residual-in_err-end.result _
    c.in_err-end.ensures.memory c.from_residual-in_err-end.ensures.1

pub returns-clause-told : goal.returns-clause-told
returns-clause-told c =
    let f = tree_function_view c.args.function.now in
    both_clean _ _ _
    (function_faults_split (functions_at c.args.functions.now) c.args.scope.now.globals f c.is_some.result c.deref-parameters.result.now
    c.declare_parameters.new.scope c.is_some.ensures c.deref-parameters.ensures.value
    c.in_ok-declare_parameters.ensures.declared)
    c.in_ok-declare_parameters.ensures.told c.in_ok-body.ensures.told

pub returns-clause-found : goal.returns-clause-found
returns-clause-found c =
    let F = functions_at c.args.functions.now in
    let f = tree_function_view c.args.function.now in
    let outside = c.args.scope.now.globals in
    let counted = c.in_ok-declare_parameters.ensures.counted in
    function_found F outside c.args.labels.now.next f _ refl
    (c.in_ok-types.ensures ∙ ap (map (λ (p : Parameter). p.number_type)) c.deref-parameters.ensures.value)
    (c.in_ok-body.ensures.found ∙ ap₂ (λ (s : Scope) (n : ℕ). resolve_items F s n f.body)
    (c.in_ok-declare_parameters.ensures.declared ∙ ap (function_scope outside) c.deref-parameters.ensures.value) counted)
    (c.in_ok-end.ensures.label ∙ c.in_ok-body.ensures.counted ∙ ap (λ (n : ℕ). n + items_count f.body) counted)

pub returns-clause-counted : goal.returns-clause-counted
returns-clause-counted c = omega (arith, c.in_ok-end.ensures.counted, c.in_ok-body.ensures.counted, c.in_ok-declare_parameters.ensures.counted)

pub returns-clause-labelled : goal.returns-clause-labelled
returns-clause-labelled c =
    let f = tree_function_view c.args.function.now in
    let words = map (λ (p : Parameter). p.name.word) in
    c.in_ok-end.ensures.adds.labels ∙ c.in_ok-body.ensures.fills.labels c.args.function.now.body.end
    ∙ ap₂ (λ (ls : List Labelled) (live : List (List ℕ)). ls ++ items_labels live f.body c.args.function.now.body.end)
    c.in_ok-declare_parameters.ensures.labelled
    (c.in_ok-declare_parameters.ensures.lives ∙ ap words c.deref-parameters.ensures.value)
    ∙ ap (λ (end : Place). c.args.labels.now.labels ++ items_labels (words f.parameters) f.body end) (block_end c.args.function.now.body)
