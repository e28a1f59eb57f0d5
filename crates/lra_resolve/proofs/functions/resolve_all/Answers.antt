-- Goals of `resolve_all`: all parts of the source.
use Rattle.std.proofs.Common.{List, [], ◌++◌, ◌+◌, map, drop, sym, ap, ◌∙◌, append-nil}
use Rattle.lra_syntax.specs.{Functions.functions_in, Trees.ExternalTree, Views.external_view, declared.trees.ExternalDeclaration.ExternalDeclaration}
use Rattle.lra_program.specs.ProgramViews.{function_view}
use Rattle.lra_resolve.specs.Crates.lra_resolution_spec.NameFaults.{parts_faults}
use Rattle.lra_resolve.specs.Crates.lra_resolution_spec.Resolve.{globals_in, arrays_in, resolve_parts}
use Rattle.lra_scopes.specs.Calls.{functions_at}
use Rattle.lra_resolve_simple.specs.Labelling.{labels_of_functions}
use Rattle.lra_scopes.proofs.{FirstFaults.exit_tells, FirstFaults.rest_tells, Loops.parts_step, Loops.parts_end}
use Rattle.lra_resolve.proofs.functions.resolve_all.Goals as goal

pub parts-preserved : goal.parts-preserved
parts-preserved c =
    let F = functions_at c.args.functions.now in
    let xs = c.parts-parts.result.now in
    let r = c.parts.resolved in
    let left = map external_view (drop (c.parts.item-index + 1) xs) in
    record {
      clean = c.parts.invariant.clean
          ∙ parts_step (parts_faults F r.names r.scope.globals) external_view xs c.parts.item-index c.item-item.result c.parts-test.true c.item-item.is
          ∙ c.in_ok-add_part.ensures.clean left;
      found = c.parts.invariant.found
          ∙ parts_step (λ (ps : List ExternalTree). map function_view r.functions.items ++ resolve_parts F r.scope.globals r.labels.next ps) external_view xs
          c.parts.item-index
          c.item-item.result c.parts-test.true c.item-item.is
          ∙ c.in_ok-add_part.ensures.found left;
      valued = c.parts.invariant.valued
          ∙ parts_step (λ (ps : List ExternalTree). r.globals.items ++ globals_in ps) external_view xs c.parts.item-index c.item-item.result c.parts-test.true
          c.item-item.is
          ∙ c.in_ok-add_part.ensures.valued left;
      arrayed = c.parts.invariant.arrayed
          ∙ parts_step (λ (ps : List ExternalTree). r.arrays.items ++ arrays_in ps) external_view xs c.parts.item-index c.item-item.result c.parts-test.true
          c.item-item.is
          ∙ c.in_ok-add_part.ensures.arrayed left;
      labelled = c.in_ok-add_part.ensures.labelled left
          ∙ sym (parts_step (λ (ps : List ExternalTree). r.labels.labels ++ labels_of_functions (functions_in ps)) external_view xs c.parts.item-index
          c.item-item.result c.parts-test.true
          c.item-item.is)
          ∙ c.parts.invariant.labelled;
    }

pub returns-in_err-add_part-clause-told : goal.returns-in_err-add_part-clause-told
returns-in_err-add_part-clause-told c =
    let F = functions_at c.args.functions.now in
    exit_tells _ c.from_residual.result _ c.from_residual.ensures.1
    (rest_tells (parts_faults F c.parts.resolved.names c.parts.resolved.scope.globals) external_view c.parts-parts.result.now c.parts.item-index
    c.item-item.result _ _ c.parts-test.true c.item-item.is
    (ap (λ (xs : List ExternalDeclaration). parts_faults F [] [] (map external_view xs)) (sym c.parts-parts.ensures) ∙ c.parts.invariant.clean)
    c.in_err-add_part.ensures.told)

pub returns-clause-told : goal.returns-clause-told
returns-clause-told c =
    let F = functions_at c.args.functions.now in
    ap (λ (xs : List ExternalDeclaration). parts_faults F [] [] (map external_view xs)) (sym c.parts-parts.ensures)
    ∙ c.parts.invariant.clean
    ∙ parts_end (parts_faults F c.parts.resolved.names c.parts.resolved.scope.globals) external_view c.parts-parts.result.now c.parts.item-index
    c.parts-test.false

pub returns-clause-found : goal.returns-clause-found
returns-clause-found c =
    let F = functions_at c.args.functions.now in
    let r = c.parts.resolved in
    sym (ap (λ (xs : List ExternalDeclaration). resolve_parts F [] 1 (map external_view xs)) (sym c.parts-parts.ensures)
    ∙ c.parts.invariant.found
    ∙ parts_end (λ (ps : List ExternalTree). map function_view r.functions.items ++ resolve_parts F r.scope.globals r.labels.next ps) external_view
    c.parts-parts.result.now c.parts.item-index c.parts-test.false
    ∙ append-nil (map function_view r.functions.items))

pub returns-clause-valued : goal.returns-clause-valued
returns-clause-valued c =
    let r = c.parts.resolved in
    sym (ap (λ (xs : List ExternalDeclaration). globals_in (map external_view xs)) (sym c.parts-parts.ensures)
    ∙ c.parts.invariant.valued
    ∙ parts_end (λ (ps : List ExternalTree). r.globals.items ++ globals_in ps) external_view c.parts-parts.result.now c.parts.item-index c.parts-test.false
    ∙ append-nil r.globals.items)

pub returns-clause-arrayed : goal.returns-clause-arrayed
returns-clause-arrayed c =
    let r = c.parts.resolved in
    sym (ap (λ (xs : List ExternalDeclaration). arrays_in (map external_view xs)) (sym c.parts-parts.ensures)
    ∙ c.parts.invariant.arrayed
    ∙ parts_end (λ (ps : List ExternalTree). r.arrays.items ++ arrays_in ps) external_view c.parts-parts.result.now c.parts.item-index c.parts-test.false
    ∙ append-nil r.arrays.items)

pub returns-clause-labelled : goal.returns-clause-labelled
returns-clause-labelled c =
    let r = c.parts.resolved in
    sym (parts_end (λ (ps : List ExternalTree). r.labels.labels ++ labels_of_functions (functions_in ps)) external_view c.parts-parts.result.now
    c.parts.item-index
    c.parts-test.false
    ∙ append-nil r.labels.labels)
    ∙ c.parts.invariant.labelled
    ∙ ap (λ (xs : List ExternalDeclaration). labels_of_functions (functions_at xs)) c.parts-parts.ensures
