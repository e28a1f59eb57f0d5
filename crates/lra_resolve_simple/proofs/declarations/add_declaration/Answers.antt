-- Goals of `add_declaration`: resolves the declarators of a declaration into further items.
use Rattle.std.proofs.{Common.List, Common.◌∷◌, Common.◌+◌, Common.map, Common.drop, Common.subst, Common.sym, Common.ap, Common.◌∙◌, Common.arith, lemmas.List.take_all}
use Rattle.lra_syntax.specs.{Trees.DeclaratorTree, Views.declarator_view, declared.trees.Declarator.Declarator}
use Rattle.lra_program.specs.{Program.BlockItems, ProgramViews.item_view}
use Rattle.lra_resolve_simple.specs.Crates.lra_resolution_spec.Scope.{Scope, with_declarators}
use Rattle.lra_resolve_simple.specs.Crates.{lra_resolution_spec.NameFaults.declarators_faults, lra_resolution_spec.Resolve.resolve_declarators}
use Rattle.lra_scopes.specs.Calls.{functions_at}
use Rattle.lra_resolve_simple.specs.{Labelling.Declares, Statements.followed}
use Rattle.lra_scopes.proofs.{FirstFaults.exit_tells, FirstFaults.rest_tells, Loops.parts_step, Loops.parts_end}
use Rattle.lra_resolve_simple.proofs.LabellingLaws.{declares_step}
use Rattle.lra_resolve_simple.proofs.declarations.add_declaration.Goals as goal

pub declarators-init : goal.declarators-init
declarators-init c =
    let F = functions_at c.args.functions.now in
    let same = sym c.deref-declarator-items.ensures.value in
    record {
      clean = c.in_ok-add_declarator.ensures.clean (map declarator_view c.args.declaration.now.rest.items)
          ∙ ap (λ (l : List Declarator). declarators_faults F c.add_declarator.new.scope c.args.declaration.now.number_type (map declarator_view l)) same;
      found = λ (more : BlockItems). c.in_ok-add_declarator.ensures.found (map declarator_view c.args.declaration.now.rest.items) more
          ∙ ap (λ (l : List Declarator). followed (map item_view c.add_declarator.new.items.items) (resolve_declarators F c.add_declarator.new.scope c.add_declarator.new.labels.next
          c.args.declaration.now.number_type (map declarator_view l) more)) same;
      declared = ap (λ (t : Scope). with_declarators t c.args.declaration.now.number_type (map declarator_view c.args.declaration.now.rest.items)) (sym c.in_ok-add_declarator.ensures.declared)
          ∙ ap (λ (l : List Declarator). with_declarators c.add_declarator.new.scope c.args.declaration.now.number_type (map declarator_view l)) same;
      counted = omega (arith, c.in_ok-add_declarator.ensures.counted);
      labelled = c.in_ok-add_declarator.ensures.labelled;
    }

pub declarators-preserved : goal.declarators-preserved
declarators-preserved c =
    let F = functions_at c.args.functions.now in
    let xs = c.deref-declarator-items.result.now in
    let left = map declarator_view (drop (c.declarators.declarator-index + 1) c.deref-declarator-items.result.now) in
    record {
      clean = c.declarators.invariant.clean
          ∙ parts_step (declarators_faults F c.declarators.scope c.args.declaration.now.number_type)
          declarator_view xs c.declarators.declarator-index c.declarator-item.result c.declarators-test.true c.declarator-item.is
          ∙ c.in_ok-add_declarator-2.ensures.clean left;
      found = λ (more : BlockItems). c.declarators.invariant.found more
          ∙ parts_step (λ (ds : List DeclaratorTree). followed (map item_view c.declarators.items.items)
          (resolve_declarators F c.declarators.scope c.declarators.labels.next c.args.declaration.now.number_type ds more)) declarator_view
          xs c.declarators.declarator-index c.declarator-item.result c.declarators-test.true c.declarator-item.is
          ∙ c.in_ok-add_declarator-2.ensures.found left more;
      declared = c.declarators.invariant.declared
          ∙ parts_step (with_declarators c.declarators.scope c.args.declaration.now.number_type)
          declarator_view xs c.declarators.declarator-index c.declarator-item.result c.declarators-test.true c.declarator-item.is
          ∙ ap (λ (t : Scope). with_declarators t c.args.declaration.now.number_type left) (sym c.in_ok-add_declarator-2.ensures.declared);
      counted = omega (arith, c.declarators.invariant.counted, c.in_ok-add_declarator-2.ensures.counted);
      labelled = declares_step declarator_view xs c.declarators.declarator-index c.declarator-item.result (declarator_view c.args.declaration.now.first) c.args.labels.now
          c.declarators.labels c.add_declarator-in-declarators.new.labels c.declarators-test.true c.declarator-item.is c.declarators.invariant.labelled c.in_ok-add_declarator-2.ensures.labelled;
    }

pub returns-in_err-add_declarator-clause-told : goal.returns-in_err-add_declarator-clause-told
returns-in_err-add_declarator-clause-told c =
    exit_tells _ c.from_residual.result _ c.from_residual.ensures.1 (c.in_err-add_declarator.ensures.told (map declarator_view c.args.declaration.now.rest.items))

pub returns-in_err-add_declarator-2-clause-told : goal.returns-in_err-add_declarator-2-clause-told
returns-in_err-add_declarator-2-clause-told c =
    exit_tells _ c.from_residual-in_err-add_declarator-2.result _ c.from_residual-in_err-add_declarator-2.ensures.1
    (rest_tells (declarators_faults (functions_at c.args.functions.now) c.declarators.scope c.args.declaration.now.number_type)
    declarator_view c.deref-declarator-items.result.now c.declarators.declarator-index
    c.declarator-item.result _ _ c.declarators-test.true c.declarator-item.is c.declarators.invariant.clean c.in_err-add_declarator-2.ensures.told)

pub returns-clause-told : goal.returns-clause-told
returns-clause-told c =
    c.declarators.invariant.clean ∙ parts_end (declarators_faults (functions_at c.args.functions.now) c.declarators.scope c.args.declaration.now.number_type)
    declarator_view c.deref-declarator-items.result.now
    c.declarators.declarator-index c.declarators-test.false

pub returns-clause-found : goal.returns-clause-found
returns-clause-found c = λ (more : BlockItems).
    c.declarators.invariant.found more
    ∙ parts_end (λ (ds : List DeclaratorTree). followed (map item_view c.declarators.items.items) (resolve_declarators (functions_at c.args.functions.now) c.declarators.scope
    c.declarators.labels.next c.args.declaration.now.number_type ds more)) declarator_view
    c.deref-declarator-items.result.now c.declarators.declarator-index c.declarators-test.false

pub returns-clause-declared : goal.returns-clause-declared
returns-clause-declared c =
    sym (c.declarators.invariant.declared ∙ parts_end (with_declarators c.declarators.scope c.args.declaration.now.number_type)
    declarator_view c.deref-declarator-items.result.now c.declarators.declarator-index
    c.declarators-test.false)

pub returns-clause-labelled : goal.returns-clause-labelled
returns-clause-labelled c =
    subst (λ (l : List Declarator). Declares c.args.labels.now c.declarators.labels (declarator_view c.args.declaration.now.first ∷ map declarator_view l))
    (take_all c.declarators.declarator-index c.deref-declarator-items.result.now c.declarators-test.false ∙ c.deref-declarator-items.ensures.value) c.declarators.invariant.labelled
