-- Goals of `add_declarator`: resolves a declarator into a further item.
use Rattle.lra_syntax.specs.Views.{declarator_view}
use Rattle.lra_scopes.specs.Calls.{functions_at}
use Rattle.lra_resolve_simple.proofs.DeclarationLaws.{declarator_found}
use Rattle.lra_resolve_simple.proofs.declarations.add_declarator.Goals as goal

pub returns-clause-found : goal.returns-clause-found
returns-clause-found c =
    declarator_found (functions_at c.args.functions.now) c.args.scope.now c.resolve_declarator.new.scope c.args.labels.now.next c.resolve_declarator.new.labels.next
    c.args.number_type (declarator_view c.args.declarator.now) c.in_ok-resolved.resolved c.args.items.now.items c.push.new.self.items
    c.in_ok-push.ensures.items c.in_ok-resolved.ensures.found c.in_ok-resolved.ensures.declared c.in_ok-resolved.ensures.counted
