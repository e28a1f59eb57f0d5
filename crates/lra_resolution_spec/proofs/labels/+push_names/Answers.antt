-- Goals of the functions that call each other around `push_names`: `returns`.
use Rattle.std.proofs.Common.{◌∙◌, ap, arith, ◌++◌, ◌∷◌, []}
use Rattle.lra_resolution_spec.proofs.NameLists.{names_behind, no_names}
use Rattle.lra_resolution_spec.proofs.labels.+push_names.Goals as goal

pub returns-in-None : goal.returns-in-None
returns-in-None t c = no_names c.args.entries.now c.args.number c.args.names.now.items (omega (arith, c.in-None.ensures))

pub returns-in_ok-push-in-Some : goal.returns-in_ok-push-in-Some
returns-in_ok-push-in-Some t c =
    names_behind c.args.entries.now c.args.number c.in-Some.index c.index-entries-index.result c.args.names.now.items c.push_names.new.names.items c.push.new.self.items
    c.index-entries-index.is (omega (arith, c.in-Some.ensures, c.requires.there)) (omega (arith, c.in-Some.ensures)) c.requires.ordered
    c.in_ok-push_names-in-Some.ensures
    (c.in_ok-push-in-Some.ensures.items ∙ ap (λ x. c.push_names.new.names.items ++ x ∷ []) c.in_ok-name-in-Some.ensures)
