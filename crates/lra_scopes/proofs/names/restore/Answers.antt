-- Goals of `restore`: ends a declaration of the name.
use Rattle.std.proofs.{Common.◌∙◌, Common.ℕ, Common.List, Common.Option, Common.Some, Common.cond, Common.bytes_eq, Common.sym, Common.ap, Common.rules, lemmas.Map.Text.hash_map_updates_text}
use Rattle.indexmap.specs.IndexMap.{get_by_text}
use Rattle.lra_scopes.proofs.names.restore.Goals as goal

pub returns-in-Some-get_mut : goal.returns-in-Some-get_mut
returns-in-Some-get_mut c = λ (other : List ℕ).
    hash_map_updates_text c.args.name.now c.args.places.now (c.get_mut.follows.lender c.in-Some.place) (Some c.in-Some.place) ((c.get_mut.follows.holds c.in-Some.place).3 (search rules)) other
    ∙ ap (λ (p : Option ℕ). cond (bytes_eq c.args.name.now other) p (get_by_text c.args.places.now other)) (sym c.in-Some.is)

pub returns-in-None : goal.returns-in-None
returns-in-None c = λ (other : List ℕ).
    hash_map_updates_text c.args.name.now c.args.places.now c.swap_remove.new.self _ c.swap_remove.ensures.updates other
    ∙ ap (λ (p : Option ℕ). cond (bytes_eq c.args.name.now other) p (get_by_text c.args.places.now other)) (sym c.in-None.is)
