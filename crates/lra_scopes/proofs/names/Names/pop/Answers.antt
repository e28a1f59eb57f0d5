-- Goals of `Names::pop`: forgets the newest name.
use Rattle.std.proofs.Common.{◌∙◌, ℕ, List, cond, bytes_eq, ap}
use Rattle.indexmap.specs.IndexMap.{get_by_text}
use Rattle.lra_scopes.proofs.NameLaws.{indexed_pop, newest_indexed}
use Rattle.lra_scopes.proofs.names.Names.pop.Goals as goal

pub restore-requires : goal.restore-requires
restore-requires c =
    rw c.as_str.ensures (newest_indexed c.self.inside.places c.self.inside.places c.self.inside.declared.items c.pop.new.self.items c.in-Some.declared
    c.in-Some.ensures.items c.self.invariant)

pub invariant_of-self : goal.invariant_of-self
invariant_of-self c =
    indexed_pop c.self.inside.places c.restore.new.places c.self.inside.declared.items c.pop.new.self.items c.in-Some.declared c.in-Some.ensures.items
    (λ (name : List ℕ). c.restore.ensures name
    ∙ ap (λ (w : List ℕ). cond (bytes_eq w name) c.in-Some.declared.hidden (get_by_text c.self.inside.places name)) c.as_str.ensures)
    c.self.invariant
