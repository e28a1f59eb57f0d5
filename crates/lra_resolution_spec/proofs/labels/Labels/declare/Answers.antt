-- Goals of `Labels::declare`: a list with the name of a newer variable after those of this list, and its number.
use Rattle.std.proofs.Common.{◌≡◌, ◌++◌, ◌∷◌, ◌<◌, [], length, subst, sym, arith, map}
use Rattle.lra_resolution_spec.specs.LabelTable.{LabelLists, list_at, lists_of, label_in}
use Rattle.lra_resolution_spec.proofs.NameLists.{declared_lists, declared_labels, declared_invariant, lists_length}
use Rattle.lra_resolution_spec.proofs.labels.Labels.declare.Goals as goal

pub invariant_of-self-2 : goal.invariant_of-self-2
invariant_of-self-2 c =
    declared_invariant c.self.inside.entries.items c.push.new.self.items (record { name = c.in_ok-name.name; outer = c.args.outer }) c.self.inside.labels.items
    c.in_ok-push.ensures.items c.self.invariant.0
    (subst (λ (v : LabelLists). c.args.outer < length v.lists) (sym c.self.view_is) c.requires) c.self.invariant.1

pub returns-clause-lists : goal.returns-clause-lists
returns-clause-lists c =
    subst (λ (v : LabelLists). lists_of c.push.new.self.items ≡ v.lists ++ (list_at v.lists c.args.outer ++ c.args.name.now ∷ []) ∷ []) c.self.view_is
    (declared_lists c.self.inside.entries.items c.push.new.self.items c.args.outer c.in_ok-name.name c.args.name.now c.in_ok-push.ensures.items c.in_ok-name.ensures)

pub returns-clause-labels : goal.returns-clause-labels
returns-clause-labels c =
    subst (λ (v : LabelLists). map (label_in (lists_of c.push.new.self.items)) c.self.inside.labels.items ≡ v.labels) c.self.view_is
    (declared_labels c.self.inside.entries.items c.push.new.self.items (record { name = c.in_ok-name.name; outer = c.args.outer }) c.self.inside.labels.items
    c.in_ok-push.ensures.items c.self.invariant.1)

pub returns-clause-number : goal.returns-clause-number
returns-clause-number c =
    let a = lists_length c.self.inside.entries.items in
    subst (λ (v : LabelLists). c.len.result ≡ length v.lists) c.self.view_is (omega (arith, a, c.len.ensures, c.in_ok-push.ensures.len))
