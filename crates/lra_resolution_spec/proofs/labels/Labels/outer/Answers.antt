-- Goals of `Labels::outer`: the list of all names of a list but the newest; if it has none, that list.
use Rattle.std.proofs.Common.{◌≡◌, ◌<◌, ◌-◌, length, subst, sym, take, arith}
use Rattle.lra_resolution_spec.specs.LabelTable.{LabelLists, list_at}
use Rattle.lra_resolution_spec.proofs.NameLists.{lists_length, outer_of_entry, outer_of_first, outer_inside}
use Rattle.lra_resolution_spec.proofs.labels.Labels.outer.Goals as goal

pub index-requires : goal.index-requires
index-requires c =
    let below = subst (λ (v : LabelLists). c.args.number < length v.lists) (sym c.self.view_is) c.requires in
    let n = lists_length c.self.inside.entries.items in
    omega (arith, below, n, c.in-Some.ensures)

pub returns-in-None-clause-shorter : goal.returns-in-None-clause-shorter
returns-in-None-clause-shorter c =
    subst (λ (v : LabelLists). list_at v.lists 0 ≡ take (length (list_at v.lists c.args.number) - 1) (list_at v.lists c.args.number)) c.self.view_is
    (outer_of_first c.self.inside.entries.items c.args.number (omega (arith, c.in-None.ensures)))

pub returns-in-Some-clause-there : goal.returns-in-Some-clause-there
returns-in-Some-clause-there c =
    let es = c.self.inside.entries.items in
    let below = subst (λ (v : LabelLists). c.args.number < length v.lists) (sym c.self.view_is) c.requires in
    let n = lists_length es in
    subst (λ (v : LabelLists). c.index.result.now.outer < length v.lists) c.self.view_is
    (outer_inside es c.args.number c.in-Some.index c.index.result.now c.index.ensures (omega (arith, below, n, c.in-Some.ensures)) (omega (arith, c.in-Some.ensures))
    c.self.invariant.0 below)

pub returns-in-Some-clause-shorter : goal.returns-in-Some-clause-shorter
returns-in-Some-clause-shorter c =
    let es = c.self.inside.entries.items in
    let below = subst (λ (v : LabelLists). c.args.number < length v.lists) (sym c.self.view_is) c.requires in
    let n = lists_length es in
    subst (λ (v : LabelLists). list_at v.lists c.index.result.now.outer ≡ take (length (list_at v.lists c.args.number) - 1) (list_at v.lists c.args.number)) c.self.view_is
    (outer_of_entry es c.args.number c.in-Some.index c.index.result.now c.index.ensures (omega (arith, below, n, c.in-Some.ensures)) (omega (arith, c.in-Some.ensures))
    c.self.invariant.0)
