-- Goals of `Labels::names`: the names of a list, oldest first.
use Rattle.std.proofs.Common.{◌<◌, ap, length, subst, sym, arith}
use Rattle.lra_resolution_spec.specs.{LabelTable.LabelLists, declared.labels.SymbolEntry.SymbolEntry}
use Rattle.std.specs.Prelude.{List}
use Rattle.lra_resolution_spec.proofs.NameLists.{lists_length}
use Rattle.lra_resolution_spec.proofs.labels.Labels.names.Goals as goal

pub push_names-requires-clause-there : goal.push_names-requires-clause-there
push_names-requires-clause-there c =
    let below = subst (λ (v : LabelLists). c.args.number < length v.lists) (sym c.self.view_is) c.requires in
    let n = lists_length c.self.inside.entries.items in
    let e = ap (λ (x : List SymbolEntry). length x) c.deref.ensures.value in
    omega (arith, below, n, e)
