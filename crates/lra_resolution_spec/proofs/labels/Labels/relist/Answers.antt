-- Goals of `Labels::relist`: gives the label of a number another list.
use Rattle.std.proofs.Common.{◌≡◌, ◌∷◌, ◌++◌, ◌<◌, ◌+◌, ◌∙◌, ap, length, map, subst, sym, arith}
use Rattle.std.specs.Prelude.{slice_set}
use Rattle.lra_resolution_spec.specs.LabelTable.{LabelLists, list_at, lists_of, label_in, with_live}
use Rattle.lra_resolution_spec.proofs.NameLists.{lists_length, live_set, live_in_call_set, relisted_invariant, relisted_labels}
use Rattle.lra_resolution_spec.proofs.labels.Labels.relist.Goals as goal

pub invariant_of-self : goal.invariant_of-self
invariant_of-self c =
    let n = lists_length c.self.inside.entries.items in
    let below = subst (λ (v : LabelLists). c.args.live < length v.lists) (sym c.self.view_is) c.requires in (
      c.self.invariant.0,
      relisted_invariant c.self.inside.labels.items c.in-Some.index c.args.live c.index_mut.result.now c.index_mut-then-index-len.result.now
          (omega (arith, c.if-index-len.true, c.len.ensures)) c.index_mut.ensures.value c.index_mut-then-index-len.ensures.value (length c.self.inside.entries.items + 1)
          c.self.invariant.1 (omega (arith, below, n)),
    )

pub returns-then-index-len-clause-labels : goal.returns-then-index-len-clause-labels
returns-then-index-len-clause-labels c = λ front rest l is number.
    let ls = c.self.inside.labels.items in
    let lists = lists_of c.self.inside.entries.items in
    let a = c.index_mut.result.now in
    let b = c.index_mut-then-index-len.result.now in
    let was : map (label_in lists) ls ≡ front ++ l ∷ rest = ap (λ (v : LabelLists). v.labels) c.self.view_is ∙ is in
    subst (λ (v : LabelLists). map (label_in lists) (slice_set (slice_set ls c.in-Some.index (live_set a c.args.live)) c.in-Some.index (live_in_call_set b c.args.live))
    ≡ front ++ with_live l (list_at v.lists c.args.live) ∷ rest) c.self.view_is
    (relisted_labels ls c.in-Some.index c.args.live a b (omega (arith, c.if-index-len.true, c.len.ensures)) c.index_mut.ensures.value c.index_mut-then-index-len.ensures.value
    lists front rest l was (omega (arith, c.in-Some.ensures, number)))
