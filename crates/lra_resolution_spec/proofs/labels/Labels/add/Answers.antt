-- Goals of `Labels::add`: adds a label with the lists of these numbers.
use Rattle.std.proofs.Common.{◌<◌, length, subst, sym}
use Rattle.lra_resolution_spec.specs.LabelTable.{LabelLists}
use Rattle.lra_resolution_spec.proofs.NameLists.{added_invariant}
use Rattle.lra_resolution_spec.proofs.labels.Labels.add.Goals as goal

pub invariant_of-self-2 : goal.invariant_of-self-2
invariant_of-self-2 c = (
  c.self.invariant.0,
  added_invariant c.self.inside.entries.items c.self.inside.labels.items c.push.new.self.items _ c.in_ok-push.ensures.items c.self.invariant.1
      (subst (λ (v : LabelLists). c.args.live < length v.lists) (sym c.self.view_is) c.requires.live)
      (subst (λ (v : LabelLists). c.args.live_in_call < length v.lists) (sym c.self.view_is) c.requires.live_in_call),
)
