-- The oldest names, and all labels, are as before.
use Rattle.std.proofs.Common.{◌≡◌, ◌-◌, length, take}
use Rattle.lra_resolve_simple.proofs.labelling.Labelling.keep_oldest.Given as goal

abbrev pub invariant-names : goal.invariant-names
invariant-names l = record {
  live : take l.count l.self.live ≡ take l.count l.fn.self.live;
  labels : l.self.labels ≡ l.fn.self.labels;
  counted : l.self.next ≡ l.fn.self.next;
}

abbrev pub decreases-names : goal.decreases-names
decreases-names l = length l.self.live - l.count
