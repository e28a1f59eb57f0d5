-- Goals of `Labels::get`: the label of a number, from 1.
use Rattle.std.proofs.Common.{arith}
use Rattle.lra_resolution_spec.proofs.FoundLabels.{found_label}
use Rattle.lra_resolution_spec.proofs.labels.Labels.get.Goals as goal

pub returns-in-Some : goal.returns-in-Some
returns-in-Some c =
    found_label (λ x. x.now) c.self.inside.entries.items c.args.self.now c.deref.result.now c.self.inside.labels.items c.args.label c.in-Some.index c.get.result _
    c.self.view_is c.deref.ensures.value c.self.invariant.1 (omega (arith, c.in-Some.ensures)) c.get.ensures.lookup.1 c.get.ensures.lookup.3
