-- Goals of `BoxesDomain::universe`.
use Rattle.lra_box.proofs.{SoundLemmas.open_all_sound, StepLemmas.length_copies}
use Rattle.lra_box.specs.Covering.{in_open}
use Rattle.lra_box.proofs.boxes.BoxesDomain.universe.Goals as goal

pub invariant_of-result : goal.invariant_of-result
invariant_of-result c = (c.requires.few, rw c.in_ok-universe.ensures (length_copies c.args.n), rw c.in_ok-universe.ensures (open_all_sound c.args.n))

pub returns-clause-formed : goal.returns-clause-formed
returns-clause-formed c = (rw c.in_ok-universe.ensures (length_copies c.args.n), rw c.in_ok-universe.ensures (open_all_sound c.args.n))

pub returns-clause-stores : goal.returns-clause-stores
returns-clause-stores c = λ s. rw c.in_ok-universe.ensures (λ h. h.0, λ e. (e, in_open s c.args.n e))
