-- Goals of `append_one`: appends the part, changed, unless it became empty.
use Rattle.lra_powerset.specs.Changes.{borrowed_action}
use Rattle.lra_powerset.proofs.ChangeLemmas.{one_appended}
use Rattle.lra_powerset.proofs.changes.append_one.Goals as goal

pub returns : goal.returns
returns g c = one_appended g.D.Domain.abstraction (borrowed_action c.args.change.now) c.args.part.now c.in_ok-changed.changed
    c.change_part.new.part c.in_ok-exactness.exactness c.args.all.now.items c.push_filled.new.parts.items
    c.in_ok-changed.ensures c.in_ok-exactness.ensures.meets c.in_ok-exactness.ensures.dims c.in_ok-push_filled.ensures
