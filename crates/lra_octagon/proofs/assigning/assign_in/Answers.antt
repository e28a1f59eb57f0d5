-- Goals of `assign_in`: the octagon where `x` has the form's value.
use Rattle.std.proofs.Common.{rules}
use Rattle.lra_octagon.specs.Content.{matrix_view}
use Rattle.lra_octagon.proofs.AssignLemmas.{meets_some}
use Rattle.lra_octagon.proofs.assigning.assign_in.Goals as goal

pub returns-in_ok-assigned-in-Some-clause-meets : goal.returns-in_ok-assigned-in-Some-clause-meets
returns-in_ok-assigned-in-Some-clause-meets c =
    meets_some c.args.n c.args.x c.args.e.now _ _ c.args.bounds.now c.in-Some.matrix (matrix_view c.in_ok-assigned-in-Some.assigned.0) c.in_ok-assigned-in-Some.assigned.1
    c.in-Some.is (search rules) (search rules) c.in_ok-assigned-in-Some.ensures.assigned
