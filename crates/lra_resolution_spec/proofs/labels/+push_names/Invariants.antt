-- A list goes on from one with a lower number.
use Rattle.lra_resolution_spec.proofs.labels.+push_names.Given as goal

abbrev pub decreases-push_names : goal.decreases-push_names
decreases-push_names l = l.number
