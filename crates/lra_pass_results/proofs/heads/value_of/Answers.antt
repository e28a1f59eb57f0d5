-- Goals of `value_of`: the head's value, and the first flagged point so far.
use Rattle.lra_pass_results.proofs.heads.value_of.Goals as goal

pub returns : goal.returns
returns g c = (
  c.in_ok-value.exactness,
  (c.in_ok-value.ensures.values, c.in_ok-value.ensures.dims, c.in_ok-value.ensures.capped),
  c.note.ensures,
)
