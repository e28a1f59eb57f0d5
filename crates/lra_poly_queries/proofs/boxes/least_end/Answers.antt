-- Goals of `least_end`: the form's least value, if there is one.
use Rattle.lra_poly_queries.proofs.boxes.least_end.Goals as goal

pub returns-in-Wide-clause-end : goal.returns-in-Wide-clause-end
returns-in-Wide-clause-end c = absurd (c.requires.fits c.in-Wide.ensures.tells.0 c.in-Wide.ensures.tells.1)
