-- Goals of `exact_octagons_are_tight`: does nothing.
use Rattle.lra_octagon.proofs.TightLemmas.{join_tight, steps_tight, universe_tight, value_tight, void_tight}
use Rattle.lra_octagon.proofs.law.exact_octagons_are_tight.Goals as goal

pub returns-clause-universal : goal.returns-clause-universal
returns-clause-universal c = universe_tight

pub returns-clause-void : goal.returns-clause-void
returns-clause-void c = void_tight

pub returns-clause-done : goal.returns-clause-done
returns-clause-done c = λ step a b fit fits t by. steps_tight step a b fit fits t by

pub returns-clause-joined : goal.returns-clause-joined
returns-clause-joined c = λ a b j f g same t u e. join_tight a b j f g same t u e

pub returns-clause-valued : goal.returns-clause-valued
returns-clause-valued c = value_tight
