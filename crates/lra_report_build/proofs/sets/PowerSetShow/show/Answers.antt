-- Goals of `PowerSetShow::show`.
use Rattle.lra_report_build.proofs.SetShown.{state_canonical, state_told}
use Rattle.lra_report_build.proofs.sets.PowerSetShow.show.Goals as goal

pub returns-clause-told : goal.returns-clause-told
returns-clause-told g c =
    state_told g.D.Domain.abstraction g.D.Show.named g.D.Show.shown c.args.self.now c.items.result.now c.items.ensures.parts c.items.ensures.fit
    c.states_in_turn.result c.states_in_turn.ensures.shown c.states_in_turn.ensures.told

pub returns-clause-canonical : goal.returns-clause-canonical
returns-clause-canonical g c =
    state_canonical g.D.Domain.abstraction g.D.Show.named g.D.Show.shown c.args.self.now c.items.result.now c.items.ensures.parts c.items.ensures.fit
    c.states_in_turn.result c.states_in_turn.ensures.shown c.states_in_turn.ensures.canonical
