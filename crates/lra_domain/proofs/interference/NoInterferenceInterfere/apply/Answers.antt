use Rattle.lra_domain.proofs.interference.NoInterferenceInterfere.apply.Goals as goal
use Rattle.lra_domain.proofs.NoInterferenceLaws.{nobody_admits}

-- src/others.rt:29:5
pub returns-clause-admits : goal.returns-clause-admits
returns-clause-admits g c = nobody_admits g.D.Domain.abstraction c.args.value.now c.is_empty.ensures.formed
