use Rattle.lra_interference_sound.proofs.SoundUnder.{passes_cover}
use Rattle.lra_interference_sound.proofs.laws.passes_cover_under.Goals as goal

pub returns : goal.returns
returns g c others = passes_cover (g.F.Interfere.interference others) g.D.Domain.abstraction g.met.D.Domain.laws
