-- The stores of any domain are points of its values: so what runs do is a case of what is said of points.
use Rattle.std.specs.Prelude.{◌≡◌, ℤ, List, []}
use Rattle.lra_inductive_sound.specs.Crates.lra_domain.Gammas.{InGamma, InHeadGamma}
use Rattle.lra_inductive_sound.specs.Crates.{lra_domain.Abstraction.Abstraction, lra_domain.Actions.Leads}
use Rattle.lra_inductive_sound.specs.Points.{PointsOf}

abbrev pub stores : {V H : Type 0} → Abstraction V H → PointsOf V H (List ℤ)
stores m = record { on = InGamma m; head_on = InHeadGamma m; bare = λ s. s ≡ []; leads = Leads }
