-- A flag stays if an exact operation follows, and if it stands before others.
use Rattle.std.proofs.Common.{◌≡◌, ℕ, List, [], ◌∷◌, Option, None, Some, refl}
use Rattle.lra_domain.specs.declared.Exactness.TheVariants.{Exact}
use Rattle.lra_analysis_spec.specs.{Judging.Finding, Judging.first_flagged, Pass.noted}

pub noted_exact : (p : ℕ) (f : Option ℕ) → noted p Exact f ≡ f
noted_exact p None = refl
noted_exact p (Some q) = refl

pub flag_stays : {A : Type 0} (q : ℕ) (js : List (Finding A)) → first_flagged (Some q) js ≡ Some q
flag_stays q [] = refl
flag_stays q (j ∷ js) = flag_stays q js
