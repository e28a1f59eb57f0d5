-- Parts of which none lies in another, and lists of which only the last part may lie in another or hold one.
use Rattle.std.specs.Prelude.{◌≡◌, List, [], ◌∷◌, ◌++◌}
use Rattle.lra_domain.specs.Abstraction.{Abstraction}
use Rattle.lra_powerset.specs.declared.reduction.Untried.TheVariants.{All, Last}
use Rattle.lra_powerset.specs.{Lists.EachPart, declared.reduction.Untried.Untried}

-- none of the parts lies in another
abbrev pub IsAntichain : {V H : Type 0} → Abstraction V H → List V → Type 0
IsAntichain m [] = Unit {0}
IsAntichain m (p ∷ ps) = EachPart (λ q. (¬ m.included p q) × (¬ m.included q p)) ps × IsAntichain m ps

-- none of the parts before the last lies in another of them
pub record PrefixIsAntichain {V H : Type 0} (m : Abstraction V H) (ps : List V) : Type 0 where
  pub front : List V
  pub last : V
  pub all : ps ≡ front ++ last ∷ []
  pub apart : IsAntichain m front

-- all that isn't untried is known to be apart
abbrev pub AreTried : {V H : Type 0} → Abstraction V H → Untried → List V → Type 0
AreTried m All ps = Unit {0}
AreTried m Last ps = PrefixIsAntichain m ps
