-- Stores of values that are formed, as each is that is held: what laws and calls speak of together.
use Rattle.std.specs.Prelude.{ℤ, List}
use Rattle.lra_domain.specs.Abstraction.{Abstraction}

-- the value is formed, and the list is a store of it
abbrev pub InGamma : {V H : Type 0} → Abstraction V H → V → List ℤ → Type 0
InGamma m v s = m.well_formed v × m.gamma v s

abbrev pub InHeadGamma : {V H : Type 0} → Abstraction V H → H → List ℤ → Type 0
InHeadGamma m h s = m.head_well_formed h × m.head_gamma h s
