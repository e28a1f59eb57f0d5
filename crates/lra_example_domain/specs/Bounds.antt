-- Bounds of the gauge: 0 if there is no store, 255 if nothing is bounded.
use Rattle.std.specs.Prelude.{ℕ, ◌+◌, ◌<◌, max}
use Rattle.lra_domain.specs.declared.Mode.{Mode}
use Rattle.lra_domain.specs.declared.Mode.TheVariants.{Join, Widen, Limited, Tightest}

abbrev pub unbounded : ℕ
unbounded = 255

-- the sum of two bounds passes the limit
abbrev pub Passes : ℕ → ℕ → ℕ → Type 0
Passes limit a b = (a < unbounded) × (b < unbounded) × (limit < a + b)

-- the bound of a head that grows
abbrev pub grown_bound : Mode → ℕ → ℕ → ℕ
grown_bound Join a b = max a b
grown_bound Widen a b = unbounded
grown_bound Limited a b = unbounded
grown_bound Tightest a b = unbounded

-- what is lost when a head grows by joining; a widening loses nothing
abbrev pub GrowthPasses : Mode → ℕ → ℕ → Type 0
GrowthPasses Join a b = Passes 60 a b
GrowthPasses Widen a b = ⊥
GrowthPasses Limited a b = ⊥
GrowthPasses Tightest a b = ⊥
