-- Where the rows of a part hold. A store x1, .., xn is the point 1, x1, .., xn of the rows' columns.
-- And how many parts there may be.
use Rattle.std.specs.Prelude.{ℕ, ℤ, pos, List, [], ◌∷◌, ◌⊎◌}
use Rattle.lra_domain.specs.Crates.{lra_linear_spec.Descriptions.Con, lra_linear_spec.declared.ConKind.ConKind}
use Rattle.lra_systems.specs.LinearSystems.{LinearSystem, constraints}

-- all rows of some part hold at the store
abbrev pub SomePartHolds : List (LinearSystem ConKind) → List ℤ → Type 0
SomePartHolds [] s = ⊥
SomePartHolds (p ∷ ps) s = Con (constraints p) (pos 1 ∷ s) ⊎ SomePartHolds ps s

-- each cap of the first is one of the second
abbrev pub CapsWithin : (ℕ → Type 0) → (ℕ → Type 0) → Type 0
CapsWithin p q = (c : ℕ) → p c → q c
