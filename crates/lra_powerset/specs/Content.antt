-- What sets of parts and their heads hold.
use Rattle.std.specs.Prelude.{◌≡◌, ◌≢◌, ℕ, List, [], ◌∷◌}
use Rattle.lra_powerset.specs.Crates.{lra_linear_spec.declared.ConKind.ConKind, lra_systems.LinearSystems.LinearSystem}
use Rattle.lra_domain.specs.Abstraction.{Abstraction}

-- a set of parts: its dimensions, the most parts that it may have (its cap), and its parts in order
pub record SetContent (V : Type 0) : Type 0 where
  pub dims : ℕ
  pub cap : ℕ
  pub parts : List V

-- what comes after the head of a set: parts, not one; the head of a single part; or, if it was given up, the part
-- with all stores
pub data HeadForm (V H : Type 0) : Type 0 where
  many : List V → HeadForm V H
  one : H → HeadForm V H
  whole : V → HeadForm V H

-- the head of a set: its dimensions, the most parts, the widening thresholds, and what comes after it
pub record SetHead (V H : Type 0) : Type 0 where
  pub dims : ℕ
  pub cap : ℕ
  pub thresholds : LinearSystem ConKind
  pub form : HeadForm V H

-- the part isn't empty: it has rows to be printed
abbrev pub IsNonEmptyPart : {V H : Type 0} → Abstraction V H → V → Type 0
IsNonEmptyPart m p = m.parts p ≢ []

-- the part comes before the others, if it has rows
abbrev pub with_nonempty : {V R : Type 0} → List R → V → List V → List V
with_nonempty [] p qs = qs
with_nonempty (r ∷ rows) p qs = p ∷ qs

-- the parts that aren't empty
abbrev pub nonempty_parts : {V H : Type 0} → Abstraction V H → List V → List V
nonempty_parts m [] = []
nonempty_parts m (p ∷ ps) = with_nonempty (m.parts p) p (nonempty_parts m ps)

-- a part that is held: it is formed, has these dimensions, and isn't empty
pub record PartFits {V H : Type 0} (m : Abstraction V H) (n : ℕ) (p : V) : Type 0 where
  pub formed : m.well_formed p
  pub dims : m.dims p ≡ n
  pub full : IsNonEmptyPart m p
