-- What others may do to a store between two steps of a run, and what a value becomes for them.
use Rattle.std.specs.Prelude.{◌≡◌, ℤ, List, length}
use Rattle.lra_domain.specs.declared.Exactness.TheVariants.{Exact, Flagged}
use Rattle.lra_domain.specs.{Abstraction.Abstraction, declared.Exactness.Exactness}

-- V: contents of values
pub record Interference (V : Type 0) : Type 1 where
  -- one change: the second store may take the first's place, and is as long
  pub rely : List ℤ → List ℤ → Type 0
  pub as_long : (s t : List ℤ) → rely s t → length t ≡ length s
  -- the value that a value becomes by definition; when it may be flagged
  pub done : V → V → Type 0
  pub strains : V → Type 0

-- any number of changes, one after the other
pub data RelyClosure (may : List ℤ → List ℤ → Type 0) : List ℤ → List ℤ → Type 0 where
  none : (s : List ℤ) → RelyClosure may s s
  more : (s t u : List ℤ) → RelyClosure may s t → may t u → RelyClosure may s u

-- if a program runs alone nothing changes
abbrev pub no_interference : {V : Type 0} → Interference V
no_interference = record { rely = λ s t. ⊥; as_long = λ s t never. absurd never; done = λ v w. w ≡ v; strains = λ v. ⊥ }

-- the new value has each store of the old one, and each that any number of changes makes of it
pub record Absorbs {V H : Type 0} (o : Interference V) (m : Abstraction V H) (old : V) (exactness : Exactness) (new : V)
    : Type 0 where
  pub formed : m.well_formed new
  pub stores : (s t : List ℤ) → m.gamma old s → RelyClosure o.rely s t → m.gamma new t
  -- an exact result is the defined one; a flagged one covers it, and comes only from a strain
  pub exact : exactness ≡ Exact → o.done old new
  pub covers : exactness ≡ Flagged → (v : V) → o.done old v → m.leq v new
  pub flagged : exactness ≡ Flagged → o.strains old
