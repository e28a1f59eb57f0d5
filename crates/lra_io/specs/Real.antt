-- What a source or a sink over a device of std stands for.
use Rattle.std.specs.Prelude.{◌≡◌, ℕ, Result, Ok, Err}
use Rattle.lra_io.specs.Causes.{next_count}

-- the reader or writer below, and how many calls failed, counted up to 2^64 - 1
pub record Counted (D : Type 0) : Type 0 where
  pub device : D
  pub faults : ℕ

-- a call that fails is counted, and no other
abbrev pub CountsFault : {T E : Type 0} → ℕ → ℕ → Result T E → Type 0
CountsFault before now (Ok _) = now ≡ before
CountsFault before now (Err _) = now ≡ next_count before

-- the contents before and after a call that succeeds, and those of one that fails
abbrev pub GoesOn : {D : Type 0} → Counted D → Counted D → Type 0
GoesOn old new = new.faults ≡ old.faults

abbrev pub Stops : {D : Type 0} → Counted D → Counted D → Type 0
Stops old new = new.faults ≡ next_count old.faults
