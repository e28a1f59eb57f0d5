-- When a source or a sink may answer a fault, and what its count of faults says then.
use Rattle.std.specs.Prelude.{◌≡◌, ◌≤◌, ◌<◌, ◌+◌, ◌-◌, ◌^◌, ◌⊎◌, ℕ, List, length, take, min, OnOk, OnErr, Option}
use Rattle.std.specs.{Io.KnownBytes.Appends, Prelude.Result}

-- the last value of a counter of 64 bits
abbrev pub last_count : ℕ
last_count = 2 ^ 64 - 1

-- one more, except that a counter at its last value stays there
abbrev pub next_count : ℕ → ℕ
next_count count = min (count + 1) last_count

-- the count grew, or stands at its last value
abbrev pub Rose : ℕ → ℕ → Type 0
Rose before now = (before < now) ⊎ (now ≡ last_count)

-- the count of faults never falls; it stays if a call succeeds, and rose if one fails
pub record HasCause {T E : Type 0} (before now : ℕ) (result : Result T E) : Type 0 where
  pub later : before ≤ now
  pub same : OnOk result (now ≡ before)
  pub failed : OnErr result (Rose before now)

-- known bytes grew by the first of these bytes, and not by all of them
abbrev pub AppendsPart : Option (List ℕ) → Option (List ℕ) → List ℕ → Type 0
AppendsPart old new bytes = (n : ℕ) × (n < length bytes) × Appends old new (take n bytes)
