-- What reading a whole input answers.
use Rattle.std.specs.Prelude.{◌≡◌, ◌≤◌, ◌+◌, ℕ, List, length, Option, Result, Ok, Err, Vec}
use Rattle.std.specs.{Io.KnownBytes.Consumes, Io.KnownBytes.IsAtEnd, declared.alloc.Global.Global}
use Rattle.lra_io.specs.declared.whole.ReadError.TheVariants.{TooLong, Failed, Memory}
use Rattle.lra_io.specs.{Calls.Calls, Calls.StopsAtFault, Causes.Rose, declared.whole.ReadError.ReadError}

-- these are all bytes that were left, no more than the limit
pub record IsWhole (old new : Option (List ℕ)) (limit : ℕ) (bytes : List ℕ) : Type 0 where
  pub taken : Consumes old new bytes
  pub at_end : IsAtEnd new
  pub within : length bytes ≤ limit

-- these are the first bytes that were left, one more than the limit
pub record IsPastLimit (old new : Option (List ℕ)) (limit : ℕ) (bytes : List ℕ) : Type 0 where
  pub taken : Consumes old new bytes
  pub past : length bytes ≡ limit + 1

-- some first bytes that were left are gone, no more than one past the limit
abbrev pub LosesPrefix : Option (List ℕ) → Option (List ℕ) → ℕ → Type 0
LosesPrefix old new limit = (bytes : List ℕ) × Consumes old new bytes × (length bytes ≤ limit + 1)

-- the bytes to the end; or one byte past the limit; or a prefix of them is lost
abbrev pub ReadsWhole : Option (List ℕ) → Option (List ℕ) → ℕ → Result (Vec ℕ Global) ReadError → Type 0
ReadsWhole old new limit (Ok bytes) = IsWhole old new limit bytes.items
ReadsWhole old new limit (Err (TooLong bytes)) = IsPastLimit old new limit bytes.items
ReadsWhole old new limit (Err Failed) = LosesPrefix old new limit
ReadsWhole old new limit (Err Memory) = LosesPrefix old new limit

-- the count of faults rose if a read failed, and stays at every other answer
abbrev pub ReadCause : ℕ → ℕ → Result (Vec ℕ Global) ReadError → Type 0
ReadCause before now (Ok bytes) = now ≡ before
ReadCause before now (Err (TooLong bytes)) = now ≡ before
ReadCause before now (Err Failed) = Rose before now
ReadCause before now (Err Memory) = now ≡ before

-- the reads that were made: a read that failed was the last one, and every other answer comes of reads that succeeded
abbrev pub ReadCalls : {S : Type 0} → (S → S → Type 0) → (S → S → Type 0) → S → S → Result (Vec ℕ Global) ReadError →
    Type 0
ReadCalls succeeds fails old new (Ok bytes) = Calls succeeds old new
ReadCalls succeeds fails old new (Err (TooLong bytes)) = Calls succeeds old new
ReadCalls succeeds fails old new (Err Failed) = StopsAtFault succeeds fails old new
ReadCalls succeeds fails old new (Err Memory) = Calls succeeds old new
