-- What a call knows of a command's answer.
use Rattle.std.proofs.Common.{◌≡◌, ◌<◌, ◌+◌, ◌^◌, ℕ, List, ◌++◌, length, subst, sym, arith}
use Rattle.std.specs.Prelude.{Option, Some, None}
use Rattle.lra_command_answers.specs.Crates.lra_base.Places.{greatest_length}
use Rattle.lra_command_answers.specs.{Statuses.Ends, Statuses.refused, Statuses.source_statuses, declared.status.Status.Status}

-- with values in their ranges, a limit of bytes, what its input must get, and the statuses of its answers: all of them,
-- and by the bytes
pub record IsAnswering (ranges : Type 0) (limit : Option ℕ) (deserves : List ℕ → List ℕ → Status → Type 0) (statuses : List Status) (calls : List ℕ → List Status → Type 0) : Type 0 where
  -- the limit is far below what numbers of 32 bits count
  pub small : (n : ℕ) → limit ≡ Some n → n + 2 < 2 ^ 32
  -- one byte past it says as much as the whole input, and without one the input says nothing
  pub longer : (n : ℕ) (bytes rest text : List ℕ) (status : Status) → limit ≡ Some n → n < length bytes → deserves bytes text status → deserves (bytes ++ rest) text status
  pub any : (bytes other text : List ℕ) (status : Status) → limit ≡ None → deserves bytes text status → deserves other text status
  pub own : (status : Status) → Ends statuses status → Ends source_statuses status
  pub ends : (bytes text : List ℕ) (status : Status) → ranges → deserves bytes text status → Ends statuses status
  pub called : (bytes text : List ℕ) (status : Status) (among : List Status) → deserves bytes text status → calls bytes among → Ends among status
  pub too_long : (n : ℕ) (bytes text : List ℕ) (status : Status) → limit ≡ Some n → n < length bytes → deserves bytes text status → Ends refused status

-- a limit that is this number --------------------------------------------------------------

pub small_as : (most : ℕ) → most + 2 < 2 ^ 32 → (limit : ℕ) → Some most ≡ Some limit → limit + 2 < 2 ^ 32
small_as most few limit e = let same : most ≡ limit = cc in subst (λ n. n + 2 < 2 ^ 32) same few

pub past_as : (most limit : ℕ) (bytes : List ℕ) → Some most ≡ Some limit → limit < length bytes → most < length bytes
past_as most limit bytes e long = let same : most ≡ limit = cc in subst (λ n. n < length bytes) (sym same) long

-- the limit of sources and scripts --------------------------------------------------------

small_length : greatest_length + 2 < 2 ^ 32
unfolding greatest_length
small_length = omega arith

pub small : (limit : ℕ) → Some greatest_length ≡ Some limit → limit + 2 < 2 ^ 32
small limit e = small_as greatest_length small_length limit e

pub past : (limit : ℕ) (bytes : List ℕ) → Some greatest_length ≡ Some limit → limit < length bytes → greatest_length < length bytes
past limit bytes e long = past_as greatest_length limit bytes e long
