-- What a source and a sink in memory stand for, and what one call of them does.
use Rattle.std.specs.Prelude.{◌≡◌, ◌<◌, ◌-◌, ◌⊎◌, ◌++◌, ℕ, List, length, take, drop, min, Contains, Result, Ok, Err}
use Rattle.lra_io.specs.Causes.{next_count}

-- a source in memory: the bytes to come, the most bytes that a read moves, the numbers of the reads that are to fail
-- (the first read has number 1), and how many reads there were and how many of them failed, each counted up to 2^64 - 1
pub record Feed : Type 0 where
  pub left : List ℕ
  pub most : ℕ
  pub fails : List ℕ
  pub calls : ℕ
  pub faults : ℕ

-- a read that succeeds: it isn't listed, and it moves as many of the first bytes as the most, the bytes to come and the
-- buffer allow; the rest of the buffer stays
pub record FeedGives (old new : Feed) (before after : List ℕ) (count : ℕ) : Type 0 where
  pub unlisted : Contains old.fails (next_count old.calls) → ⊥
  pub amount : count ≡ min old.most (min (length old.left) (length before))
  pub moved : take count after ≡ take count old.left
  pub kept : drop count after ≡ drop count before
  pub counted : new ≡ record old { left = drop count old.left; calls = next_count old.calls }

-- a read that fails: it is listed, no byte moves, and the fault is counted
pub record FeedFails (old new : Feed) (before after : List ℕ) : Type 0 where
  pub listed : Contains old.fails (next_count old.calls)
  pub kept : after ≡ before
  pub counted : new ≡ record old { calls = next_count old.calls; faults = next_count old.faults }

-- one read of a source in memory, with what the buffer holds before and after it
abbrev pub FeedReads : {E : Type 0} → Feed → Feed → List ℕ → List ℕ → Result ℕ E → Type 0
FeedReads old new before after (Ok count) = FeedGives old new before after count
FeedReads old new before after (Err _) = FeedFails old new before after

-- the contents before and after a read that succeeds, and those of one that fails
pub record FeedGoesOn (old new : Feed) : Type 0 where
  pub count : ℕ
  pub unlisted : Contains old.fails (next_count old.calls) → ⊥
  pub counted : new ≡ record old { left = drop count old.left; calls = next_count old.calls }

pub record FeedStops (old new : Feed) : Type 0 where
  pub listed : Contains old.fails (next_count old.calls)
  pub counted : new ≡ record old { calls = next_count old.calls; faults = next_count old.faults }

-- a sink in memory: the bytes held, how many more have room, the most bytes that a write moves, the numbers of the
-- writes that are to fail (the first write has number 1), and how many writes there were and how many of them failed,
-- each counted up to 2^64 - 1
pub record Store : Type 0 where
  pub held : List ℕ
  pub room : ℕ
  pub most : ℕ
  pub fails : List ℕ
  pub calls : ℕ
  pub faults : ℕ

-- a piece that has a byte finds no room at all
abbrev pub IsFullFor : Store → List ℕ → Type 0
IsFullFor store piece = (store.room ≡ 0) × (0 < length piece)

-- a write that succeeds: it isn't listed, the room isn't full for the piece, and it takes as many of the first bytes as
-- the most, the piece and the room allow
pub record StoreTakes (old new : Store) (piece : List ℕ) (count : ℕ) : Type 0 where
  pub unlisted : Contains old.fails (next_count old.calls) → ⊥
  pub not_full : IsFullFor old piece → ⊥
  pub amount : count ≡ min old.most (min (length piece) old.room)
  pub counted : new ≡ record old {
    held = old.held ++ take count piece;
    room = old.room - count;
    calls = next_count old.calls;
  }

-- a write that fails: it is listed, or the room is full for the piece; no byte moves, and the fault is counted
pub record StoreFails (old new : Store) (piece : List ℕ) : Type 0 where
  pub cause : Contains old.fails (next_count old.calls) ⊎ IsFullFor old piece
  pub counted : new ≡ record old { calls = next_count old.calls; faults = next_count old.faults }

-- one write of a piece to a sink in memory
abbrev pub StoreWrites : {E : Type 0} → Store → Store → List ℕ → Result ℕ E → Type 0
StoreWrites old new piece (Ok count) = StoreTakes old new piece count
StoreWrites old new piece (Err _) = StoreFails old new piece

-- the contents before and after a write that succeeds, and those of one that fails
abbrev pub StoreGoesOn : Store → Store → Type 0
StoreGoesOn old new = (piece : List ℕ) × (count : ℕ) × StoreTakes old new piece count

abbrev pub StoreStops : Store → Store → Type 0
StoreStops old new = (piece : List ℕ) × StoreFails old new piece
