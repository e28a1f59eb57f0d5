-- Calls of a source and of a sink in memory.
use Rattle.std.specs.Prelude.{◌≡◌, ℕ, List, [], ◌∷◌, Contains, Ok, Err, refl}
use Rattle.std.proofs.Common.{inr, lit<, rules, zero, sym, ap, subst}
use Rattle.lra_io.specs.{Calls.none, Calls.one_more, Calls.StopsAtFault, Causes.next_count, Memory.Feed, Memory.FeedReads, Memory.FeedGoesOn, Memory.FeedStops, Memory.Store, Memory.StoreWrites}

-- three bytes, two a read; the second read is to fail
abbrev pub feed : List ℕ → ℕ → ℕ → Feed
feed left calls faults = record { left = left; most = 2; fails = 2 ∷ []; calls = calls; faults = faults }

-- the first read moves two bytes into a buffer of four
pub first_read : FeedReads {E = ℕ} (feed (5 ∷ 6 ∷ 7 ∷ []) 0 0) (feed (7 ∷ []) 1 0) (0 ∷ 0 ∷ 0 ∷ 0 ∷ []) (5 ∷ 6 ∷ 0 ∷ 0 ∷ []) (Ok 2)
first_read = record { unlisted = λ listed. search rules; amount = refl; moved = refl; kept = refl; counted = refl }

-- the second one fails and moves none
pub second_read : FeedReads {E = ℕ} (feed (7 ∷ []) 1 0) (feed (7 ∷ []) 2 1) (5 ∷ 6 ∷ []) (5 ∷ 6 ∷ []) (Err 0)
second_read = record { listed = (zero, lit< tt, refl); kept = refl; counted = refl }

-- the third one moves the last byte
pub third_read : FeedReads {E = ℕ} (feed (7 ∷ []) 2 1) (feed [] 3 1) (5 ∷ 6 ∷ []) (7 ∷ 6 ∷ []) (Ok 1)
third_read = record { unlisted = λ listed. search rules; amount = refl; moved = refl; kept = refl; counted = refl }

-- so reading stops after the second read
pub stops_there : StopsAtFault FeedGoesOn FeedStops (feed (5 ∷ 6 ∷ 7 ∷ []) 0 0) (feed (7 ∷ []) 2 1)
stops_there = record {
  last = feed (7 ∷ []) 1 0;
  before = one_more _ _ none (record { count = 2; unlisted = λ listed. search rules; counted = refl });
  fault = record { listed = (zero, lit< tt, refl); counted = refl };
}

third_is_unlisted : Contains (2 ∷ []) (next_count 2) → ⊥
third_is_unlisted listed = search rules

-- and not after the third
pub not_behind_it : StopsAtFault FeedGoesOn FeedStops (feed (5 ∷ 6 ∷ 7 ∷ []) 0 0) (feed [] 3 1) → ⊥
not_behind_it s =
    let calls : next_count s.last.calls ≡ 3 = sym (ap (λ f. f.calls) s.fault.counted) in
    let fails : s.last.fails ≡ 2 ∷ [] = sym (ap (λ f. f.fails) s.fault.counted) in
    third_is_unlisted (subst (λ n. Contains (2 ∷ []) n) calls (subst (λ l. Contains l (next_count s.last.calls)) fails s.fault.listed))

-- a sink that takes two bytes a write and has room for three; no write is listed
abbrev pub store : List ℕ → ℕ → ℕ → ℕ → Store
store held room calls faults = record { held = held; room = room; most = 2; fails = []; calls = calls; faults = faults }

pub first_write : StoreWrites {E = ℕ} (store [] 3 0 0) (store (5 ∷ 6 ∷ []) 1 1 0) (5 ∷ 6 ∷ 7 ∷ []) (Ok 2)
first_write = record { unlisted = λ listed. search rules; not_full = λ full. cc; amount = refl; counted = refl }

-- one byte has room, and is accepted
pub second_write : StoreWrites {E = ℕ} (store (5 ∷ 6 ∷ []) 1 1 0) (store (5 ∷ 6 ∷ 8 ∷ []) 0 2 0) (8 ∷ 9 ∷ []) (Ok 1)
second_write = record { unlisted = λ listed. search rules; not_full = λ full. cc; amount = refl; counted = refl }

-- a full room refuses a byte
pub third_write : StoreWrites {E = ℕ} (store (5 ∷ 6 ∷ 8 ∷ []) 0 2 0) (store (5 ∷ 6 ∷ 8 ∷ []) 0 3 1) (9 ∷ []) (Err 0)
third_write = record { cause = inr (refl, lit< tt); counted = refl }

-- and takes a piece with no byte
pub empty_write : StoreWrites {E = ℕ} (store (5 ∷ 6 ∷ 8 ∷ []) 0 3 1) (store (5 ∷ 6 ∷ 8 ∷ []) 0 4 1) [] (Ok 0)
empty_write = record { unlisted = λ listed. search rules; not_full = λ full. search rules; amount = refl; counted = refl }
