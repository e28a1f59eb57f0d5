-- One more turn of a loop.
use Rattle.std.proofs.Common.{◌≡◌, ℕ, ◌+◌, add-one, refl, Bool}
use Rattle.std.specs.Prelude.{◌||◌}
use Rattle.lra_dbm.specs.Steps.{Progress, in_turn, any_below}

pub in_turn_more : (f : ℕ → Progress → Progress) (k : ℕ) (p : Progress) → in_turn f (k + 1) p ≡ f k (in_turn f k p)
in_turn_more f k p = rw add-one refl

pub any_more : (f : ℕ → Bool) (k : ℕ) → any_below f (k + 1) ≡ (any_below f k || f k)
any_more f k = rw add-one refl
