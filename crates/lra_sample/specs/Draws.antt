-- What is drawn from a seed: the states of a linear congruential generator, without their 33 lowest bits.
use Rattle.std.specs.{Fn.iterate, Prelude.ℕ, Prelude.◌+◌, Prelude.◌*◌, Prelude.◌/◌, Prelude.◌%◌, Prelude.◌^◌}

abbrev pub next_state : ℕ → ℕ
next_state state = (6364136223846793005 * state + 1442695040888963407) % 2 ^ 64

-- the state after so many draws
abbrev pub state_after : ℕ → ℕ → ℕ
state_after state count = iterate next_state count state

-- the draw with this number, from 1
abbrev pub draw : ℕ → ℕ → ℕ
draw state number = state_after state number / 2 ^ 33
