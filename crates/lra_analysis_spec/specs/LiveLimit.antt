-- How many variables may live where moves are made.
use Rattle.std.specs.Prelude.{ℕ, ◌-◌, ◌^◌}

-- two fewer than a domain has dimensions at most: what a division gives and what it leaves come after the others
-- while its cases are made
abbrev pub most_live : ℕ
most_live = 2 ^ 30 - 2
