-- How many variables there may be at once, in a program and in a script, and how many elements an array may have.
use Rattle.std.specs.Prelude.{ℕ, Bool, nat_le, ◌&&◌}

-- the most that live at a point of a program, and the most dimensions of a script's sets
abbrev pub greatest_live : ℕ
greatest_live = 32

-- of one array
abbrev pub greatest_elements : ℕ
greatest_elements = 1048576

-- an array may have so many
abbrev pub is_length : ℕ → Bool
is_length n = nat_le 1 n && nat_le n greatest_elements
