-- The start of a line, byte by byte.
use Rattle.std.specs.Prelude.{ℕ, Bool, ◌&&◌, ◌||◌, nat_eq, List, [], ◌∷◌}
use Rattle.lra_syntax.specs.Tokens.{is_space_or_tab}

-- whether only spaces and tabs stand on the line after these bytes; fresh says so of what stands before them
abbrev pub fresh_after_bytes : Bool → List ℕ → Bool
fresh_after_bytes fresh [] = fresh
fresh_after_bytes fresh (c ∷ cs) = fresh_after_bytes (nat_eq c 10 || (is_space_or_tab c && fresh)) cs
