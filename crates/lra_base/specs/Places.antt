-- Places in a source or a script, by the bytes before them, and how many bytes either may have.
use Rattle.std.specs.Prelude.{ℕ, ◌+◌, nat_eq, List, [], ◌∷◌, if◌then◌else◌}
use Rattle.lra_base.specs.declared.refusals.Place.{Place}

abbrev pub next_place : Place → ℕ → Place
next_place p c = if nat_eq c 10 then record { line = p.line + 1; column = 1 }
    else record { line = p.line; column = p.column + 1 }

abbrev pub place_from : Place → List ℕ → Place
place_from p [] = p
place_from p (c ∷ cs) = place_from (next_place p c) cs

-- the place of the byte after these, which begin the text
abbrev pub place_after : List ℕ → Place
place_after bytes = place_from (record { line = 1; column = 1 }) bytes

-- bytes of a source or a script; it doesn't unfold by itself, since it is large
unfoldable pub greatest_length : ℕ
greatest_length = 65536
