-- The points of a worked example: a declaration, an `if`, an assertion in each of its branches, and the end.
use Rattle.std.specs.Prelude.{List, [], ◌∷◌, Bool, true, false}

-- which of them are assertions
abbrev pub sample_asserts : List Bool
sample_asserts = false ∷ false ∷ true ∷ true ∷ false ∷ []
