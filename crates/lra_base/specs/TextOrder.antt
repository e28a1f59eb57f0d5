-- In which order the parts of a `for` stand in a text: its word, how it begins, its step, its body. Its test has no
-- part of its own.
use Rattle.std.specs.Prelude.{List, ◌∷◌, ◌++◌}

-- what stands before the body
abbrev pub before_body : {X : Type 0} → X → List X → List X → List X
before_body word init step = word ∷ init ++ step

abbrev pub for_order : {X : Type 0} → X → List X → List X → List X → List X
for_order word init step body = before_body word init step ++ body
