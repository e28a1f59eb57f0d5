-- The names of the variables that live at a point; arrays are none.
use Rattle.std.specs.Prelude.{ℕ, List, [], ◌∷◌, ◌++◌, Option, Some, None, flat_map}
use Rattle.lra_syntax.specs.Labels.{Labelled, label_at, name_in}
use Rattle.lra_syntax.specs.Trees.{GlobalTree, ExternalTree, prototype, globals, function}
use Rattle.lra_program.specs.Sites.{Site}

-- the name of a scalar
abbrev pub live_name : GlobalTree → List (List ℕ)
live_name x = name_in x.name.word x.shape

abbrev pub globals_named : List ExternalTree → List (List ℕ)
globals_named [] = []
globals_named (prototype ∷ ps) = globals_named ps
globals_named (globals g ∷ ps) = flat_map live_name (g.first ∷ g.rest) ++ globals_named ps
globals_named (function f ∷ ps) = globals_named ps

-- the variables of a function at a label, and while its call runs
abbrev pub live_at : Option Labelled → List (List ℕ)
live_at None = []
live_at (Some l) = l.live

abbrev pub live_in_call_at : Option Labelled → List (List ℕ)
live_in_call_at None = []
live_in_call_at (Some l) = l.live_in_call

-- the callers' variables, oldest first; a path has the innermost call first
abbrev pub names_outside : List Labelled → List ℕ → List (List ℕ)
names_outside ls [] = []
names_outside ls (c ∷ outer) = names_outside ls outer ++ live_in_call_at (label_at ls c)

-- the live variables, oldest first: globals, then each call's
abbrev pub live_names : List (List ℕ) → List Labelled → Site → List (List ℕ)
live_names outside ls s = outside ++ names_outside ls s.path ++ live_at (label_at ls s.label)
