-- The functions of a source, and which function a name means (ISO/IEC 9899:2011, 6.2.1).
use Rattle.std.specs.Prelude.{ℕ, Bool, if◌then◌else◌, List, [], ◌∷◌, length, bytes_eq, Option, find, codes, nat_eq}
use Rattle.std.specs.Prelude.{false}
use Rattle.lra_syntax.specs.Trees.{FunctionTree, ExternalTree, prototype, globals, function, FileTree}

abbrev pub functions_in : List ExternalTree → List FunctionTree
functions_in [] = []
functions_in (prototype ∷ ps) = functions_in ps
functions_in (globals g ∷ ps) = functions_in ps
functions_in (function f ∷ ps) = f ∷ functions_in ps

-- all functions of the source in text order
abbrev pub functions_of : FileTree → List FunctionTree
functions_of t = functions_in t.parts

abbrev pub is_named : List ℕ → FunctionTree → Bool
is_named name f = bytes_eq name f.name.word

-- a call may name a function that is defined anywhere in the source
abbrev pub function_named : List FunctionTree → List ℕ → Option FunctionTree
function_named fs name = find (is_named name) fs

-- `main` has no parameters
abbrev pub is_main : FunctionTree → Bool
is_main f = if is_named (codes "main") f then nat_eq (length f.parameters) 0 else false
