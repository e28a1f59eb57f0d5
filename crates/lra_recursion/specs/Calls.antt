-- The calls of functions, by places in the list of functions. A function stands at the place of the first of its name,
-- and so does what is called by that name.
use Rattle.std.specs.Prelude.{ℕ, List, [], ◌∷◌, ◌++◌, ◌-◌, take, drop, Option, Some, None, option_map, option_to_list}
use Rattle.std.specs.Prelude.{if◌then◌else◌, nat_eq}
use Rattle.lra_recursion.specs.Crates.lra_syntax.Functions.{function_named}
use Rattle.lra_recursion.specs.Crates.{lra_program.Program.Function, lra_resolution_spec.Resolve.function_place}
use Rattle.lra_recursion.specs.Crates.{lra_syntax.Labels.Labelled, lra_syntax.Reach.called_names}
use Rattle.lra_recursion.specs.Crates.{lra_syntax.Trees.FunctionTree, lra_syntax.declared.trees.Identifier.Identifier}
use Rattle.lra_recursion.specs.declared.calls.Call.{Call}

-- the call of this name, if there is a function of the name
abbrev pub call_of : List FunctionTree → ℕ → Identifier → Option Call
call_of F caller x = option_map (λ (f : FunctionTree). record {
  caller = caller;
  callee = function_place F x.word;
  place = x.place;
}) (function_named F x.word)

-- the calls of these names
abbrev pub calls_by : List FunctionTree → ℕ → List Identifier → List Call
calls_by F caller [] = []
calls_by F caller (x ∷ xs) = option_to_list (call_of F caller x) ++ calls_by F caller xs

-- each name with that of the function that holds the call
abbrev pub calls_among : List FunctionTree → List (List ℕ × Identifier) → List Call
calls_among F [] = []
calls_among F (c ∷ cs) = option_to_list (call_of F (function_place F c.0) c.1) ++ calls_among F cs

-- the place of the first function of a name, if there is one
abbrev pub first_place : List FunctionTree → List ℕ → Option ℕ
first_place F name = option_map (λ (f : FunctionTree). function_place F name) (function_named F name)

-- for each of these functions the place of the first function of its name
abbrev pub first_places : List FunctionTree → List FunctionTree → List ℕ
first_places F [] = []
first_places F (f ∷ fs) = option_to_list (first_place F f.name.word) ++ first_places F fs

-- the called name of a label, if there is such a label
abbrev pub called_at : Option Labelled → List Identifier
called_at None = []
called_at (Some l) = option_to_list l.called

-- the labels of a function that ends at the label `end`, after those before
abbrev pub labels_between : List Labelled → ℕ → ℕ → List Labelled
labels_between ls before end = take (end - before) (drop before ls)

-- the calls of functions at these places by their labels, after those before
abbrev pub calls_behind : List FunctionTree → List Labelled → ℕ → List ℕ → List Function → List Call
calls_behind F ls before callers [] = []
calls_behind F ls before [] (f ∷ fs) = []
calls_behind F ls before (k ∷ callers) (f ∷ fs) =
    calls_by F k (called_names (labels_between ls before f.end)) ++ calls_behind F ls f.end callers fs

-- what is called from a place
abbrev pub callees_of : ℕ → List Call → List ℕ
callees_of j [] = []
callees_of j (c ∷ cs) = if nat_eq c.caller j then c.callee ∷ callees_of j cs else callees_of j cs
