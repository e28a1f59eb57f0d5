-- Which function reaches which by calls, and the first call by which a function reaches itself.
use Rattle.std.specs.List.{AllByRecursion}
use Rattle.std.specs.Prelude.{◌≡◌, ℕ, List, [], ◌∷◌, ◌++◌, Contains, option_to_list, map}
use Rattle.lra_base.specs.declared.refusals.Place.{Place}
use Rattle.lra_syntax.specs.{Functions.functions_of, Labels.Labelled, Labels.function_labels, Trees.FunctionTree}
use Rattle.lra_syntax.specs.{Trees.FileTree, declared.trees.Identifier.Identifier}

-- the called names in text order
abbrev pub called_names : List Labelled → List Identifier
called_names [] = []
called_names (l ∷ ls) = option_to_list l.called ++ called_names ls

abbrev pub calls_of : FunctionTree → List Identifier
calls_of f = called_names (function_labels f)

-- some function of the first name calls one of the second
pub record IsCalling (t : FileTree) (caller callee : List ℕ) : Type 0 where
  pub function : FunctionTree
  pub is_there : Contains (functions_of t) function
  pub name : function.name.word ≡ caller
  pub called : Identifier
  pub calls : Contains (calls_of function) called
  pub called_name : called.word ≡ callee

-- by any number of calls, none among them
pub data ReachesByCalls (t : FileTree) (goal : List ℕ) : List ℕ → Type 0 where
  there : ReachesByCalls t goal goal
  by_call : (f g : List ℕ) → IsCalling t f g → ReachesByCalls t goal g → ReachesByCalls t goal f

-- each call of the source in text order: the function that holds it, and the called name
abbrev pub calls_in : List FunctionTree → List (List ℕ × Identifier)
calls_in [] = []
calls_in (f ∷ fs) = map (λ (c : Identifier). (f.name.word, c)) (calls_of f) ++ calls_in fs

abbrev pub IsRecursive : FileTree → List ℕ × Identifier → Type 0
IsRecursive t c = ReachesByCalls t c.0 c.1.word

-- the first call whose callee reaches the function that holds it
abbrev pub IsFirstRecursive : FileTree → Place → Type 0
IsFirstRecursive t at =
    (before after : List (List ℕ × Identifier)) × (c : List ℕ × Identifier)
    × (calls_in (functions_of t) ≡ before ++ c ∷ after) × (at ≡ c.1.place) × IsRecursive t c ×
    AllByRecursion (λ d. IsRecursive t d → ⊥) before

abbrev pub NotRecursive : FileTree → Type 0
NotRecursive t = (at : Place) → IsFirstRecursive t at → ⊥
