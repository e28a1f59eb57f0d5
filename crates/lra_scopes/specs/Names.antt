-- Declared names with an index of them.
use Rattle.std.specs.Prelude.{◌≡◌, ℕ, List, [], ◌∷◌, ◌++◌, map, String, ⊤}
use Rattle.std.specs.declared.alloc.Global.{Global}
use Rattle.indexmap.specs.IndexMap.{IndexMap, get_by_text}
use Rattle.lra_resolution_spec.specs.Scope.{newest}
use Rattle.lra_scopes.specs.declared.names.Declared.{Declared}

abbrev pub words_of : List Declared → List (List ℕ)
words_of ds = map (λ (d : Declared). d.word) ds

-- after some names, each declaration hides the newest one of its name before it
abbrev pub Hide : List (List ℕ) → List Declared → Type 0
Hide before [] = ⊤
Hide before (d ∷ ds) = (d.hidden ≡ newest d.word before) × Hide (before ++ d.word ∷ []) ds

-- the index has the place of the newest of each name
pub record IsIndexed {S : Type 0} (places : IndexMap (String Global) ℕ S) (ds : List Declared) : Type 0 where
  pub found : (name : List ℕ) → get_by_text places name ≡ newest name (words_of ds)
  pub hidden : Hide [] ds
