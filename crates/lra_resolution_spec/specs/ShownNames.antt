-- The names of variables as they are printed.
use Rattle.std.specs.Fmt.{decimal}
use Rattle.std.specs.Prelude.{ℕ, zero, suc, List, [], ◌∷◌, ◌++◌, codes, count_by, bytes_eq}

-- a variable that k newer ones of its name hide is written NAME~k
abbrev pub shown_name : ℕ → List ℕ → List ℕ
shown_name zero name = name
shown_name (suc k) name = name ++ codes "~" ++ decimal (suc k)

-- of the live variables, oldest first
abbrev pub shown_names : List (List ℕ) → List (List ℕ)
shown_names [] = []
shown_names (name ∷ newer) = shown_name (count_by (bytes_eq name) newer) name ∷ shown_names newer
