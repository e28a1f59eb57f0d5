-- Where `main` stands.
use Rattle.std.specs.Prelude.{ℕ, suc, List, [], ◌∷◌, cond}
use Rattle.lra_syntax.specs.{Functions.is_main, Trees.FunctionTree}

-- the place of the first `main` among functions, or how many there are
abbrev pub main_place : List FunctionTree → ℕ
main_place [] = 0
main_place (f ∷ fs) = cond (is_main f) 0 (suc (main_place fs))
