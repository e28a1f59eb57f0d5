-- What a path does to its variables, as rows over symbols: one symbol for each variable at its source, and a new one
-- for each value of which nothing is reported. Column 0 of a row is its constant. All rows of a path have one width.
use Rattle.std.specs.List.{range_with_len}
use Rattle.std.specs.Prelude.{ℕ, suc, ◌+◌, ◌-◌, ℤ, pos, List, [], ◌∷◌, ◌++◌, map, length, take, slice_set, Result, Ok}
use Rattle.lra_multipliers.specs.Crates.lra_linear_spec.CheckedArithmetic.{checked_added, and_then}
use Rattle.lra_multipliers.specs.Crates.lra_linear_spec.Kinds.{is_equality}
use Rattle.lra_multipliers.specs.Crates.{lra_linear_forms.Form.form_row, lra_linear_spec.Descriptions.LinearRow}
use Rattle.lra_multipliers.specs.Crates.{lra_linear_spec.Vectors.zeros, lra_linear_spec.declared.Excess.Excess}
use Rattle.lra_domain.specs.Actions.{Action, assign, forget, test, embed, remove_last}

-- the row of one symbol, and those of so many, from this column on
abbrev pub symbol : ℕ → ℕ → List ℤ
symbol width column = slice_set (zeros width) column (pos 1)

abbrev pub symbols : ℕ → ℕ → ℕ → List (List ℤ)
symbols width first count = map (symbol width) (range_with_len first count)

-- the row of a constant
abbrev pub constant_row : ℕ → ℤ → List ℤ
constant_row width k = slice_set (zeros width) 0 k

-- The row of a form: from the constant on each coefficient times its variable's row is added, in column order; or the
-- first product or partial sum that passes.
abbrev pub composed_from : List ℤ → List ℤ → List (List ℤ) → Result (List ℤ) Excess
composed_from sum [] forms = Ok sum
composed_from sum (c ∷ cs) [] = Ok sum
composed_from sum (c ∷ cs) (form ∷ forms) = and_then (checked_added c sum form) (λ next. composed_from next cs forms)

abbrev pub composed : ℕ → List ℤ → List (List ℤ) → Result (List ℤ) Excess
composed width [] forms = Ok (zeros width)
composed width (k ∷ cs) forms = composed_from (constant_row width k) cs forms

-- a path so far: the rows of the variables that live, its tests, and the first column that is free
pub record SymbolicState : Type 0 where
  pub forms : List (List ℤ)
  pub tests : List LinearRow
  pub free : ℕ

abbrev pub tests_too : SymbolicState → LinearRow → SymbolicState
tests_too w g = record w { tests = w.tests ++ g ∷ [] }

abbrev pub gives : SymbolicState → ℕ → List ℤ → SymbolicState
gives w x row = record w { forms = slice_set w.forms x row }

-- a further action, over rows of this width
abbrev pub executed_action : ℕ → Action → SymbolicState → Result SymbolicState Excess
executed_action width (assign x e) w = and_then (composed width (form_row e) w.forms) (λ row. Ok (gives w x row))
executed_action width (forget x) w = Ok (record (gives w x (symbol width w.free)) { free = suc w.free })
executed_action width (test kind e) w = and_then (composed width (form_row e) w.forms)
    (λ row. Ok (tests_too w (record { row = row; equal = is_equality kind })))
executed_action width (embed k) w = Ok (record w { forms = w.forms ++ symbols width w.free k; free = w.free + k })
executed_action width (remove_last k) w = Ok (record w { forms = take (length w.forms - k) w.forms })

abbrev pub executed : ℕ → List Action → SymbolicState → Result SymbolicState Excess
executed width [] w = Ok w
executed width (step ∷ steps) w = and_then (executed_action width step w) (λ next. executed width steps next)

-- how many symbols actions bring, and how many tests they make
abbrev pub new_symbols : List Action → ℕ
new_symbols [] = 0
new_symbols (assign x e ∷ steps) = new_symbols steps
new_symbols (forget x ∷ steps) = suc (new_symbols steps)
new_symbols (test kind e ∷ steps) = new_symbols steps
new_symbols (embed k ∷ steps) = k + new_symbols steps
new_symbols (remove_last k ∷ steps) = new_symbols steps

abbrev pub tests_in : List Action → ℕ
tests_in [] = 0
tests_in (assign x e ∷ steps) = tests_in steps
tests_in (forget x ∷ steps) = tests_in steps
tests_in (test kind e ∷ steps) = suc (tests_in steps)
tests_in (embed k ∷ steps) = tests_in steps
tests_in (remove_last k ∷ steps) = tests_in steps

-- from a source with so many variables
abbrev pub width_of : ℕ → List Action → ℕ
width_of live steps = suc (live + new_symbols steps)

abbrev pub executed_path : ℕ → List Action → Result SymbolicState Excess
executed_path live steps = executed (width_of live steps) steps (record {
  forms = symbols (width_of live steps) 1 live;
  tests = [];
  free = suc live;
})
