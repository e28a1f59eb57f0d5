-- Reductions of a row by an echelon form: chains of steps, each of which makes the entry in one pivot's column 0, and
-- if in such a chain a number passes the range.
use Rattle.std.specs.List.{Contains}
use Rattle.std.specs.Prelude.{◌≡◌, ℕ, ◌<◌, ℤ, pos, neg_ℤ, List, [], ◌∷◌, length, Result, Ok, Err}
use Rattle.lra_linear_spec.specs.CheckedArithmetic.{checked_blend}
use Rattle.lra_linear_spec.specs.{Echelon.pivot, LowestTerms.IsLowest, Vectors.entry, declared.Excess.Excess}

-- (the line's entry at its pivot) r - (r's entry there) line: 0 at the pivot; or the first number that passes. The two
-- factors are taken as they are, not divided by what divides both.
abbrev pub checked_clearing : List ℤ → List ℤ → Result (List ℤ) Excess
checked_clearing line r = checked_blend (entry line (pivot line)) (neg_ℤ (entry r (pivot line))) r line

-- one step: r isn't 0 at the line's pivot; it is combined with the line, and taken in lowest terms
pub record ClearingStep (line r next : List ℤ) : Type 0 where
  pub cancels : ¬ (entry r (pivot line) ≡ pos 0)
  pub sum : List ℤ
  pub made : checked_clearing line r ≡ Ok sum
  pub lowest : IsLowest sum next

-- a step by some row of the form
pub record StepWithin (form : List (List ℤ)) (r next : List ℤ) : Type 0 where
  pub line : List ℤ
  pub has : Contains form line
  pub by : ClearingStep line r next

-- the steps lead from r, as it is given, to the last row
abbrev pub ReducesAlong : List (List ℤ) → List ℤ → List (List ℤ) → List ℤ → Type 0
ReducesAlong form r [] last = r ≡ last
ReducesAlong form r (next ∷ later) last = StepWithin form r next × ReducesAlong form next later last

-- after fewer than `most` steps by rows of the form, in whatever order, a further step passes the range
pub record ReductionPasses (most : ℕ) (form : List (List ℤ)) (start : List ℤ) (e : Excess) : Type 0 where
  pub steps : List (List ℤ)
  pub few : length steps < most
  pub last : List ℤ
  pub follows : ReducesAlong form start steps last
  pub line : List ℤ
  pub has : Contains form line
  pub cancels : ¬ (entry last (pivot line) ≡ pos 0)
  pub passes : checked_clearing line last ≡ Err e
