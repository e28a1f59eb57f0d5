-- The iteration over a whole program, and what is reported of it. Points are numbered from 0 here; a report's numbers
-- are one more.
use Rattle.std.specs.Prelude.{◌≡◌, ◌↔◌, ◌<◌, ℕ, List, [], Option, Some, Bool, IsTrue, Contains, slice_get}
use Rattle.lra_domain.specs.Abstraction.{Abstraction}
use Rattle.lra_analysis_spec.specs.Crates.lra_program.Program.{Program}
use Rattle.lra_operations.specs.Tree.{Node}
use Rattle.lra_analysis_spec.specs.Operations.{Operations, exact_operations, lossy_operations, straining_operations}
use Rattle.lra_analysis_spec.specs.Pass.{value, failing, PassResult, nothing_absorbed}
use Rattle.lra_analysis_spec.specs.{Plan.Plan, UnderInterference.IterationUnder}

-- if the program runs alone
abbrev pub Iteration : {V H : Type 0} → Operations V H → Plan → Program → Node → PassResult V → Type 0
Iteration ops = IterationUnder ops nothing_absorbed

-- the written iteration
abbrev pub ExactIteration : {V H : Type 0} → Abstraction V H → Plan → Program → Node → PassResult V → Type 0
ExactIteration m set P g r = Iteration (exact_operations m) set P g r

-- one in which operations that exceed a limit may have dropped something
abbrev pub LossyIteration : {V H : Type 0} → Abstraction V H → Plan → Program → Node → PassResult V → Type 0
LossyIteration m set P g r = Iteration (lossy_operations m) set P g r

-- an operation of this point exceeds a limit on the operands that the written iteration has there
abbrev pub StrainsAtPoint : {V H : Type 0} → Abstraction V H → Plan → Program → Node → ℕ → Type 0
StrainsAtPoint {V} m set P g q = (r : PassResult V) × Iteration (straining_operations m) set P g r × (r.flag ≡ Some q)

-- no part: no run comes there
abbrev pub IsUnreachable : {V H : Type 0} → Abstraction V H → V → Type 0
IsUnreachable m v = m.parts v ≡ []

-- values are in the order of their points' numbers, and so are verdicts, one for each assertion; a verdict is a point's
-- number, and whether the assertion is proved: exactly if nothing is left of the value at which its condition is
-- false
pub record IsSolution {V H : Type 0} (m : Abstraction V H) (r : PassResult V) (values : List V)
    (verdicts : List (ℕ × Bool))
    (flagged : Option ℕ) : Type 0 where
  pub is_value : (q : ℕ) (v : V) → (slice_get values q ≡ Some v) ↔ Contains r.entries (value q v)
  pub is_verdict : (q : ℕ) (proved : Bool) → Contains verdicts (q, proved) → (u : V) ×
      Contains r.entries (failing q u) × (IsTrue proved ↔ IsUnreachable m u)
  pub has_verdict : (q : ℕ) (u : V) → Contains r.entries (failing q u) → (proved : Bool) × Contains verdicts (q, proved)
  pub in_order : (i j : ℕ) (a b : ℕ × Bool) → i < j → slice_get verdicts i ≡ Some a → slice_get verdicts j ≡ Some b →
      a.0 < b.0
  pub is_flagged : flagged ≡ r.flag
