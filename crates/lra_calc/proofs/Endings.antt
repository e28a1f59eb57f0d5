-- From one fact about a script's answer to another.
use Rattle.std.proofs.Common.{ℕ, List, Vec, Result, Ok, Err}
use Rattle.std.specs.declared.alloc.Global.{Global}
use Rattle.lra_calc.specs.{Script.Refusal, Views.Answers, declared.refusal.CalcError.CalcError}
use Rattle.lra_calc.specs.declared.refusal.CalcError.TheVariants as calc_error

pub answers_by : (r : Result (Vec ℕ Global) CalcError) (P Q : Result (List ℕ) Refusal → Type 0) → ((answer : Result (List ℕ) Refusal) → P answer → Q answer) → Answers r P → Answers r Q
answers_by (Ok output) P Q step a = step _ a
answers_by (Err (calc_error.Refused r)) P Q step a = step _ a
answers_by (Err calc_error.Memory) P Q step a = tt
