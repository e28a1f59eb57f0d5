-- Traces of small programs.
use Rattle.std.proofs.Common.{◌≡◌, ℕ, ℤ, pos, List, [], ◌∷◌, ◌⊎◌, inl, inr, refl}
use Rattle.lra_program.specs.{Run.Point, Step.State, Traces.visit, Traces.NoChange, Traces.Arrives, Traces.ViolatesAssertion}
use Rattle.lra_program.proofs.RunExamples.{one_variable, failing}

abbrev state_of : List ℤ → List ℤ → State
state_of store draws = record { store = store; arrays = []; waiting = []; draws = draws }

abbrev point_of_main : ℕ → Point
point_of_main label = record { path = []; label = label }

-- int main(void){ long x; x = 3; assert(x >= 3); }
-- to the assertion: the declarator's point, where no variable is, and the assignment's, where x has its draw; the
-- assertion's own point isn't passed. Catches a list that is the earliest first
to_assertion : Arrives NoChange one_variable (pos 7 ∷ []) (point_of_main 3) (record {
  state = state_of (pos 3 ∷ []) [];
  events = visit (point_of_main 2) (state_of (pos 7 ∷ []) []) ∷ visit (point_of_main 1) (state_of [] (pos 7 ∷ [])) ∷ [];
})
to_assertion = (5, _, (_, _, refl, refl, (_, _, refl, refl, (_, _, refl, refl, (_, _, refl, refl, (_, _, refl, refl, (refl, refl)))))), record { label = refl; path = refl }, refl)

-- int main(void){ long x; x = 2; assert(x >= 3); } : what is met before the failure ends with the assertion's point
failing_trail : ViolatesAssertion NoChange failing (pos 7 ∷ []) (point_of_main 3) (record {
  state = state_of (pos 2 ∷ []) [];
  events = visit (point_of_main 3) (state_of (pos 2 ∷ []) []) ∷ visit (point_of_main 2) (state_of (pos 7 ∷ []) []) ∷ visit (point_of_main 1) (state_of [] (pos 7 ∷ [])) ∷ [];
})
failing_trail = (
  5,
  _,
  _,
  (_, _, refl, refl, (_, _, refl, refl, (_, _, refl, refl, (_, _, refl, refl, (_, _, refl, refl, (refl, refl)))))),
  record { label = refl; path = refl },
  refl,
  (_, refl),
  refl,
)

-- somebody may set the one variable to 5
abbrev MayBeFive : State → State → Type 0
MayBeFive s t = (t ≡ s) ⊎ (t ≡ state_of (pos 5 ∷ []) s.draws)

-- if that happens at the assertion's point, the run goes on after it: what is met there is x as it came, and what
-- is tested is x as it became. Catches a change before the point is met, and one after the step
past_failure : Arrives MayBeFive failing (pos 7 ∷ []) (point_of_main 4) (record {
  state = state_of (pos 5 ∷ []) [];
  events = visit (point_of_main 3) (state_of (pos 2 ∷ []) []) ∷ visit (point_of_main 2) (state_of (pos 7 ∷ []) []) ∷ visit (point_of_main 1) (state_of [] (pos 7 ∷ [])) ∷ [];
})
past_failure = (
  7,
  _,
  (
    _,
    _,
    refl,
    refl,
    (_, _, inl refl, refl, (_, _, refl, refl, (_, _, inl refl, refl, (_, _, refl, refl, (_, _, inr refl, refl, (_, _, refl, refl, (refl, refl))))))),
  ),
  record { label = refl; path = refl },
  refl,
)
