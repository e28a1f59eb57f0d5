-- Which variable a step of a run gives a value: an assignment, a draw, what a call gives its receiver. A value is given
-- also if the variable had it before.
use Rattle.std.specs.Prelude.{◌≡◌, ◌⊎◌, ℕ, List, ◌∷◌, Some, None}
use Rattle.lra_program.specs.Program.{Program, return}
use Rattle.lra_program.specs.Step.{State, Op, havoc, run_op, CallContext, Item, run, return_frame, receiver_of}
use Rattle.lra_program.specs.{NextOperation.NextOpIs, Step.return_target, WrittenVariables.written_variable}

-- the operation gives the variable x a value, which it has in the state after it, t
abbrev pub OpWrites : ℕ → State → Op → State → Type 0
OpWrites x t op s = (written_variable op ≡ Some x) × (run_op op s ≡ Some t)

-- a value that nobody computes: of `return;` and of a function's end
abbrev pub HavocWrites : ℕ → State → Program → List Item → State → Type 0
HavocWrites x t P (run (return at None) ∷ k) s = OpWrites x t (havoc (receiver_of P (return_target k))) s
HavocWrites x t P (return_frame b ∷ k) s = OpWrites x t (havoc b.receiver) s
HavocWrites x t P k s = ⊥

-- the step from here does; t is the state after the write, before anything else is done
abbrev pub StepWrites : ℕ → State → Program → List Item → CallContext → State → Type 0
StepWrites x t P k h s = NextOpIs (OpWrites x t) P k h s ⊎ HavocWrites x t P k s
