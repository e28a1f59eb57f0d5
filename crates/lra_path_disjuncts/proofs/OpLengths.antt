-- How many variables live after a least change.
use Rattle.std.proofs.{Common.◌≡◌, Common.ℕ, Common.◌-◌, Common.length, Common.Some, Common.◌∙◌, Common.arith, lemmas.List.length-take, lemmas.Option.same_Some}
use Rattle.std.specs.Prelude.{min}
use Rattle.lra_program.specs.Step.{State, environment_at, Op, append, fill, store_value, store_element, havoc, push, push_for, truncate_to, run_op}
use Rattle.lra_program.specs.Value.{value_of}
use Rattle.lra_program.specs.Step as step
use Rattle.lra_inline_sound.proofs.Lengths.{length_append, length_fill, length_given, length_give_element, length_any, length_push, length_push_for, length_test}
use Rattle.lra_path_disjuncts.specs.Crates.lra_analysis_spec.Live.{live_after_op}

least_of_both : (n k : ℕ) → min n k ≡ k - (k - n)
least_of_both n k = omega arith

-- where a step ends, so many live
pub op_length : (op : Op) (s t : State) → run_op op s ≡ Some t → length t.store ≡ live_after_op op (length s.store)
op_length (append x) s t e = length_append x s t e
op_length (fill a) s t e = length_fill a s t e
op_length (store_value base x y) s t e = length_given x s (value_of y (environment_at base s) s.draws) t e
op_length (store_element base x y) s t e = length_give_element base x y s t e
op_length (havoc x) s t e = length_any x s t e
op_length (push base given) s t e = length_push base given s t e
op_length (push_for base x given) s t e = length_push_for base x given s t e
op_length (truncate_to n) s t e = rw (← same_Some _ t e) (length-take n s.store ∙ least_of_both n (length s.store))
op_length (step.test base c wanted) s t e = length_test base c wanted s t e
