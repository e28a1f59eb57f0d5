-- The answer to a script that is too long, and to one that is not. The limit is a variable here, since it is large.
use Rattle.std.proofs.Common.{◌≡◌, ◌<◌, ◌≤◌, ℕ, Bool, true, false, List, length, take, ap, sym, subst, ◌∙◌, arith, nat_lt, Result, Err}
use Rattle.std.proofs.lemmas.Bool.Decides.{nat_tests}
use Rattle.lra_base.specs.Places.{place_after, greatest_length}
use Rattle.lra_calc.specs.Script.{Refusal, TooLong, Runs, TooLongOr, AnswersTo}

above : (m n : ℕ) → m < n → nat_lt m n ≡ true
above m n h = grind (arith, nat_tests)

not_above : (m n : ℕ) → n ≤ m → nat_lt m n ≡ false
not_above m n h = grind (arith, nat_tests)

pub answer_too_long : (n : ℕ) (bytes : List ℕ) → greatest_length ≡ n → n < length bytes → AnswersTo bytes (Err (TooLong (place_after (take n bytes))))
answer_too_long n bytes e h =
    subst (λ (b : Bool). TooLongOr b bytes (Err (TooLong (place_after (take n bytes))))) (sym (ap (λ (k : ℕ). nat_lt k (length bytes)) e ∙ above n (length bytes) h))
    (ap (λ (k : ℕ). let r : Result (List ℕ) Refusal = Err (TooLong (place_after (take k bytes))) in r) (sym e))

is_long : (b : Bool) (bytes : List ℕ) (answer : Result (List ℕ) Refusal) → b ≡ true → TooLongOr b bytes answer → answer ≡ Err (TooLong (place_after (take greatest_length bytes)))
is_long true bytes answer e h = h
is_long false bytes answer e h = cc

-- no other answer
pub long_answer : (bytes : List ℕ) (answer : Result (List ℕ) Refusal) → greatest_length < length bytes → AnswersTo bytes answer → answer ≡ Err (TooLong (place_after (take greatest_length bytes)))
long_answer bytes answer h a = is_long (nat_lt greatest_length (length bytes)) bytes answer (above greatest_length (length bytes) h) a

pub answer_not_long : (n : ℕ) (bytes : List ℕ) (answer : Result (List ℕ) Refusal) → greatest_length ≡ n → length bytes ≤ n → Runs bytes answer → AnswersTo bytes answer
answer_not_long n bytes answer e h r = subst (λ (b : Bool). TooLongOr b bytes answer) (sym (ap (λ (k : ℕ). nat_lt k (length bytes)) e ∙ not_above n (length bytes) h)) r
