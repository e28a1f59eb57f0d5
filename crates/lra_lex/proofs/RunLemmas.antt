-- The run of bytes at the start that pass a test: all of them pass, and what comes after begins with none that does.
use Rattle.std.proofs.Common.{◌≡◌, ℕ, zero, suc, ◌+◌, ◌≤◌, Bool, true, false, List, [], ◌∷◌, ◌++◌, length, take, drop, refl, ap, subst, arith, inl, inr, ◌⊎◌}
use Rattle.std.proofs.lemmas.Bool.{and_from, and_parts, both_ways, cases_Bool}
use Rattle.std.specs.List.{list_all, prefix_len}

-- nothing that passes comes next
abbrev pub Stops : (ℕ → Bool) → List ℕ → Type 0
Stops p [] = Unit {0}
Stops p (c ∷ cs) = p c ≡ false

-- no test has two answers
pub differ : {a : Bool} → a ≡ true → a ≡ false → ⊥
differ {a} e f = both_ways a f e

-- a run is as long as the bytes that pass, if no further one does
pub run_exact : (p : ℕ → Bool) (xs ys : List ℕ) → list_all p xs ≡ true → Stops p ys → prefix_len p (xs ++ ys) ≡ length xs
run_exact p [] [] h s = refl
run_exact p [] (c ∷ ys) h s = rw s refl
run_exact p (c ∷ xs) ys h s =
    let k = and_parts (p c) (list_all p xs) h in
    let r = run_exact p xs ys k.1 s in rw (k.0, r) (omega arith)

pub run_longest : (p : ℕ → Bool) (xs ys : List ℕ) → list_all p xs ≡ true → length xs ≤ prefix_len p (xs ++ ys)
run_longest p [] ys h = omega arith
run_longest p (c ∷ xs) ys h =
    let k = and_parts (p c) (list_all p xs) h in
    let r = run_longest p xs ys k.1 in rw k.0 (omega arith)

-- what a run is: its bytes, and what comes after
pub record IsRun (p : ℕ → Bool) (xs s after : List ℕ) : Type 0 where
  pub parts : xs ≡ s ++ after
  pub passes : list_all p s ≡ true
  pub stops : Stops p after

abbrev RunAt : (ℕ → Bool) → List ℕ → ℕ → Type 0
RunAt p xs n = IsRun p xs (take n xs) (drop n xs)

run_more : (p : ℕ → Bool) (c : ℕ) (xs : List ℕ) → p c ≡ true → RunAt p xs (prefix_len p xs) → RunAt p (c ∷ xs) (suc (prefix_len p xs))
run_more p c xs h r = record { parts = ap (λ (z : List ℕ). c ∷ z) r.parts; passes = and_from (p c) (list_all p (take (prefix_len p xs) xs)) h r.passes; stops = r.stops }

suc_is : (n : ℕ) → suc n ≡ 1 + n
suc_is n = omega arith

run_cases : (p : ℕ → Bool) (c : ℕ) (xs : List ℕ) → (p c ≡ true) ⊎ (p c ≡ false) → RunAt p xs (prefix_len p xs) → RunAt p (c ∷ xs) (prefix_len p (c ∷ xs))
run_cases p c xs (inl h) r = let e : suc (prefix_len p xs) ≡ prefix_len p (c ∷ xs) = rw h (suc_is (prefix_len p xs)) in subst (λ (n : ℕ). RunAt p (c ∷ xs) n) e (run_more p c xs h r)
run_cases p c xs (inr h) r = let e : zero ≡ prefix_len p (c ∷ xs) = rw h refl in subst (λ (n : ℕ). RunAt p (c ∷ xs) n) e (record { parts = refl; passes = refl; stops = h })

pub run_is : (p : ℕ → Bool) (xs : List ℕ) → RunAt p xs (prefix_len p xs)
run_is p [] = record { parts = refl; passes = refl; stops = tt }
run_is p (c ∷ xs) = run_cases p c xs (cases_Bool (p c)) (run_is p xs)
