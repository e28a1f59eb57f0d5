-- The threads of a source: where they stand, and whether there are two.
use Rattle.std.proofs.Common.{◌≡◌, ℕ, zero, suc, ◌+◌, ◌-◌, ◌<◌, ◌≤◌, List, [], ◌∷◌, ◌++◌, length, Some, Bool, true, false, refl, sym, ap, ◌∙◌, subst, arith, length-append, append_assoc, append-nil}
use Rattle.std.specs.Prelude.{if◌then◌else◌, ◌&&◌}
use Rattle.lra_base.specs.declared.refusals.Cause.TheVariants.{NoThreads}
use Rattle.lra_syntax.specs.{Functions.functions_of, Functions.function_named, Trees.FunctionTree, Trees.FileTree}
use Rattle.lra_resolve.specs.Crates.lra_resolution_spec.Threads.{greatest_threads, thread_name, has_no_parameters, has_thread, thread_places_from, thread_faults}
use Rattle.lra_resolve.specs.Crates.{lra_resolution_spec.NameFaults.parts_faults, lra_resolution_spec.Resolve.function_place}
use Rattle.lra_scopes.specs.Outcome.{first_fault}

-- one thread more, and the last one
pub next_thread : (F : List FunctionTree) (more k : ℕ) → has_thread F k ≡ true
    → thread_places_from F (suc more) k ≡ function_place F (thread_name k) ∷ thread_places_from F more (suc k)
next_thread F more k e = rw e refl

pub no_thread : (F : List FunctionTree) (more k : ℕ) → has_thread F k ≡ false → thread_places_from F more k ≡ []
no_thread F zero k e = refl
no_thread F (suc more) k e = rw e refl

-- one place more, of the thread whose name ends in this digit
pub thread_added : (F : List FunctionTree) (all places new name : List ℕ) (digit place : ℕ) → digit < 57 → digit ≡ 49 + length places → name ≡ 116 ∷ digit ∷ []
    → all ≡ places ++ thread_places_from F (57 - digit) (length places) → has_no_parameters (function_named F name) ≡ true → place ≡ function_place F name
    → new ≡ places ++ place ∷ [] → all ≡ new ++ thread_places_from F (57 - (digit + 1)) (length new)
thread_added F all places new name digit place low count named whole alone at same =
    let k = length places in
    let more = 57 - (digit + 1) in
    let is : name ≡ thread_name k = named ∙ ap (λ n. 116 ∷ n ∷ []) count in
    let left : 57 - digit ≡ suc more = omega (arith, low) in
    let has : has_thread F k ≡ true = subst (λ n. has_no_parameters (function_named F n) ≡ true) is alone in
    let longer : length new ≡ suc k = ap length same ∙ length-append places (place ∷ []) ∙ omega arith in
    let rest : thread_places_from F (57 - digit) k ≡ place ∷ thread_places_from F more (suc k) =
    ap (λ m. thread_places_from F m k) left ∙ next_thread F more k has
    ∙ ap (λ p. p ∷ thread_places_from F more (suc k)) (sym (at ∙ ap (function_place F) is)) in
    whole ∙ ap (λ ps. places ++ ps) rest ∙ sym (append_assoc places (place ∷ []) (thread_places_from F more (suc k)))
    ∙ ap (λ ps. ps ++ thread_places_from F more (suc k)) (sym same) ∙ ap (λ n. new ++ thread_places_from F more n) (sym longer)

-- no further one
pub threads_ended : (F : List FunctionTree) (all places name : List ℕ) (digit more : ℕ) → digit ≡ 49 + length places → name ≡ 116 ∷ digit ∷ []
    → all ≡ places ++ thread_places_from F more (length places) → has_no_parameters (function_named F name) ≡ false → places ≡ all
threads_ended F all places name digit more count named whole none =
    let is : name ≡ thread_name (length places) = named ∙ ap (λ n. 116 ∷ n ∷ []) count in
    let no : has_thread F (length places) ≡ false = subst (λ n. has_no_parameters (function_named F n) ≡ false) is none in
    sym (whole ∙ ap (λ ps. places ++ ps) (no_thread F more (length places) no) ∙ append-nil places)

-- fewer than two, or at least two
few_of : (one two : Bool) (a b : ℕ) (further : List ℕ) → length (if one then a ∷ (if two then b ∷ further else []) else []) < 2 → (one && two) ≡ false
few_of false two a b further l = refl
few_of true false a b further l = refl
few_of true true a b further l = absurd (omega (arith, l))

two_of : (one two : Bool) (a b : ℕ) (further : List ℕ) → 2 ≤ length (if one then a ∷ (if two then b ∷ further else []) else []) → (one && two) ≡ true
two_of true true a b further l = refl
two_of true false a b further l = absurd (omega (arith, l))
two_of false two a b further l = absurd (omega (arith, l))

module _ (t : FileTree) (clean : parts_faults (functions_of t) [] [] t.parts ≡ []) (places : List ℕ)
    (are : places ≡ thread_places_from (functions_of t) greatest_threads 0) where
  abbrev F : List FunctionTree
  F = functions_of t

  pub few_told : length places < 2 → first_fault (thread_faults t) ≡ Some (record { cause = NoThreads; place = t.end })
  few_told l =
      let few : (has_thread F 0 && has_thread F 1) ≡ false = few_of (has_thread F 0) (has_thread F 1) (function_place F (thread_name 0))
      (function_place F (thread_name 1))
      (thread_places_from F 6 2) (rw (← are) l) in
      rw (clean, few) refl

  pub two_clean : 2 ≤ length places → thread_faults t ≡ []
  two_clean l =
      let two : (has_thread F 0 && has_thread F 1) ≡ true = two_of (has_thread F 0) (has_thread F 1) (function_place F (thread_name 0))
      (function_place F (thread_name 1))
      (thread_places_from F 6 2) (rw (← are) l) in
      rw (clean, two) refl
