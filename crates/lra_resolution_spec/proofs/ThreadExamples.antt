-- Threads of sources, and refusals of sources of several threads. Which slip an example would catch stands beside it.
use Rattle.std.proofs.Common.{◌≡◌, ℕ, zero, suc, ◌<◌, List, [], ◌∷◌, length, None, refl, ap, subst, sym, ◌∙◌, arith}
use Rattle.std.specs.Prelude.{codes, Contains, get_or}
use Rattle.lra_resolution_spec.specs.Crates.lra_base.declared.refusals.Cause.TheVariants.{NoMain, NoThreads, UnknownName, DuplicateName, Recursive}
use Rattle.lra_resolution_spec.specs.Crates.{lra_base.declared.refusals.Cause.Cause, lra_base.declared.refusals.Refusal.Refusal}
use Rattle.lra_syntax.specs.Trees.{expression, set, nothing, assign, call, no_items, ItemsTree, statement, function, FileTree, FunctionTree, ExternalTree}
use Rattle.lra_syntax.specs.{Functions.functions_of, Labels.labels_of, Reach.calls_of, Reach.ReachesByCalls, Reach.there, Reach.by_call, Reach.IsFirstRecursive, declared.trees.Identifier.Identifier}
use Rattle.lra_program.specs.Sites.{event_sites}
use Rattle.lra_resolution_spec.specs.Threads.{thread_faults, thread_places, thread_program}
use Rattle.lra_resolution_spec.specs.EntryPoint.{at_main, at_threads, faults_of, programs_of, points_of}
use Rattle.lra_resolution_spec.specs.{Refuse.limit_fault, Refuse.RefusesTree, Refuse.recursive}
use Rattle.lra_syntax.proofs.TreeSamples.{at, name_at, x_at, literal_text, call_of, long_parameter, main_function, void_of}

abbrev fault : Cause → ℕ → Refusal
fault c column = record { cause = c; place = at column }

-- a part: a function of this name, which stands at this column, and whose `}` stands at another
abbrev part : List ℕ → ℕ → ItemsTree → ℕ → ExternalTree
part name c body end = function (void_of name c [] body end)

-- void t1(void){} : main isn't asked for
abbrev one : FileTree
one = record { parts = part (codes "t1") 6 no_items 15 ∷ []; end = at 16 }

one_refused : thread_faults one ≡ fault NoThreads 16 ∷ []
one_refused = refl

-- void t1(void){} int main(void){} : main is no thread
one_and_main : thread_faults (record { parts = part (codes "t1") 6 no_items 15 ∷ function (main_function 21 no_items 32) ∷ []; end = at 33 }) ≡ fault NoThreads 33 ∷ []
one_and_main = refl

-- void t2(void){} void t3(void){} : catches that any two threads are enough
no_first : thread_faults (record { parts = part (codes "t2") 6 no_items 15 ∷ part (codes "t3") 22 no_items 31 ∷ []; end = at 32 }) ≡ fault NoThreads 32 ∷ []
no_first = refl

-- void t1(void){} void t2(long a){} : a thread has no parameters
with_parameter : thread_faults (record {
  parts = part (codes "t1") 6 no_items 15 ∷ function (void_of (codes "t2") 22 (long_parameter (name_at (codes "a") 30) ∷ []) no_items 33) ∷ [];
  end = at 34;
}) ≡ fault NoThreads 34 ∷ []
with_parameter = refl

-- void t1(void){x=1;} : names come before; catches a fault at the end that is reported first
unknown_first : thread_faults (record { parts = part (codes "t1") 6 (statement (assign (set (x_at 15) (expression (literal_text 1)))) no_items) 19 ∷ []; end = at 20 })
    ≡ fault UnknownName 15 ∷ fault NoThreads 20 ∷ []
unknown_first = refl

-- void t1(long a){} void t1(void){} void t2(void){} : the first definition of a name counts
first_counts : thread_faults (record {
  parts = function (void_of (codes "t1") 6 (long_parameter (name_at (codes "a") 14) ∷ []) no_items 17) ∷ part (codes "t1") 24 no_items 33 ∷ part (codes "t2") 40 no_items 49 ∷ [];
  end = at 50;
}) ≡ fault DuplicateName 24 ∷ fault NoThreads 50 ∷ []
first_counts = refl

-- void t1(void){;} void t2(void){;} void t4(void){;}
abbrev semicolon : ℕ → ItemsTree
semicolon c = statement (nothing (at c)) no_items

abbrev two : FileTree
two = record { parts = part (codes "t1") 6 (semicolon 15) 16 ∷ part (codes "t2") 23 (semicolon 32) 33 ∷ part (codes "t4") 40 (semicolon 49) 50 ∷ []; end = at 51 }

-- two threads, since the numbers are consecutive, with four points; main may be missing
two_threads : (thread_faults two ≡ []) × (thread_places two ≡ 0 ∷ 1 ∷ []) × (length (event_sites (points_of at_threads two)) ≡ 4) × (limit_fault (labels_of two) 0 (points_of at_threads two) ≡ None)
two_threads = (refl, refl, refl, refl)

-- two programs of one tree, which means none from a `main` that is missing: catches an entry point that is not asked
by_entry : (length (programs_of at_threads two) ≡ 2) × (faults_of at_threads two ≡ []) × (faults_of at_main two ≡ fault NoMain 51 ∷ [])
by_entry = (refl, refl, refl)

-- each of them stands in the place of main
second_program : (thread_program two 1).main.end ≡ 4
second_program = refl

-- void t2(void){} .. void t9(void){} void t1(void){} : at most eight, in the order of their numbers
abbrev named : ℕ → ExternalTree
named k = part (116 ∷ k ∷ []) 6 no_items 15

nine_threads : thread_places (record { parts = named 50 ∷ named 51 ∷ named 52 ∷ named 53 ∷ named 54 ∷ named 55 ∷ named 56 ∷ named 57 ∷ named 49 ∷ []; end = at 16 })
    ≡ 8 ∷ 0 ∷ 1 ∷ 2 ∷ 3 ∷ 4 ∷ 5 ∷ 6 ∷ []
nine_threads = refl

-- int main(void){} void t2(void){} void t1(void){ t2(); t1(); }
-- a thread may call another's function, but not itself
abbrev callee : FunctionTree
callee = void_of (codes "t2") 23 [] no_items 32

abbrev caller : FunctionTree
caller = void_of (codes "t1") 39 [] (statement (call (call_of (name_at (codes "t2") 49) [])) (statement (call (call_of (name_at (codes "t1") 55) [])) no_items)) 61

abbrev itself : FileTree
itself = record { parts = function (main_function 5 no_items 16) ∷ function callee ∷ function caller ∷ []; end = at 62 }

other_name : codes "t1" ≡ codes "t2" → ⊥
other_name e = let h : 49 ≡ 50 = ap (λ w. get_or w 1 0) e in omega (arith, h)

no_call : (f : FunctionTree) (c : Identifier) → callee ≡ f → Contains (calls_of f) c → ⊥
no_call f c e (k, l, s) = let h : k < length (calls_of callee) = subst (λ (g : FunctionTree). k < length (calls_of g)) (sym e) l in omega (arith, h)

calls_nothing : (f : FunctionTree) (c : Identifier) → f.name.word ≡ codes "t2" → Contains (functions_of itself) f → Contains (calls_of f) c → ⊥
calls_nothing f c n (zero, l, s) calls =
    let h : codes "main" ≡ codes "t2" = ap (λ (g : FunctionTree). g.name.word) s ∙ n in
    let k : 4 ≡ 2 = ap (length {A = ℕ}) h in
    omega (arith, k)
calls_nothing f c n (suc zero, l, s) calls = no_call f c s calls
calls_nothing f c n (suc (suc zero), l, s) calls = other_name (ap (λ (g : FunctionTree). g.name.word) s ∙ n)
calls_nothing f c n (suc (suc (suc k)), l, s) calls = omega (arith, l)

not_back : (g : List ℕ) → g ≡ codes "t2" → ReachesByCalls itself (codes "t1") g → ⊥
not_back _ e there = other_name e
not_back _ e (by_call f g c r) = calls_nothing c.function c.called (c.name ∙ e) c.is_there c.calls

itself_recursive : IsFirstRecursive itself (at 55)
itself_recursive = (
  (codes "t1", name_at (codes "t2") 49) ∷ [],
  [],
  (codes "t1", name_at (codes "t1") 55),
  refl,
  refl,
  there,
  (λ r. not_back (codes "t2") refl r, tt),
)

itself_refused : RefusesTree at_threads itself Recursive (at 55)
itself_refused = recursive (at 55) refl itself_recursive
