-- Names: what they mean, and the faults of names at their places. Which slip an example would catch stands beside it.
use Rattle.std.proofs.Common.{◌≡◌, ℕ, zero, suc, ◌<◌, ℤ, pos, negsuc, List, [], ◌∷◌, ◌++◌, length, Some, None, refl, ap, subst, sym, ◌∙◌, arith}
use Rattle.lra_syntax.specs.Trees.{value, compare, conjunction, test, and, or, expression, result, set, after, increment, declared, block, nothing, assign, call, for, break, return, no_items, scalar}
use Rattle.lra_syntax.specs.{Functions.functions_of, Labels.labels_of, Reach.calls_of, Reach.ReachesByCalls, Reach.there, Reach.by_call, Reach.IsRecursive, Reach.IsFirstRecursive, Reach.NotRecursive}
use Rattle.lra_syntax.specs.{Trees.declaration, Trees.statement, Trees.globals, Trees.function, Trees.FileTree, Trees.FunctionTree, Trees.GlobalTree, declared.trees.Identifier.Identifier}
use Rattle.std.specs.Prelude.{codes, map, Contains}
use Rattle.lra_resolution_spec.specs.Crates.lra_base.declared.number_types.NumberType.TheVariants.{Int, Long}
use Rattle.lra_resolution_spec.specs.Crates.lra_base.declared.refusals.Cause.TheVariants.{BadLiteral, NoMain, UnknownName, DuplicateName, BadCall, Misplaced, Recursive}
use Rattle.lra_resolution_spec.specs.Crates.{lra_base.declared.number_types.NumberType.NumberType, lra_base.declared.refusals.Cause.Cause, lra_base.declared.refusals.Refusal.Refusal}
use Rattle.lra_program.specs.Program as program
use Rattle.lra_resolution_spec.specs.Crates.lra_base.Operators as operators
use Rattle.lra_resolution_spec.specs.Scope as scope
use Rattle.lra_resolution_spec.specs.{EntryPoint.at_main, NameFaults.name_faults, Refuse.RefusesTree, Refuse.recursive, Resolve.resolve, Resolve.resolve_cond}
use Rattle.lra_program.proofs.RunExamples as run
use Rattle.lra_syntax.proofs.TreeSamples.{at, name_at, x_at, literal_text, use_of, tested, call_of, declared_as, long_parameter, main_function, void_of, main_of, one_variable, called_twice}

abbrev fault : Cause → ℕ → Refusal
fault c column = record { cause = c; place = at column }

-- what names mean --------------------------------------------------------------------------------------------------

one_variable_means : (resolve one_variable ≡ record run.one_variable { functions = run.one_variable.main ∷ [] }) × (name_faults one_variable ≡ [])
one_variable_means = (refl, refl)

-- catches a callee's parameter that is taken for its caller's variable
called_twice_means : (resolve called_twice ≡ record run.called_twice { functions = run.inc ∷ run.called_twice.main ∷ [] }) × (name_faults called_twice ≡ [])
called_twice_means = (refl, refl)

-- the places of the points, before calls are written out
called_twice_places : map (λ l. l.place.column) (labels_of called_twice) ≡ 19 ∷ 26 ∷ 36 ∷ 59 ∷ 69 ∷ 79 ∷ 93 ∷ []
called_twice_places = refl

-- int main(void){ long x; { long x; x = 1; } x = 2; }
-- the inner x is the second variable, the outer one the first: catches a name that means the oldest variable, and a scope that outlives its block
abbrev shadowed : FileTree
shadowed = main_of (declaration (declared_as (x_at 22) None)
    (statement (block (declaration (declared_as (x_at 32) None) (statement (assign (set (x_at 35) (expression (literal_text 1)))) no_items)) (at 42))
    (statement (assign (set (x_at 44) (expression (literal_text 2)))) no_items))) 51

shadowed_body : (resolve shadowed).main.body ≡ program.declaration (record { label = 1; number_type = Long; rvalue = None })
    (program.statement (program.block (program.declaration (record { label = 2; number_type = Long; rvalue = None })
    (program.statement (program.assign 3 (run.long_variable (program.local 1)) (program.value (program.literal Int 1))) program.no_more)) 4)
    (program.statement (program.assign 5 (run.long_variable (program.local 0)) (program.value (program.literal Int 2))) program.no_more))
shadowed_body = refl

shadowed_allowed : name_faults shadowed ≡ []
shadowed_allowed = refl

-- int main(void){ for(long x=0; x<3; x++) ; } : the word `for`, its declarator, its step, its body
abbrev one_for : FileTree
one_for = main_of (statement (for (at 17) (declared (declared_as (x_at 26) (Some (expression (literal_text 0))))) (Some (tested (compare (use_of (x_at 31)) operators.below (literal_text 3))))
    (Some (after (x_at 36) increment)) (nothing (at 41))) no_items) 43

one_for_body : (resolve one_for).main.body
    ≡ program.statement (program.for 1 (program.declaration (record { label = 2; number_type = Long; rvalue = Some (program.value (program.literal Int 0)) }) program.no_more)
    (program.compare operators.below (program.read (run.long_variable (program.local 0))) (program.literal Int 3)) (program.nothing 4)
    (program.assign 3 (run.long_variable (program.local 0)) (program.value (program.binary operators.plus (program.read (run.long_variable (program.local 0))) (program.literal Int 1)))))
    program.no_more
one_for_body = refl

one_for_places : (map (λ l. l.place.column) (labels_of one_for) ≡ 17 ∷ 26 ∷ 36 ∷ 41 ∷ 43 ∷ []) ×
    (map (λ l. l.live) (labels_of one_for) ≡ (codes "x" ∷ []) ∷ [] ∷ (codes "x" ∷ []) ∷ (codes "x" ∷ []) ∷ [] ∷ [])
one_for_places = (refl, refl)

-- a*b+c is (a*b)+c and a-b-c is (a-b)-c, while a&&b&&c is a&&(b&&c) and a||b||c is a||(b||c)
chain : resolve_cond (record { globals = record { name = codes "x"; binding = scope.scalar Long } ∷ []; locals = []; outer = 0 })
    (or (or (conjunction (test (value (use_of (x_at 1))))) (and (and (test (value (literal_text 1))) (value (literal_text 2))) (value (literal_text 3)))) (test (value (literal_text 4))))
    ≡ program.either_of (program.nonzero (program.read (run.long_variable (program.global 0))))
    (program.either_of (program.both_of (program.nonzero (program.literal Int 1)) (program.both_of (program.nonzero (program.literal Int 2)) (program.nonzero (program.literal Int 3))))
    (program.nonzero (program.literal Int 4)))
chain = refl

-- faults -----------------------------------------------------------------------------------------------------------

-- no bytes
no_main : name_faults (record { parts = []; end = at 1 }) ≡ fault NoMain 1 ∷ []
no_main = refl

-- int main(void){ x = 1; }
unknown_name : name_faults (main_of (statement (assign (set (x_at 17) (expression (literal_text 1)))) no_items) 24) ≡ fault UnknownName 17 ∷ []
unknown_name = refl

-- int main(void){ long x; long x; } : catches the place of the first
duplicate_name : name_faults (main_of (declaration (declared_as (x_at 22) None) (declaration (declared_as (x_at 30) None) no_items)) 33) ≡ fault DuplicateName 30 ∷ []
duplicate_name = refl

-- void f(void){} int main(void){ f(1); }
abbrev pub calls_with_one : FileTree
calls_with_one = record {
  parts = function (void_of (codes "f") 6 [] no_items 14) ∷ function (main_function 20 (statement (call (call_of (name_at (codes "f") 32) (literal_text 1 ∷ []))) no_items) 38) ∷ [];
  end = at 39;
}

bad_call : name_faults calls_with_one ≡ fault BadCall 32 ∷ []
bad_call = refl

-- void f(void){ return 1; } int main(void){ long x=f(); } : the value of a void function, given and used
void_values : name_faults (record {
  parts = function (void_of (codes "f") 6 [] (statement (return (at 15) (Some (expression (literal_text 1)))) no_items) 25)
      ∷ function (main_function 31 (declaration (declared_as (x_at 48) (Some (result (call_of (name_at (codes "f") 50) [])))) no_items) 55) ∷ [];
  end = at 56;
}) ≡ fault BadCall 15 ∷ fault BadCall 50 ∷ []
void_values = refl

-- int main(void){ break; }
misplaced : name_faults (main_of (statement (break (at 17)) no_items) 24) ≡ fault Misplaced 17 ∷ []
misplaced = refl

-- int main(void){ long x=x; } : a name is in scope from its own end on
own_value : name_faults (main_of (declaration (declared_as (x_at 22) (Some (expression (use_of (x_at 24))))) no_items) 27) ≡ []
own_value = refl

-- int main(void){ { long x; } x=1; } : the block's variable is gone after it
gone : name_faults (main_of (statement (block (declaration (declared_as (x_at 24) None) no_items) (at 27)) (statement (assign (set (x_at 29) (expression (literal_text 1)))) no_items)) 34) ≡
    fault UnknownName 29 ∷ []
gone = refl

-- void f(long x){ long x; } int main(void){} : parameters and the body's declarations are one scope
parameter_again : name_faults (record {
  parts = function (void_of (codes "f") 6 (long_parameter (x_at 13) ∷ []) (declaration (declared_as (x_at 22) None) no_items) 25) ∷ function (main_function 31 no_items 42) ∷ [];
  end = at 43;
}) ≡ fault DuplicateName 22 ∷ []
parameter_again = refl

-- long x; void x(void){} int main(void){} : functions and globals share a scope
global_and_function : name_faults (record {
  parts = globals (record { number_type = Long; first = record { name = x_at 6; shape = scalar None }; rest = [] })
      ∷ function (void_of (codes "x") 14 [] no_items 22) ∷ function (main_function 28 no_items 39) ∷
      [];
  end = at 40;
}) ≡ fault DuplicateName 14 ∷ []
global_and_function = refl

-- the first values of globals: the literal's place, after its sign; a name's fault stands before its literal's
abbrev int_global : Identifier → ℤ → ℕ → GlobalTree
int_global x z c = record { name = x; shape = scalar (Some (record { value = z; place = at c })) }

abbrev with_globals : NumberType → List GlobalTree → FileTree
with_globals t [] = main_of no_items 40
with_globals t (g ∷ gs) = record { parts = globals (record { number_type = t; first = g; rest = gs }) ∷ function (main_function 30 no_items 40) ∷ []; end = at 41 }

-- int g=2147483648; : catches a limit of 64 bits
wide_int : name_faults (with_globals Int (int_global (name_at (codes "g") 5) (pos 2147483648) 7 ∷ [])) ≡ fault BadLiteral 7 ∷ []
wide_int = refl

-- int g=-2147483648; and long g=2147483648; : catches a literal asked without its sign, and a `long` that is asked as an `int`
least_int : (name_faults (with_globals Int (int_global (name_at (codes "g") 5) (negsuc 2147483647) 8 ∷ [])) ≡ []) ×
    (name_faults (with_globals Long (int_global (name_at (codes "g") 6) (pos 2147483648) 8 ∷ [])) ≡ [])
least_int = (refl, refl)

-- int g=-2147483649;
below_least : name_faults (with_globals Int (int_global (name_at (codes "g") 5) (negsuc 2147483648) 8 ∷ [])) ≡ fault BadLiteral 8 ∷ []
below_least = refl

-- int g, g=2147483648; : both faults, the name's first
name_before_literal : name_faults (with_globals Int (record { name = name_at (codes "g") 5; shape = scalar None } ∷ int_global (name_at (codes "g") 8) (pos 2147483648) 10 ∷ [])) ≡
    fault DuplicateName 8 ∷ fault BadLiteral 10 ∷ []
name_before_literal = refl

-- int main(void){ f(); x=1; } void f(void){} long x; : a function may be defined after its call, a global must stand
-- before its use
later : name_faults (record {
  parts = function (main_function 5 (statement (call (call_of (name_at (codes "f") 17) [])) (statement (assign (set (x_at 22) (expression (literal_text 1)))) no_items)) 27)
      ∷ function (void_of (codes "f") 34 [] no_items 42) ∷ globals (record { number_type = Long; first = record { name = x_at 49; shape = scalar None }; rest = [] }) ∷ [];
  end = at 51;
}) ≡ fault UnknownName 22 ∷ []
later = refl

-- void f(void){ f(); } int main(void){}
abbrev pub itself : FileTree
itself = record {
  parts = function (void_of (codes "f") 6 [] (statement (call (call_of (name_at (codes "f") 15) [])) no_items) 20) ∷ function (main_function 26 no_items 37) ∷ [];
  end = at 38;
}

pub is_recursive : IsFirstRecursive itself (at 15)
is_recursive = ([], [], (codes "f", name_at (codes "f") 15), refl, refl, there, tt)

-- int main(void){ main(); } : catches calls of main that are left out
main_itself : IsFirstRecursive (main_of (statement (call (call_of (name_at (codes "main") 17) [])) no_items) 25) (at 17)
main_itself = ([], [], (codes "main", name_at (codes "main") 17), refl, refl, there, tt)

-- void f(void){ main(); } int main(void){} : main doesn't reach f
abbrev caller : FunctionTree
caller = void_of (codes "f") 6 [] (statement (call (call_of (name_at (codes "main") 15) [])) no_items) 23

abbrev last : FunctionTree
last = main_function 29 no_items 40

abbrev main_called : FileTree
main_called = record { parts = function caller ∷ function last ∷ []; end = at 41 }

no_call : (f : FunctionTree) (c : Identifier) → last ≡ f → Contains (calls_of f) c → ⊥
no_call f c e (k, l, s) = let h : k < length (calls_of last) = subst (λ (g : FunctionTree). k < length (calls_of g)) (sym e) l in omega (arith, h)

calls_nothing : (f : FunctionTree) (c : Identifier) → f.name.word ≡ codes "main" → Contains (functions_of main_called) f → Contains (calls_of f) c → ⊥
calls_nothing f c n (zero, l, s) calls =
    let h : codes "f" ≡ codes "main" = ap (λ (g : FunctionTree). g.name.word) s ∙ n in
    let k : 1 ≡ 4 = ap (length {A = ℕ}) h in
    omega (arith, k)
calls_nothing f c n (suc zero, l, s) calls = no_call f c s calls
calls_nothing f c n (suc (suc k), l, s) calls = omega (arith, l)

main_reaches_no_f : (g : List ℕ) → g ≡ codes "main" → ReachesByCalls main_called (codes "f") g → ⊥
main_reaches_no_f _ e there =
    let k : 1 ≡ 4 = ap (length {A = ℕ}) e in
    omega (arith, k)
main_reaches_no_f _ e (by_call f g c r) = calls_nothing c.function c.called (c.name ∙ e) c.is_there c.calls

not_at : (front behind : List (List ℕ × Identifier)) (c : List ℕ × Identifier) → (codes "f", name_at (codes "main") 15) ∷ [] ≡ front ++ c ∷ behind → IsRecursive main_called c → ⊥
not_at [] behind c e r =
    let h : (codes "f", name_at (codes "main") 15) ≡ c = cc in
    main_reaches_no_f (codes "main") refl (subst (IsRecursive main_called) (sym h) r)
not_at (b ∷ []) behind c e r = cc
not_at (b ∷ d ∷ front) behind c e r = cc

main_called_allowed : (name_faults main_called ≡ []) × NotRecursive main_called
main_called_allowed = (refl, λ at r. not_at r.0 r.1 r.2 r.3 r.5)

-- int main(void){ f(); } void f(void){ g(); } void g(void){ f(); }
-- f and g reach each other, and f's call is the first in text order: main's call of f isn't recursive, since f never reaches main
abbrev one_another : FileTree
one_another = record {
  parts = function (main_function 5 (statement (call (call_of (name_at (codes "f") 17) [])) no_items) 22)
      ∷ function (void_of (codes "f") 29 [] (statement (call (call_of (name_at (codes "g") 38) [])) no_items) 43)
      ∷ function (void_of (codes "g") 50 [] (statement (call (call_of (name_at (codes "f") 59) [])) no_items) 64) ∷ [];
  end = at 65;
}

-- main isn't called: all called names are of one letter
only_call : (c d : Identifier) → Contains (d ∷ []) c → d ≡ c
only_call c d (zero, l, s) = s
only_call c d (suc k, l, s) = absurd (omega (arith, l))

called_name_short : (f : FunctionTree) (c : Identifier) → Contains (functions_of one_another) f → Contains (calls_of f) c → length c.word ≡ 1
called_name_short f c (zero, l, s) calls =
    ap (λ (d : Identifier). length d.word) (sym (only_call c (name_at (codes "f") 17) (subst (λ (g : FunctionTree). Contains (calls_of g) c) (sym s) calls)))
called_name_short f c (suc zero, l, s) calls =
    ap (λ (d : Identifier). length d.word) (sym (only_call c (name_at (codes "g") 38) (subst (λ (g : FunctionTree). Contains (calls_of g) c) (sym s) calls)))
called_name_short f c (suc (suc zero), l, s) calls =
    ap (λ (d : Identifier). length d.word) (sym (only_call c (name_at (codes "f") 59) (subst (λ (g : FunctionTree). Contains (calls_of g) c) (sym s) calls)))
called_name_short f c (suc (suc (suc k)), l, s) calls = omega (arith, l)

main_not_reached : (g : List ℕ) → length g ≡ 1 → ReachesByCalls one_another (codes "main") g → ⊥
main_not_reached _ e there = omega (arith, e)
main_not_reached _ e (by_call f g c r) = main_not_reached g (sym (ap (length {A = ℕ}) c.called_name) ∙ called_name_short c.function c.called c.is_there c.calls) r

one_another_recursive : IsFirstRecursive one_another (at 38)
one_another_recursive = (
  (codes "main", name_at (codes "f") 17) ∷ [],
  (codes "g", name_at (codes "f") 59) ∷ [],
  (codes "f", name_at (codes "g") 38),
  refl,
  refl,
  by_call _ _ (record { function = _; is_there = (2, omega arith, refl); name = refl; called = name_at (codes "f") 59; calls = (0, omega arith, refl); called_name = refl }) there,
  (main_not_reached (codes "f") refl, tt),
)

one_another_refused : RefusesTree at_main one_another Recursive (at 38)
one_another_refused = recursive (at 38) refl one_another_recursive
