-- The faults of a chain of conditions are those of its operands in their order, and it means the chain, nested to the right, of what they mean.
use Rattle.std.proofs.Common.{◌≡◌, ℕ, ◌≤◌, length, take, List, [], ◌∷◌, ◌++◌, map, refl, sym, ap, ◌∙◌, append_assoc, append-nil, Option, Some, None, rules, Box, Global}
use Rattle.std.proofs.{lemmas.List.take_all, lemmas.List.Folds.flat_map-map, lemmas.Simd.map-map}
use Rattle.std.specs.List.{flat_map}
use Rattle.lra_base.specs.{OperatorViews.comparison_view, declared.operators.Comparison.Comparison, declared.refusals.Refusal.Refusal}
use Rattle.lra_syntax.specs.Trees.{NegationTree, opposite_again, value_of_unary, TestTree, opposite, value, compare, ConjunctionTree, test, and, CondTree, conjunction, or}
use Rattle.lra_syntax.specs.Views.{all_tests, any_conjunction, negation_step, test_step, conjunction_step, cond_step, unary_view, expr_view, negation_view, test_view, conjunction_view, cond_view}
use Rattle.lra_syntax.specs.declared.trees.Negation.TheFolds.{fold_out-Conjunction, fold_out-Cond}
use Rattle.lra_syntax.specs.{declared.trees.Cond.Cond, declared.trees.Cond.out-Cond, declared.trees.Conjunction.Conjunction, declared.trees.Conjunction.out-Conjunction, declared.trees.Expr.Expr}
use Rattle.lra_syntax.specs.{declared.trees.Negation.Negation, declared.trees.Negation.the_lemmas as cond_lemmas, declared.trees.Test.Test, declared.trees.Unary.Unary}
use Rattle.lra_syntax.specs.declared.trees.Negation as code_negation
use Rattle.lra_syntax.specs.declared.trees.Test as code_test
use Rattle.lra_program.specs.Program as program
use Rattle.lra_program.specs.ProgramViews as chain
use Rattle.lra_resolution_spec.specs.Resolve.{resolve_test, resolve_all_of, resolve_any_of, resolve_cond}
use Rattle.lra_resolution_spec.specs.{NameFaults.test_faults, NameFaults.conjunction_faults, NameFaults.cond_faults, Scope.Scope}
use Rattle.lra_scopes.specs.Chains.{resolve_conjunction}
use Rattle.lra_scopes.proofs.FirstFaults.{tells_front, tells_behind}

-- chains of `&&` -----------------------------------------------------------------------------------------------------

all_tests_faults : (s : Scope) (c : ConjunctionTree) (ts : List TestTree) → conjunction_faults s (all_tests c ts) ≡ conjunction_faults s c ++ flat_map (test_faults s) ts
all_tests_faults s c [] = sym (append-nil _)
all_tests_faults s c (t ∷ ts) = all_tests_faults s (and c t) ts ∙ append_assoc (conjunction_faults s c) (test_faults s t) (flat_map (test_faults s) ts)

-- the operands and what comes after them
abbrev both_behind : program.Cond → Option program.Cond → program.Cond
both_behind c None = c
both_behind c (Some d) = program.both_of c d

abbrev all_behind : List program.Cond → Option program.Cond → Option program.Cond
all_behind [] d = d
all_behind (c ∷ cs) d = Some (both_behind c (all_behind cs d))

all_and : (s : Scope) (c : ConjunctionTree) (t : TestTree) (d : Option program.Cond) → resolve_all_of s (and c t) d ≡ resolve_all_of s c (Some (both_behind (resolve_test s t) d))
all_and s c t None = refl
all_and s c t (Some d) = refl

all_chain : (s : Scope) (c : ConjunctionTree) (ts : List TestTree) (d : Option program.Cond) → resolve_all_of s (all_tests c ts) d ≡ resolve_all_of s c (all_behind (map (resolve_test s) ts) d)
all_chain s c [] d = refl
all_chain s c (t ∷ ts) d = all_chain s (and c t) ts d ∙ all_and s c t (all_behind (map (resolve_test s) ts) d)

all_at_end : (c : program.Cond) (cs : List program.Cond) → both_behind c (all_behind cs None) ≡ chain.all_of c cs
all_at_end c [] = refl
all_at_end c (d ∷ ds) = ap (program.both_of c) (all_at_end d ds)

all_first : (s : Scope) (t : TestTree) (d : Option program.Cond) → resolve_all_of s (test t) d ≡ both_behind (resolve_test s t) d
all_first s t None = refl
all_first s t (Some d) = refl

all_means : (s : Scope) (t : TestTree) (ts : List TestTree) → resolve_conjunction s (all_tests (test t) ts) ≡ chain.all_of (resolve_test s t) (map (resolve_test s) ts)
all_means s t ts =
    all_chain s (test t) ts None ∙ all_first s t (all_behind (map (resolve_test s) ts) None) ∙ all_at_end (resolve_test s t) (map (resolve_test s) ts)

conjunction_view_is : (c : Conjunction) → conjunction_view c ≡ all_tests (test (test_view (out-Conjunction c).first)) (map test_view (out-Conjunction c).rest.items)
conjunction_view_is = fold_out-Conjunction NegationTree TestTree CondTree ConjunctionTree negation_step test_step cond_step conjunction_step

abbrev pub faults_of_test : Scope → Test → List Refusal
faults_of_test s t = test_faults s (test_view t)

abbrev pub test_means : Scope → Test → program.Cond
test_means s t = resolve_test s (test_view t)

pub code_conjunction_faults : (s : Scope) (c : Conjunction)
    → conjunction_faults s (conjunction_view c) ≡ test_faults s (test_view (out-Conjunction c).first) ++ flat_map (faults_of_test s) (out-Conjunction c).rest.items
code_conjunction_faults s c =
    ap (conjunction_faults s) (conjunction_view_is c)
    ∙ all_tests_faults s (test (test_view (out-Conjunction c).first)) (map test_view (out-Conjunction c).rest.items)
    ∙ ap (λ (l : List Refusal). test_faults s (test_view (out-Conjunction c).first) ++ l) (flat_map-map (test_faults s) test_view (out-Conjunction c).rest.items)

code_conjunction_means : (s : Scope) (c : Conjunction)
    → resolve_conjunction s (conjunction_view c) ≡ chain.all_of (resolve_test s (test_view (out-Conjunction c).first)) (map (test_means s) (out-Conjunction c).rest.items)
code_conjunction_means s c =
    ap (resolve_conjunction s) (conjunction_view_is c)
    ∙ all_means s (test_view (out-Conjunction c).first) (map test_view (out-Conjunction c).rest.items)
    ∙ ap (chain.all_of (resolve_test s (test_view (out-Conjunction c).first))) (map-map (resolve_test s) test_view (out-Conjunction c).rest.items)

-- the whole chain's meaning, if all operands are there
pub conjunction_found : (s : Scope) (c : Conjunction) (v w : program.Cond) (cs : List program.Cond) (ts : List Test) (n : ℕ)
    → v ≡ chain.all_of w cs → w ≡ resolve_test s (test_view (out-Conjunction c).first) → cs ≡ map (test_means s) (take n ts)
    → length ts ≤ n → ts ≡ (out-Conjunction c).rest.items → v ≡ resolve_conjunction s (conjunction_view c)
conjunction_found s c v w cs ts n e first found all is =
    let whole : take n ts ≡ ts = take_all n ts all in
    e ∙ ap (λ (x : program.Cond). chain.all_of x cs) first
    ∙ ap (chain.all_of (resolve_test s (test_view (out-Conjunction c).first))) (found ∙ ap (map (test_means s)) (whole ∙ is))
    ∙ sym (code_conjunction_means s c)

-- chains of `||` -----------------------------------------------------------------------------------------------------

any_conjunction_faults : (s : Scope) (c : CondTree) (ds : List ConjunctionTree) → cond_faults s (any_conjunction c ds) ≡ cond_faults s c ++ flat_map (conjunction_faults s) ds
any_conjunction_faults s c [] = sym (append-nil _)
any_conjunction_faults s c (d ∷ ds) = any_conjunction_faults s (or c d) ds ∙ append_assoc (cond_faults s c) (conjunction_faults s d) (flat_map (conjunction_faults s) ds)

abbrev either_behind : program.Cond → Option program.Cond → program.Cond
either_behind c None = c
either_behind c (Some d) = program.either_of c d

abbrev any_behind : List program.Cond → Option program.Cond → Option program.Cond
any_behind [] d = d
any_behind (c ∷ cs) d = Some (either_behind c (any_behind cs d))

any_or : (s : Scope) (c : CondTree) (a : ConjunctionTree) (d : Option program.Cond) → resolve_any_of s (or c a) d ≡ resolve_any_of s c (Some (either_behind (resolve_conjunction s a) d))
any_or s c a None = refl
any_or s c a (Some d) = refl

any_chain : (s : Scope) (c : CondTree) (bs : List ConjunctionTree) (d : Option program.Cond) →
    resolve_any_of s (any_conjunction c bs) d ≡ resolve_any_of s c (any_behind (map (resolve_conjunction s) bs) d)
any_chain s c [] d = refl
any_chain s c (a ∷ bs) d = any_chain s (or c a) bs d ∙ any_or s c a (any_behind (map (resolve_conjunction s) bs) d)

any_at_end : (c : program.Cond) (cs : List program.Cond) → either_behind c (any_behind cs None) ≡ chain.any_of c cs
any_at_end c [] = refl
any_at_end c (d ∷ ds) = ap (program.either_of c) (any_at_end d ds)

any_first : (s : Scope) (a : ConjunctionTree) (d : Option program.Cond) → resolve_any_of s (conjunction a) d ≡ either_behind (resolve_conjunction s a) d
any_first s a None = refl
any_first s a (Some d) = refl

any_means : (s : Scope) (a : ConjunctionTree) (bs : List ConjunctionTree)
    → resolve_cond s (any_conjunction (conjunction a) bs) ≡ chain.any_of (resolve_conjunction s a) (map (resolve_conjunction s) bs)
any_means s a bs =
    any_chain s (conjunction a) bs None ∙ any_first s a (any_behind (map (resolve_conjunction s) bs) None)
    ∙ any_at_end (resolve_conjunction s a) (map (resolve_conjunction s) bs)

cond_view_is : (c : Cond) → cond_view c ≡ any_conjunction (conjunction (conjunction_view (out-Cond c).first)) (map conjunction_view (out-Cond c).rest.items)
cond_view_is = fold_out-Cond NegationTree TestTree CondTree ConjunctionTree negation_step test_step cond_step conjunction_step

abbrev pub faults_of_conjunction : Scope → Conjunction → List Refusal
faults_of_conjunction s d = conjunction_faults s (conjunction_view d)

abbrev pub conjunction_means : Scope → Conjunction → program.Cond
conjunction_means s d = resolve_conjunction s (conjunction_view d)

pub code_cond_faults : (s : Scope) (c : Cond)
    → cond_faults s (cond_view c) ≡ conjunction_faults s (conjunction_view (out-Cond c).first) ++ flat_map (faults_of_conjunction s) (out-Cond c).rest.items
code_cond_faults s c =
    ap (cond_faults s) (cond_view_is c)
    ∙ any_conjunction_faults s (conjunction (conjunction_view (out-Cond c).first)) (map conjunction_view (out-Cond c).rest.items)
    ∙ ap (λ (l : List Refusal). conjunction_faults s (conjunction_view (out-Cond c).first) ++ l) (flat_map-map (conjunction_faults s) conjunction_view (out-Cond c).rest.items)

code_cond_means : (s : Scope) (c : Cond)
    → resolve_cond s (cond_view c) ≡ chain.any_of (resolve_conjunction s (conjunction_view (out-Cond c).first)) (map (conjunction_means s) (out-Cond c).rest.items)
code_cond_means s c =
    ap (resolve_cond s) (cond_view_is c)
    ∙ any_means s (conjunction_view (out-Cond c).first) (map conjunction_view (out-Cond c).rest.items)
    ∙ ap (chain.any_of (resolve_conjunction s (conjunction_view (out-Cond c).first))) (map-map (resolve_conjunction s) conjunction_view (out-Cond c).rest.items)

pub cond_found : (s : Scope) (c : Cond) (v w : program.Cond) (cs : List program.Cond) (ds : List Conjunction) (n : ℕ)
    → v ≡ chain.any_of w cs → w ≡ resolve_conjunction s (conjunction_view (out-Cond c).first) → cs ≡ map (conjunction_means s) (take n ds)
    → length ds ≤ n → ds ≡ (out-Cond c).rest.items → v ≡ resolve_cond s (cond_view c)
cond_found s c v w cs ds n e first found all is =
    let whole : take n ds ≡ ds = take_all n ds all in
    e ∙ ap (λ (x : program.Cond). chain.any_of x cs) first
    ∙ ap (chain.any_of (resolve_conjunction s (conjunction_view (out-Cond c).first))) (found ∙ ap (map (conjunction_means s)) (whole ∙ is))
    ∙ sym (code_cond_means s c)

-- what stands for each form of the code's negations and tests -----------------------------------------------------------

pub again_is : (n : Negation) (b : Box Negation Global) (t : Negation) → n ≡ code_negation.Again b → t ≡ b.value → negation_view n ≡ opposite_again (negation_view t)
again_is n b t is same = let v : negation_view (code_negation.Again b) ≡ opposite_again (negation_view b.value) = search (rules, cond_lemmas) in rw (is, v, same)

pub operand_is : (n : Negation) (u : Unary) → n ≡ code_negation.Operand u → negation_view n ≡ value_of_unary (unary_view u)
operand_is n u is = let v : negation_view (code_negation.Operand u) ≡ value_of_unary (unary_view u) = search (rules, cond_lemmas) in rw (is, v)

pub opposite_is : (t : Test) (n : Negation) → t ≡ code_test.Opposite n → test_view t ≡ opposite (negation_view n)
opposite_is t n is = let v : test_view (code_test.Opposite n) ≡ opposite (negation_view n) = search (rules, cond_lemmas) in rw (is, v)

pub value_is : (t : Test) (e : Expr) → t ≡ code_test.Value e → test_view t ≡ value (expr_view e)
value_is t e is = let v : test_view (code_test.Value e) ≡ value (expr_view e) = search (rules, cond_lemmas) in rw (is, v)

pub compare_is : (t : Test) (a : Expr) (op : Comparison) (b : Expr) → t ≡ code_test.Compare a op b → test_view t ≡ compare (expr_view a) (comparison_view op) (expr_view b)
compare_is t a op b is =
    let v : test_view (code_test.Compare a op b) ≡ compare (expr_view a) (comparison_view op) (expr_view b) = search (rules, cond_lemmas) in rw (is, v)

pub ruleset conjunction_rules = (code_conjunction_faults, tells_front, tells_behind)

pub ruleset cond_rules = (code_cond_faults, tells_front, tells_behind)
