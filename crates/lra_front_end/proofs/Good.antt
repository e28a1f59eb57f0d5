-- What a tree means is good, if nothing of it is at fault and its literals are small.
use Rattle.std.proofs.Common.{◌≡◌, ℕ, suc, ◌+◌, List, [], ◌∷◌, ◌++◌, length, map, Option, Some, None, Bool, true, false, not, refl, sym, subst, ◌∙◌}
use Rattle.std.proofs.{lemmas.Bool.not-false, lemmas.List.length-map}
use Rattle.std.specs.{List.AllByRecursion, List.flat_map, Prelude.⊤, Prelude.slice_get}
use Rattle.lra_base.specs.{declared.case_labels.CaseLabel.CaseLabel, declared.number_types.NumberType.NumberType, declared.refusals.Place.Place}
use Rattle.lra_front_end.specs.Crates.lra_program.Program.{Cond, BlockItems, no_more, Function, Program}
use Rattle.lra_front_end.specs.Crates.lra_program.WellFormed.{IsGoodExpr, IsGoodCond, IsGoodCall, IsGoodRvalue, IsGoodGiven, IsGoodStmt, AreGoodCases, AreGoodItems, Jumps, no_jumps, in_loop}
use Rattle.lra_front_end.specs.Crates.lra_resolution_spec.NameFaults.{use_faults, named_faults, unary_faults, term_faults, expr_faults, negation_faults, test_faults, conjunction_faults, cond_faults}
use Rattle.lra_front_end.specs.Crates.lra_resolution_spec.NameFaults.{called_faults, call_faults, rvalue_faults, assign_faults, given_faults, shape_faults, declarators_faults, init_faults}
use Rattle.lra_front_end.specs.Crates.lra_resolution_spec.NameFaults.{test_of_for_faults, step_faults, Around, return_faults, stmt_faults, cases_faults, items_faults}
use Rattle.lra_front_end.specs.Crates.lra_resolution_spec.Resolve.{function_place, resolve_unary, resolve_term, resolve_expr, resolve_negation, resolve_test, resolve_all_of, resolve_any_of}
use Rattle.lra_front_end.specs.Crates.lra_resolution_spec.Resolve.{resolve_cond, resolve_call, resolve_rvalue, resolve_given, resolve_assign, resolve_declared, resolve_declarators, resolve_init}
use Rattle.lra_front_end.specs.Crates.lra_resolution_spec.Resolve.{resolve_for_test, resolve_step, init_count, step_count, stmt_count, declarator_count, resolve_stmt, resolve_cases, resolve_items}
use Rattle.lra_front_end.specs.Crates.lra_resolution_spec.Scope.{Scope, binding_of, with_local, declarator_entry, with_declarators, inner, for_scope}
use Rattle.lra_front_end.specs.Crates.{lra_program.Sites.live_after_items, lra_program.WellFormed.in_switch, lra_syntax.Functions.function_named, lra_syntax.declared.trees.Identifier.Identifier}
use Rattle.lra_front_end.specs.Crates.lra_syntax.Trees as tree
use Rattle.lra_front_end.specs.Literals.{IsSmallUnary, IsSmallTerm, IsSmallExpr, IsSmallNegation, IsSmallTest, IsSmallConjunction, IsSmallCond, IsSmallCall, IsSmallRvalue, IsSmallGiven, IsSmallAssign}
use Rattle.lra_front_end.specs.Literals.{IsSmallShape, IsSmallDeclarator, IsSmallInit, IsSmallForTest, IsSmallStep, IsSmallStmt, AreSmallCases, AreSmallItems}
use Rattle.lra_front_end.proofs.Declared.{wider, behind_declared}
use Rattle.lra_front_end.proofs.Faultless.{none_left, none_right, none_if, Sees, sees_local, sees_inner, variable_lives, called_is}

module _ (P : Program) where
  module _ (live : ℕ) (s : Scope) (sees : Sees P live s) where
    mutual
      good_unary : (u : tree.UnaryTree) → IsSmallUnary u → unary_faults s u ≡ [] → IsGoodExpr P live (resolve_unary s u)
      good_unary (tree.negated u) small e = good_unary u small e
      good_unary (tree.positive u) small e = good_unary u small e
      good_unary (tree.literal t n) small e = small
      good_unary (tree.variable x) small e = variable_lives P live s x sees e
      good_unary tree.input small e = tt
      good_unary (tree.group x) small e = good_expr x small e
      good_unary (tree.element x i) small e = good_expr i small (none_right (named_faults s x) (expr_faults s i) e)

      good_term : (t : tree.TermTree) → IsSmallTerm t → term_faults s t ≡ [] → IsGoodExpr P live (resolve_term s t)
      good_term (tree.unary u) small e = good_unary u small e
      good_term (tree.times t u) small e = (good_term t small.0 (none_left (term_faults s t) (unary_faults s u) e), good_unary u small.1 (none_right (term_faults s t) (unary_faults s u) e))
      good_term (tree.over t u) small e = (good_term t small.0 (none_left (term_faults s t) (unary_faults s u) e), good_unary u small.1 (none_right (term_faults s t) (unary_faults s u) e))
      good_term (tree.modulo t u) small e = (good_term t small.0 (none_left (term_faults s t) (unary_faults s u) e), good_unary u small.1 (none_right (term_faults s t) (unary_faults s u) e))

      pub good_expr : (x : tree.ExprTree) → IsSmallExpr x → expr_faults s x ≡ [] → IsGoodExpr P live (resolve_expr s x)
      good_expr (tree.term t) small e = good_term t small e
      good_expr (tree.plus x t) small e = (good_expr x small.0 (none_left (expr_faults s x) (term_faults s t) e), good_term t small.1 (none_right (expr_faults s x) (term_faults s t) e))
      good_expr (tree.minus x t) small e = (good_expr x small.0 (none_left (expr_faults s x) (term_faults s t) e), good_term t small.1 (none_right (expr_faults s x) (term_faults s t) e))

    -- what comes after a chain
    abbrev IsGoodRest : Option Cond → Type 0
    IsGoodRest None = ⊤
    IsGoodRest (Some d) = IsGoodCond P live d

    mutual
      good_negation : (n : tree.NegationTree) → IsSmallNegation n → negation_faults s n ≡ [] → IsGoodCond P live (resolve_negation s n)
      good_negation (tree.opposite_again n) small e = good_negation n small e
      good_negation (tree.value_of_unary u) small e = good_unary u small e
      good_negation (tree.group_opposed c) small e = good_any c None tt small e

      good_test : (t : tree.TestTree) → IsSmallTest t → test_faults s t ≡ [] → IsGoodCond P live (resolve_test s t)
      good_test (tree.opposite n) small e = good_negation n small e
      good_test (tree.value x) small e = good_expr x small e
      good_test (tree.compare a op b) small e = (good_expr a small.0 (none_left (expr_faults s a) (expr_faults s b) e), good_expr b small.1 (none_right (expr_faults s a) (expr_faults s b) e))
      good_test (tree.group_of c) small e = good_any c None tt small e

      good_all : (c : tree.ConjunctionTree) (d : Option Cond) → IsGoodRest d → IsSmallConjunction c → conjunction_faults s c ≡ [] → IsGoodCond P live (resolve_all_of s c d)
      good_all (tree.test t) None rest small e = good_test t small e
      good_all (tree.test t) (Some d) rest small e = (good_test t small e, rest)
      good_all (tree.and c t) None rest small e =
          good_all c (Some (resolve_test s t)) (good_test t small.1 (none_right (conjunction_faults s c) (test_faults s t) e)) small.0 (none_left (conjunction_faults s c) (test_faults s t) e)
      good_all (tree.and c t) (Some d) rest small e =
          good_all c _ (good_test t small.1 (none_right (conjunction_faults s c) (test_faults s t) e), rest) small.0 (none_left (conjunction_faults s c) (test_faults s t) e)

      good_any : (c : tree.CondTree) (d : Option Cond) → IsGoodRest d → IsSmallCond c → cond_faults s c ≡ [] → IsGoodCond P live (resolve_any_of s c d)
      good_any (tree.conjunction c) None rest small e = good_all c None tt small e
      good_any (tree.conjunction c) (Some d) rest small e = (good_all c None tt small e, rest)
      good_any (tree.or c a) None rest small e =
          good_any c (Some (resolve_all_of s a None)) (good_all a None tt small.1 (none_right (cond_faults s c) (conjunction_faults s a) e)) small.0
          (none_left (cond_faults s c) (conjunction_faults s a) e)
      good_any (tree.or c a) (Some d) rest small e =
          good_any c _ (good_all a None tt small.1 (none_right (cond_faults s c) (conjunction_faults s a) e), rest) small.0 (none_left (cond_faults s c) (conjunction_faults s a) e)

    pub good_cond : (c : tree.CondTree) → IsSmallCond c → cond_faults s c ≡ [] → IsGoodCond P live (resolve_cond s c)
    good_cond c small e = good_any c None tt small e

    good_arguments : (es : List tree.ExprTree) → AllByRecursion IsSmallExpr es → flat_map (expr_faults s) es ≡ [] → AllByRecursion (IsGoodExpr P live) (map (resolve_expr s) es)
    good_arguments [] small e = tt
    good_arguments (x ∷ es) small e = (
      good_expr x small.0 (none_left (expr_faults s x) (flat_map (expr_faults s) es) e),
      good_arguments es small.1 (none_right (expr_faults s x) (flat_map (expr_faults s) es) e),
    )

  -- the called functions of the source are those of the program
  abbrev pub AreCallees : List tree.FunctionTree → Type 0
  AreCallees F = (name : List ℕ) (f : tree.FunctionTree) → function_named F name ≡ Some f → (g : Function) × (slice_get P.functions (function_place F name) ≡ Some g) ×
      (length g.parameters ≡ length f.parameters)

  module _ (F : List tree.FunctionTree) (callees : AreCallees F) where
    good_call : (at live : ℕ) (s : Scope) (c : tree.CallTree) (used : Bool) → Sees P live s → IsSmallCall c → call_faults F s c used ≡ [] → IsGoodCall P at live (resolve_call F s at c)
    good_call at live s c used sees small e =
        let front = called_faults (function_named F c.name.word) c.name (length c.arguments) used in
        let back = flat_map (expr_faults s) c.arguments in
        let called = called_is (function_named F c.name.word) c.name (length c.arguments) used (none_left front back e) in
        let callee = callees c.name.word called.0 called.1 in
        record {
          label = refl;
          callee = callee.0;
          is_callee = callee.1;
          width = length-map c.arguments (resolve_expr s) ∙ sym called.2 ∙ sym callee.2;
          arguments = good_arguments live s sees c.arguments small (none_right front back e);
        }

    good_rvalue : (at live : ℕ) (s : Scope) (x : tree.RvalueTree) → Sees P live s → IsSmallRvalue x → rvalue_faults F s x ≡ [] → IsGoodRvalue P at live (resolve_rvalue F s at x)
    good_rvalue at live s (tree.expression x) sees small e = good_expr live s sees x small e
    good_rvalue at live s (tree.result c) sees small e = good_call at live s c true sees small e

    good_given : (at live : ℕ) (s : Scope) (x : Option tree.RvalueTree) → Sees P live s → IsSmallGiven x → given_faults F s x ≡ [] → IsGoodGiven P at live (resolve_given F s at x)
    good_given at live s None sees small e = tt
    good_given at live s (Some x) sees small e = good_rvalue at live s x sees small e

    good_assign : (b : Jumps) (at live : ℕ) (s : Scope) (a : tree.AssignTree) → Sees P live s → IsSmallAssign a → assign_faults F s a ≡ [] → IsGoodStmt P b live (resolve_assign F s at a)
    good_assign b at live s (tree.set x e) sees small none =
        (variable_lives P live s x sees (none_left (use_faults s x) (rvalue_faults F s e) none), good_rvalue at live s e sees small (none_right (use_faults s x) (rvalue_faults F s e) none))
    good_assign b at live s (tree.set_element x i e) sees small none =
        let front = none_left (named_faults s x ++ expr_faults s i) (rvalue_faults F s e) none in (
          good_expr live s sees i small.0 (none_right (named_faults s x) (expr_faults s i) front),
          good_rvalue at live s e sees small.1 (none_right (named_faults s x ++ expr_faults s i) (rvalue_faults F s e) none),
        )
    good_assign b at live s (tree.update x op e) sees small none =
        let lives = variable_lives P live s x sees (none_left (use_faults s x) (expr_faults s e) none) in
        (lives, (lives, good_expr live s sees e small (none_right (use_faults s x) (expr_faults s e) none)))
    good_assign b at live s (tree.after x step) sees small none = let lives = variable_lives P live s x sees none in (lives, (lives, refl))
    good_assign b at live s (tree.before p step x) sees small none = let lives = variable_lives P live s x sees none in (lives, (lives, refl))

    good_declared : (b : Jumps) (n live : ℕ) (s : Scope) (t : NumberType) (x : Identifier) (shape : tree.ScalarOrArrayTree tree.RvalueTree) (items : BlockItems)
        → Sees P (wider (binding_of t x shape) live) s → IsSmallShape shape → shape_faults (given_faults F s) shape ≡ []
        → AreGoodItems P b (wider (binding_of t x shape) live) items → AreGoodItems P b live (resolve_declared F s n t x shape items)
    good_declared b n live s t x (tree.scalar e) items sees small none good = (good_given n (suc live) s e sees small none, good)
    good_declared b n live s t x (tree.array c) items sees small none good = good

    -- declarators, and the items after them
    good_declarators : (b : Jumps) (n live : ℕ) (s : Scope) (t : NumberType) (ds : List tree.DeclaratorTree) (rest : BlockItems) → Sees P live s → AllByRecursion IsSmallDeclarator ds
        → declarators_faults F s t ds ≡ []
        → ((more : ℕ) → Sees P more (with_declarators s t ds) → AreGoodItems P b more rest) → AreGoodItems P b live (resolve_declarators F s n t ds rest)
    good_declarators b n live s t [] rest sees small e good = good live sees
    good_declarators b n live s t (d ∷ ds) rest sees small e good =
        let u = with_local s (declarator_entry t d) in
        let after = sees_local P live s (declarator_entry t d) sees in
        let more = wider (binding_of t d.name d.shape) live in
        let front = none_left _ (declarators_faults F u t ds) e in
        good_declared b n live u t d.name d.shape (resolve_declarators F u (suc n) t ds rest) after small.0
        (none_right _ (shape_faults (given_faults F u) d.shape) front)
        (good_declarators b (suc n) more u t ds rest after small.1 (none_right _ (declarators_faults F u t ds) e) good)

    sees_declarators : (n live : ℕ) (s : Scope) (t : NumberType) (ds : List tree.DeclaratorTree) → Sees P live s
        → Sees P (live_after_items live (resolve_declarators F s n t ds no_more)) (with_declarators s t ds)
    sees_declarators n live s t [] sees = sees
    sees_declarators n live s t (d ∷ ds) sees =
        let u = with_local s (declarator_entry t d) in
        let more = wider (binding_of t d.name d.shape) live in
        subst (λ (i : ℕ). Sees P i (with_declarators u t ds)) (sym (behind_declared F n live u t d.name d.shape (resolve_declarators F u (suc n) t ds no_more)))
        (sees_declarators (suc n) more u t ds (sees_local P live s (declarator_entry t d) sees))

    -- how a `for` begins
    good_init : (n live : ℕ) (s : Scope) (i : tree.InitTree) → Sees P live s → IsSmallInit i → init_faults F s i ≡ [] → AreGoodItems P no_jumps live (resolve_init F s n i)
    good_init n live s tree.no_init sees small e = tt
    good_init n live s (tree.declared d) sees small e = good_declarators no_jumps n live (inner s) d.number_type (d.first ∷ d.rest) no_more (sees_inner P live s sees) small e (λ more h. tt)
    good_init n live s (tree.assigned a) sees small e = (good_assign no_jumps n live s a sees small e, tt)

    sees_for : (n live : ℕ) (s : Scope) (i : tree.InitTree) → Sees P live s → Sees P (live_after_items live (resolve_init F s n i)) (for_scope s i)
    sees_for n live s tree.no_init sees = sees_inner P live s sees
    sees_for n live s (tree.declared d) sees = sees_declarators n live (inner s) d.number_type (d.first ∷ d.rest) (sees_inner P live s sees)
    sees_for n live s (tree.assigned a) sees = sees_inner P live s sees

    good_for_test : (live : ℕ) (s : Scope) (c : Option tree.CondTree) → Sees P live s → IsSmallForTest c → test_of_for_faults s c ≡ [] → IsGoodCond P live (resolve_for_test s c)
    good_for_test live s None sees small e = refl
    good_for_test live s (Some c) sees small e = good_cond live s sees c small e

    good_step : (n live : ℕ) (s : Scope) (a : Option tree.AssignTree) → Sees P live s → IsSmallStep a → step_faults F s a ≡ [] → IsGoodStmt P no_jumps live (resolve_step F s n a)
    good_step n live s None sees small e = tt
    good_step n live s (Some a) sees small e = good_assign no_jumps n live s a sees small e

    abbrev around : Bool → Jumps → Around
    around r b = record { functions = F; has_result = r; jumps = b }

    good_return : (r : Bool) (b : Jumps) (n live : ℕ) (s : Scope) (at : Place) (x : Option tree.RvalueTree) → Sees P live s → IsSmallGiven x → return_faults (around r b) s at x ≡ [] →
        IsGoodGiven P n live (resolve_given F s n x)
    good_return r b n live s at None sees small e = tt
    good_return r b n live s at (Some x) sees small e = good_rvalue n live s x sees small (none_right _ (rvalue_faults F s x) e)

    mutual
      good_stmt : (r : Bool) (b : Jumps) (n live : ℕ) (s : Scope) (t : tree.StmtTree) → Sees P live s → IsSmallStmt t → stmt_faults (around r b) s t ≡ [] → IsGoodStmt P b live (resolve_stmt F s n t)
      good_stmt r b n live s (tree.block items end) sees small e = good_items r b n live (inner s) items (sees_inner P live s sees) small e
      good_stmt r b n live s (tree.nothing at) sees small e = tt
      good_stmt r b n live s (tree.assign a) sees small e = good_assign b n live s a sees small e
      good_stmt r b n live s (tree.call c) sees small e = good_call n live s c false sees small e
      good_stmt r b n live s (tree.if_only at c t) sees small e =
          let faults = stmt_faults (around r b) s t in
          (good_cond live s sees c small.0 (none_left (cond_faults s c) faults e), good_stmt r b (suc n) live s t sees small.1 (none_right (cond_faults s c) faults e), tt)
      good_stmt r b n live s (tree.if_else at c t u) sees small e =
          let front = none_left (cond_faults s c ++ stmt_faults (around r b) s t) (stmt_faults (around r b) s u) e in (
            good_cond live s sees c small.0 (none_left (cond_faults s c) (stmt_faults (around r b) s t) front),
            good_stmt r b (suc n) live s t sees small.1 (none_right (cond_faults s c) (stmt_faults (around r b) s t) front),
            good_stmt r b (suc n + stmt_count t) live s u sees small.2 (none_right (cond_faults s c ++ stmt_faults (around r b) s t) (stmt_faults (around r b) s u) e),
          )
      good_stmt r b n live s (tree.while at c t) sees small e =
          let faults = stmt_faults (around r in_loop) s t in
          (good_cond live s sees c small.0 (none_left (cond_faults s c) faults e), good_stmt r in_loop (suc n) live s t sees small.1 (none_right (cond_faults s c) faults e), tt)
      good_stmt r b n live s (tree.for at i c a t) sees small e =
          let u = for_scope s i in
          let m = suc n + init_count i in
          let more = live_after_items live (resolve_init F s (suc n) i) in
          let after = sees_for (suc n) live s i sees in
          let body = stmt_faults (around r in_loop) u t in
          let to_step = none_left _ body e in
          let to_test = none_left _ (step_faults F u a) to_step in (
            good_init (suc n) live s i sees small.0 (none_left (init_faults F s i) (test_of_for_faults u c) to_test),
            good_for_test more u c after small.1 (none_right (init_faults F s i) (test_of_for_faults u c) to_test),
            good_stmt r in_loop (m + step_count a) more u t after small.3 (none_right _ body e),
            good_step m more u a after small.2 (none_right _ (step_faults F u a) to_step),
          )
      good_stmt r b n live s (tree.break at) sees small e = not-false b.breaks (none_if (not b.breaks) _ at e)
      good_stmt r b n live s (tree.continue at) sees small e = not-false b.continues (none_if (not b.continues) _ at e)
      good_stmt r b n live s (tree.return at x) sees small e = good_return r b n live s at x sees small e
      good_stmt r b n live s (tree.assert at c) sees small e = good_cond live s sees c small e
      good_stmt r b n live s (tree.assume at c) sees small e = good_cond live s sees c small e
      good_stmt r b n live s (tree.switch at v cs) sees small e =
          let faults = cases_faults (around r (in_switch b)) s [] cs in
          (good_expr live s sees v small.0 (none_left (expr_faults s v) faults e), good_cases r (in_switch b) (suc n) live s [] cs sees small.1 (none_right (expr_faults s v) faults e))

      good_cases : (r : Bool) (b : Jumps) (n live : ℕ) (s : Scope) (earlier : List CaseLabel) (cs : tree.CasesTree) → Sees P live s → AreSmallCases cs → cases_faults (around r b) s earlier cs ≡ [] →
          AreGoodCases P b live (resolve_cases F s n cs)
      good_cases r b n live s earlier tree.no_cases sees small e = tt
      good_cases r b n live s earlier (tree.labelled l cs) sees small e =
          good_cases r b n live s (l.label ∷ earlier) cs sees small (none_right _ (cases_faults (around r b) s (l.label ∷ earlier) cs) e)
      good_cases r b n live s earlier (tree.stated t cs) sees small e =
          let faults = cases_faults (around r b) s earlier cs in (
            good_stmt r b n live s t sees small.0 (none_left (stmt_faults (around r b) s t) faults e),
            good_cases r b (n + stmt_count t) live s earlier cs sees small.1 (none_right (stmt_faults (around r b) s t) faults e),
          )

      pub good_items : (r : Bool) (b : Jumps) (n live : ℕ) (s : Scope) (items : tree.ItemsTree) → Sees P live s → AreSmallItems items → items_faults (around r b) s items ≡ [] →
          AreGoodItems P b live (resolve_items F s n items)
      good_items r b n live s tree.no_items sees small e = tt
      good_items r b n live s (tree.declaration d items) sees small e =
          let t = with_declarators s d.number_type (d.first ∷ d.rest) in
          let faults = items_faults (around r b) t items in
          good_declarators b n live s d.number_type (d.first ∷ d.rest) (resolve_items F t (n + declarator_count d) items) sees small.0
          (none_left (declarators_faults F s d.number_type (d.first ∷ d.rest)) faults e)
          (λ more h. good_items r b (n + declarator_count d) more t items h small.1 (none_right (declarators_faults F s d.number_type (d.first ∷ d.rest)) faults e))
      good_items r b n live s (tree.statement t items) sees small e =
          let faults = items_faults (around r b) s items in (
            good_stmt r b n live s t sees small.0 (none_left (stmt_faults (around r b) s t) faults e),
            good_items r b (n + stmt_count t) live s items sees small.1 (none_right (stmt_faults (around r b) s t) faults e),
          )
