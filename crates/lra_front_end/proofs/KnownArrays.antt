-- The arrays that a source without faults of names names are there.
use Rattle.std.proofs.Common.{◌≡◌, ℕ, suc, ◌+◌, List, [], ◌∷◌, ◌++◌, map, Option, Some, None, Bool, true, false, not, is_some, refl, sym, subst, arith}
use Rattle.std.proofs.lemmas.List.Elements.{Contains-append_left, Contains-append_right}
use Rattle.std.specs.{List.AllByRecursion, List.Contains, List.flat_map, Prelude.⊤}
use Rattle.lra_base.specs.{declared.case_labels.CaseLabel.CaseLabel, declared.number_types.NumberType.NumberType, declared.refusals.Cause.TheVariants.NotArray, declared.refusals.Place.Place}
use Rattle.lra_front_end.specs.Crates.lra_program.WellFormed.{Jumps, no_jumps, in_loop, in_switch}
use Rattle.lra_front_end.specs.Crates.lra_resolution_spec.NameFaults.{fault_if, array_faults, use_faults, named_faults, unary_faults, term_faults, expr_faults, negation_faults, test_faults}
use Rattle.lra_front_end.specs.Crates.lra_resolution_spec.NameFaults.{conjunction_faults, cond_faults, called_faults, call_faults, rvalue_faults, assign_faults, given_faults, shape_faults}
use Rattle.lra_front_end.specs.Crates.lra_resolution_spec.NameFaults.{declarators_faults, init_faults, test_of_for_faults, step_faults, Around, return_faults, stmt_faults, cases_faults, items_faults}
use Rattle.lra_front_end.specs.Crates.lra_resolution_spec.NameFaults.{parameters_faults, function_faults, globals_faults, global_names, parts_faults, name_faults}
use Rattle.lra_front_end.specs.Crates.lra_resolution_spec.Resolve.{array_in, array_or, array_named, no_array, resolve_unary, resolve_term, resolve_expr, resolve_negation, resolve_test, resolve_all_of}
use Rattle.lra_front_end.specs.Crates.lra_resolution_spec.Resolve.{resolve_any_of, resolve_cond, resolve_call, resolve_rvalue, resolve_given, resolve_assign, resolve_declared, resolve_declarators}
use Rattle.lra_front_end.specs.Crates.lra_resolution_spec.Resolve.{resolve_init, resolve_for_test, resolve_step, init_count, step_count, stmt_count, items_count, declarator_count, resolve_stmt}
use Rattle.lra_front_end.specs.Crates.lra_resolution_spec.Resolve.{resolve_cases, resolve_items, arrays_by, arrays_in, resolve_parts, resolve}
use Rattle.lra_front_end.specs.Crates.lra_resolution_spec.Scope.{Binding, scalar, array, SymbolEntry, Scope, Lookup, found_of, is_array, array_of, binding_of, with_local, declarator_entry}
use Rattle.lra_front_end.specs.Crates.lra_resolution_spec.Scope.{parameter_entry, global_entry, global_entries, with_declarators, inner, for_scope, function_scope}
use Rattle.lra_front_end.specs.Crates.{lra_program.Program.Cond, lra_program.Program.BlockItems, lra_program.Program.no_more, lra_program.Program.Function, lra_program.declared.arrays.Array.Array}
use Rattle.lra_front_end.specs.Crates.{lra_resolution_spec.Threads.thread_faults, lra_resolution_spec.Threads.thread_program, lra_syntax.Functions.functions_of, lra_syntax.Functions.function_named}
use Rattle.lra_front_end.specs.Crates.{lra_syntax.declared.trees.Identifier.Identifier, lra_syntax.declared.trees.Parameter.Parameter, lra_syntax.declared.trees.SignedLiteral.SignedLiteral}
use Rattle.lra_front_end.specs.Crates.lra_syntax.Trees as tree
use Rattle.lra_front_end.specs.Known.{Knows, CondKnows, CallKnows, RvalueKnows, GivenKnows, known_behind, StmtKnows, CasesKnow, ItemsKnow, HasArrays}
use Rattle.lra_front_end.proofs.Faultless.{none_left, none_right, none_both, at_place, Each, each_found}

-- scopes -----------------------------------------------------------------------------------------------------------

abbrev IsKnown : List Array → Binding → Type 0
IsKnown known (scalar t) = ⊤
IsKnown known (array a) = Contains known a

abbrev AreKnown : List Array → List SymbolEntry → Type 0
AreKnown known es = AllByRecursion (λ (e : SymbolEntry). IsKnown known e.binding) es

-- the arrays that can be named are known
record Shows (known : List Array) (s : Scope) : Type 0 where
  globals : AreKnown known s.globals
  locals : AreKnown known s.locals

last_one : (known : List Array) (a : Array) → Contains (known ++ a ∷ []) a
last_one known a = Contains-append_right known (a ∷ []) a (0, omega arith, refl)

abbrev known_with : Binding → List Array → List Array
known_with (scalar t) known = known
known_with (array a) known = known ++ a ∷ []

still_known : (known more : List Array) (m : Binding) → IsKnown known m → IsKnown (known ++ more) m
still_known known more (scalar t) h = tt
still_known known more (array a) h = Contains-append_left known more a h

all_still : (known more : List Array) (es : List SymbolEntry) → AreKnown known es → AreKnown (known ++ more) es
all_still known more [] h = tt
all_still known more (e ∷ es) h = (still_known known more e.binding h.0, all_still known more es h.1)

all_both : (known : List Array) (es fs : List SymbolEntry) → AreKnown known es → AreKnown known fs → AreKnown known (es ++ fs)
all_both known [] fs h more = more
all_both known (e ∷ es) fs h more = (h.0, all_both known es fs h.1 more)

shows_local : (known : List Array) (s : Scope) (name : List ℕ) (m : Binding) → Shows known s
    → Shows (known_with m known) (with_local s (record { name = name; binding = m }))
shows_local known s name (scalar t) h = record { globals = h.globals; locals = all_both known s.locals _ h.locals (tt, tt) }
shows_local known s name (array a) h = record {
  globals = all_still known (a ∷ []) s.globals h.globals;
  locals = all_both (known ++ a ∷ []) s.locals _ (all_still known (a ∷ []) s.locals h.locals) (last_one known a, tt);
}

shows_inner : (known : List Array) (s : Scope) → Shows known s → Shows known (inner s)
shows_inner known s h = record { globals = h.globals; locals = h.locals }

-- names ------------------------------------------------------------------------------------------------------------

abbrev KnownFound : List Array → Lookup → Type 0
KnownFound known f = IsKnown known f.binding

meaning_known : (known : List Array) (m : Binding) (none : Array) (at : Place) → IsKnown known m
    → fault_if (not (is_array m)) NotArray at ≡ [] → Contains known (array_in none m)
meaning_known known (scalar t) none at h e = absurd cc
meaning_known known (array a) none at h e = h

found_known : (known : List Array) (o : Option Lookup) (none : Array) (at : Place) → Each (KnownFound known) o
    → array_faults o at ≡ [] → Contains known (array_or none o)
found_known known None none at each e = absurd cc
found_known known (Some f) none at each e = meaning_known known f.binding none at (each f refl) e

named_known : (known : List Array) (s : Scope) (x : Identifier) → Shows known s → named_faults s x ≡ [] → Contains known (array_named s x)
named_known known s x h e =
    found_known known (found_of s x.word) (no_array x) x.place
    (each_found (KnownFound known) s x.word (λ k y at. at_place (λ (e : SymbolEntry). IsKnown known e.binding) s.locals k y h.locals at)
    (λ k y at. at_place (λ (e : SymbolEntry). IsKnown known e.binding) s.globals k y h.globals at)) e

-- expressions and conditions ---------------------------------------------------------------------------------------

module _ (known : List Array) (s : Scope) (shows : Shows known s) where
  mutual
    unary_knows : (u : tree.UnaryTree) → unary_faults s u ≡ [] → Knows known (resolve_unary s u)
    unary_knows (tree.negated u) e = unary_knows u e
    unary_knows (tree.positive u) e = unary_knows u e
    unary_knows (tree.literal t n) e = tt
    unary_knows (tree.variable x) e = tt
    unary_knows tree.input e = tt
    unary_knows (tree.group x) e = expr_knows x e
    unary_knows (tree.element x i) e = let (a, b) = none_both _ _ e in (named_known known s x shows a, expr_knows i b)

    term_knows : (t : tree.TermTree) → term_faults s t ≡ [] → Knows known (resolve_term s t)
    term_knows (tree.unary u) e = unary_knows u e
    term_knows (tree.times t u) e = let (a, b) = none_both _ _ e in (term_knows t a, unary_knows u b)
    term_knows (tree.over t u) e = let (a, b) = none_both _ _ e in (term_knows t a, unary_knows u b)
    term_knows (tree.modulo t u) e = let (a, b) = none_both _ _ e in (term_knows t a, unary_knows u b)

    expr_knows : (x : tree.ExprTree) → expr_faults s x ≡ [] → Knows known (resolve_expr s x)
    expr_knows (tree.term t) e = term_knows t e
    expr_knows (tree.plus x t) e = let (a, b) = none_both _ _ e in (expr_knows x a, term_knows t b)
    expr_knows (tree.minus x t) e = let (a, b) = none_both _ _ e in (expr_knows x a, term_knows t b)

  -- what comes after a chain
  abbrev RestKnows : Option Cond → Type 0
  RestKnows None = ⊤
  RestKnows (Some d) = CondKnows known d

  mutual
    negation_knows : (n : tree.NegationTree) → negation_faults s n ≡ [] → CondKnows known (resolve_negation s n)
    negation_knows (tree.opposite_again n) e = negation_knows n e
    negation_knows (tree.value_of_unary u) e = unary_knows u e
    negation_knows (tree.group_opposed c) e = any_knows c None tt e

    test_knows : (t : tree.TestTree) → test_faults s t ≡ [] → CondKnows known (resolve_test s t)
    test_knows (tree.opposite n) e = negation_knows n e
    test_knows (tree.value x) e = expr_knows x e
    test_knows (tree.compare x op y) e = let (a, b) = none_both _ _ e in (expr_knows x a, expr_knows y b)
    test_knows (tree.group_of c) e = any_knows c None tt e

    all_know : (c : tree.ConjunctionTree) (d : Option Cond) → RestKnows d → conjunction_faults s c ≡ [] → CondKnows known (resolve_all_of s c d)
    all_know (tree.test t) None rest e = test_knows t e
    all_know (tree.test t) (Some d) rest e = (test_knows t e, rest)
    all_know (tree.and c t) None rest e = let (a, b) = none_both _ _ e in all_know c (Some (resolve_test s t)) (test_knows t b) a
    all_know (tree.and c t) (Some d) rest e = let (a, b) = none_both _ _ e in all_know c _ (test_knows t b, rest) a

    any_knows : (c : tree.CondTree) (d : Option Cond) → RestKnows d → cond_faults s c ≡ [] → CondKnows known (resolve_any_of s c d)
    any_knows (tree.conjunction c) None rest e = all_know c None tt e
    any_knows (tree.conjunction c) (Some d) rest e = (all_know c None tt e, rest)
    any_knows (tree.or c d) None rest e = let (a, b) = none_both _ _ e in any_knows c (Some (resolve_all_of s d None)) (all_know d None tt b) a
    any_knows (tree.or c d) (Some x) rest e = let (a, b) = none_both _ _ e in any_knows c _ (all_know d None tt b, rest) a

  cond_knows : (c : tree.CondTree) → cond_faults s c ≡ [] → CondKnows known (resolve_cond s c)
  cond_knows c e = any_knows c None tt e

  arguments_know : (es : List tree.ExprTree) → flat_map (expr_faults s) es ≡ [] → AllByRecursion (Knows known) (map (resolve_expr s) es)
  arguments_know [] e = tt
  arguments_know (x ∷ es) e = let (a, b) = none_both _ _ e in (expr_knows x a, arguments_know es b)

  for_test_knows : (c : Option tree.CondTree) → test_of_for_faults s c ≡ [] → CondKnows known (resolve_for_test s c)
  for_test_knows None e = tt
  for_test_knows (Some c) e = cond_knows c e

-- calls, assignments, declarations ---------------------------------------------------------------------------------

module _ (F : List tree.FunctionTree) where
  module _ (known : List Array) (s : Scope) (shows : Shows known s) (at : ℕ) where
    call_knows : (c : tree.CallTree) (used : Bool) → call_faults F s c used ≡ [] → CallKnows known (resolve_call F s at c)
    call_knows c used e = arguments_know known s shows c.arguments (none_right (called_faults (function_named F c.name.word) c.name _ used) _ e)

    rvalue_knows : (x : tree.RvalueTree) → rvalue_faults F s x ≡ [] → RvalueKnows known (resolve_rvalue F s at x)
    rvalue_knows (tree.expression x) e = expr_knows known s shows x e
    rvalue_knows (tree.result c) e = call_knows c true e

    given_knows : (x : Option tree.RvalueTree) → given_faults F s x ≡ [] → GivenKnows known (resolve_given F s at x)
    given_knows None e = tt
    given_knows (Some x) e = rvalue_knows x e

    assign_knows : (a : tree.AssignTree) → assign_faults F s a ≡ [] → StmtKnows known (resolve_assign F s at a)
    assign_knows (tree.set x e) none = rvalue_knows e (none_right (use_faults s x) (rvalue_faults F s e) none)
    assign_knows (tree.set_element x i e) none =
        let (front, a) = none_both _ _ none in
        let (b, c) = none_both _ _ front in (named_known known s x shows b, expr_knows known s shows i c, rvalue_knows e a)
    assign_knows (tree.update x op e) none = (tt, expr_knows known s shows e (none_right (use_faults s x) (expr_faults s e) none))
    assign_knows (tree.after x step) none = (tt, tt)
    assign_knows (tree.before p step x) none = (tt, tt)

    step_knows : (a : Option tree.AssignTree) → step_faults F s a ≡ [] → StmtKnows known (resolve_step F s at a)
    step_knows None e = tt
    step_knows (Some a) e = assign_knows a e

  declared_know : (known : List Array) (n : ℕ) (s : Scope) (t : NumberType) (x : Identifier) (shape : tree.ScalarOrArrayTree tree.RvalueTree)
      (items : BlockItems)
      → Shows (known_with (binding_of t x shape) known) s → shape_faults (given_faults F s) shape ≡ []
      → ItemsKnow (known_with (binding_of t x shape) known) items → ItemsKnow known (resolve_declared F s n t x shape items)
  declared_know known n s t x (tree.scalar e) items shows none rest = (given_knows known s shows n e none, rest)
  declared_know known n s t x (tree.array c) items shows none rest = rest

  behind_declared : (known : List Array) (n : ℕ) (s : Scope) (t : NumberType) (x : Identifier) (shape : tree.ScalarOrArrayTree tree.RvalueTree)
      (items : BlockItems)
      → known_behind known (resolve_declared F s n t x shape items) ≡ known_behind (known_with (binding_of t x shape) known) items
  behind_declared known n s t x (tree.scalar e) items = refl
  behind_declared known n s t x (tree.array c) items = refl

  -- declarators, and the items after them
  declarators_know : (known : List Array) (n : ℕ) (s : Scope) (t : NumberType) (ds : List tree.DeclaratorTree) (rest : BlockItems) → Shows known s
      → declarators_faults F s t ds ≡ [] → ((more : List Array) → Shows more (with_declarators s t ds) → ItemsKnow more rest)
      → ItemsKnow known (resolve_declarators F s n t ds rest)
  declarators_know known n s t [] rest shows e behind = behind known shows
  declarators_know known n s t (d ∷ ds) rest shows e behind =
      let u = with_local s (declarator_entry t d) in
      let m = binding_of t d.name d.shape in
      let after = shows_local known s d.name.word m shows in
      let front = none_left _ (declarators_faults F u t ds) e in
      declared_know known n u t d.name d.shape (resolve_declarators F u (suc n) t ds rest) after (none_right _ (shape_faults (given_faults F u) d.shape) front)
      (declarators_know (known_with m known) (suc n) u t ds rest after (none_right _ (declarators_faults F u t ds) e) behind)

  shows_declarators : (known : List Array) (n : ℕ) (s : Scope) (t : NumberType) (ds : List tree.DeclaratorTree) → Shows known s
      → Shows (known_behind known (resolve_declarators F s n t ds no_more)) (with_declarators s t ds)
  shows_declarators known n s t [] shows = shows
  shows_declarators known n s t (d ∷ ds) shows =
      let u = with_local s (declarator_entry t d) in
      let m = binding_of t d.name d.shape in
      subst (λ (ks : List Array). Shows ks (with_declarators u t ds))
      (sym (behind_declared known n u t d.name d.shape (resolve_declarators F u (suc n) t ds no_more)))
      (shows_declarators (known_with m known) (suc n) u t ds (shows_local known s d.name.word m shows))

  -- how a `for` begins
  init_knows : (known : List Array) (n : ℕ) (s : Scope) (i : tree.InitTree) → Shows known s → init_faults F s i ≡ [] → ItemsKnow known (resolve_init F s n i)
  init_knows known n s tree.no_init shows e = tt
  init_knows known n s (tree.declared d) shows e =
      declarators_know known n (inner s) d.number_type (d.first ∷ d.rest) no_more (shows_inner known s shows) e (λ more h. tt)
  init_knows known n s (tree.assigned a) shows e = (assign_knows known s shows n a e, tt)

  shows_for : (known : List Array) (n : ℕ) (s : Scope) (i : tree.InitTree) → Shows known s → Shows (known_behind known (resolve_init F s n i)) (for_scope s i)
  shows_for known n s tree.no_init shows = shows_inner known s shows
  shows_for known n s (tree.declared d) shows = shows_declarators known n (inner s) d.number_type (d.first ∷ d.rest) (shows_inner known s shows)
  shows_for known n s (tree.assigned a) shows = shows_inner known s shows

  -- statements -----------------------------------------------------------------------------------------------------

  abbrev around : Bool → Jumps → Around
  around r b = record { functions = F; has_result = r; jumps = b }

  return_knows : (r : Bool) (b : Jumps) (known : List Array) (n : ℕ) (s : Scope) (at : Place) (x : Option tree.RvalueTree) → Shows known s
      → return_faults (around r b) s at x ≡ [] → GivenKnows known (resolve_given F s n x)
  return_knows r b known n s at None shows e = tt
  return_knows r b known n s at (Some x) shows e = rvalue_knows known s shows n x (none_right _ (rvalue_faults F s x) e)

  mutual
    stmt_knows : (r : Bool) (b : Jumps) (known : List Array) (n : ℕ) (s : Scope) (t : tree.StmtTree) → Shows known s → stmt_faults (around r b) s t ≡ []
        → StmtKnows known (resolve_stmt F s n t)
    stmt_knows r b known n s (tree.block items end) shows e = items_know r b known n (inner s) items (shows_inner known s shows) e
    stmt_knows r b known n s (tree.nothing at) shows e = tt
    stmt_knows r b known n s (tree.assign a) shows e = assign_knows known s shows n a e
    stmt_knows r b known n s (tree.call c) shows e = call_knows known s shows n c false e
    stmt_knows r b known n s (tree.if_only at c t) shows e =
        let (x, y) = none_both _ _ e in (cond_knows known s shows c x, stmt_knows r b known (suc n) s t shows y, tt)
    stmt_knows r b known n s (tree.if_else at c t u) shows e =
        let (front, z) = none_both _ _ e in
        let (x, y) = none_both _ _ front in
        (cond_knows known s shows c x, stmt_knows r b known (suc n) s t shows y, stmt_knows r b known (suc n + stmt_count t) s u shows z)
    stmt_knows r b known n s (tree.while at c t) shows e =
        let (x, y) = none_both _ _ e in (cond_knows known s shows c x, stmt_knows r in_loop known (suc n) s t shows y, tt)
    stmt_knows r b known n s (tree.for at i c a t) shows e =
        let u = for_scope s i in
        let m = suc n + init_count i in
        let more = known_behind known (resolve_init F s (suc n) i) in
        let after = shows_for known (suc n) s i shows in
        let (to_step, body) = none_both _ _ e in
        let (to_test, step) = none_both _ _ to_step in
        let (init, tested) = none_both _ _ to_test in (
          init_knows known (suc n) s i shows init,
          for_test_knows more u after c tested,
          stmt_knows r in_loop more (m + step_count a) u t after body,
          step_knows more u after m a step,
        )
    stmt_knows r b known n s (tree.break at) shows e = tt
    stmt_knows r b known n s (tree.continue at) shows e = tt
    stmt_knows r b known n s (tree.return at x) shows e = return_knows r b known n s at x shows e
    stmt_knows r b known n s (tree.assert at c) shows e = cond_knows known s shows c e
    stmt_knows r b known n s (tree.assume at c) shows e = cond_knows known s shows c e
    stmt_knows r b known n s (tree.switch at v cs) shows e =
        let (x, y) = none_both _ _ e in (expr_knows known s shows v x, cases_know r (in_switch b) known (suc n) s [] cs shows y)

    cases_know : (r : Bool) (b : Jumps) (known : List Array) (n : ℕ) (s : Scope) (earlier : List CaseLabel) (cs : tree.CasesTree) → Shows known s
        → cases_faults (around r b) s earlier cs ≡ [] → CasesKnow known (resolve_cases F s n cs)
    cases_know r b known n s earlier tree.no_cases shows e = tt
    cases_know r b known n s earlier (tree.labelled l cs) shows e =
        cases_know r b known n s (l.label ∷ earlier) cs shows (none_right _ (cases_faults (around r b) s (l.label ∷ earlier) cs) e)
    cases_know r b known n s earlier (tree.stated t cs) shows e =
        let (x, y) = none_both _ _ e in (stmt_knows r b known n s t shows x, cases_know r b known (n + stmt_count t) s earlier cs shows y)

    items_know : (r : Bool) (b : Jumps) (known : List Array) (n : ℕ) (s : Scope) (items : tree.ItemsTree) → Shows known s
        → items_faults (around r b) s items ≡ [] → ItemsKnow known (resolve_items F s n items)
    items_know r b known n s tree.no_items shows e = tt
    items_know r b known n s (tree.declaration d items) shows e =
        let ds = d.first ∷ d.rest in
        let t = with_declarators s d.number_type ds in
        let k = n + declarator_count d in
        let (x, y) = none_both _ _ e in
        declarators_know known n s d.number_type ds (resolve_items F t k items) shows x (λ more h. items_know r b more k t items h y)
    items_know r b known n s (tree.statement t items) shows e =
        let (x, y) = none_both _ _ e in (stmt_knows r b known n s t shows x, items_know r b known (n + stmt_count t) s items shows y)

-- the whole --------------------------------------------------------------------------------------------------------

module _ (known : List Array) where
  abbrev Within : List Array → Type 0
  Within more = (a : Array) → Contains more a → Contains known a

  global_known : (t : NumberType) (x : Identifier) (shape : tree.ScalarOrArrayTree SignedLiteral) → Within (arrays_by t x shape) →
      IsKnown known (binding_of t x shape)
  global_known t x (tree.scalar v) within = tt
  global_known t x (tree.array n) within = within (array_of t x n) (last_one [] (array_of t x n))

  globals_known : (t : NumberType) (gs : List tree.GlobalTree) → Within (flat_map (λ (g : tree.GlobalTree). arrays_by t g.name g.shape) gs)
      → AreKnown known (map (global_entry t) gs)
  globals_known t [] within = tt
  globals_known t (g ∷ gs) within =
      let here = arrays_by t g.name g.shape in
      let rest = flat_map (λ (g : tree.GlobalTree). arrays_by t g.name g.shape) gs in (
        global_known t g.name g.shape (λ a h. within a (Contains-append_left here rest a h)),
        globals_known t gs (λ a h. within a (Contains-append_right here rest a h)),
      )

  parameters_known : (ps : List Parameter) → AreKnown known (map parameter_entry ps)
  parameters_known [] = tt
  parameters_known (p ∷ ps) = (tt, parameters_known ps)

  parts_know : (F : List tree.FunctionTree) (n : ℕ) (names : List (List ℕ)) (outside : List SymbolEntry) (ps : List tree.ExternalTree) → AreKnown known outside
      → Within (arrays_in ps) → parts_faults F names outside ps ≡ [] → AllByRecursion (λ (f : Function). ItemsKnow known f.body) (resolve_parts F outside n ps)
  parts_know F n names outside [] shown within e = tt
  parts_know F n names outside (tree.prototype ∷ ps) shown within e = parts_know F n names outside ps shown within e
  parts_know F n names outside (tree.globals g ∷ ps) shown within e =
      let gs = g.first ∷ g.rest in
      let here = flat_map (λ (x : tree.GlobalTree). arrays_by g.number_type x.name x.shape) gs in
      let new = globals_known g.number_type gs (λ a h. within a (Contains-append_left here (arrays_in ps) a h)) in
      parts_know F n (names ++ global_names gs) (outside ++ global_entries g) ps (all_both known outside (global_entries g) shown new)
      (λ a h. within a (Contains-append_right here (arrays_in ps) a h)) (none_right (globals_faults g.number_type names gs) _ e)
  parts_know F n names outside (tree.function f ∷ ps) shown within e =
      let later = parts_faults F (names ++ f.name.word ∷ []) outside ps in
      let own = none_right _ (function_faults F outside f) (none_left _ later e) in (
        items_know F (is_some f.result_type) no_jumps known n (function_scope outside f.parameters) f.body
            (record { globals = shown; locals = parameters_known f.parameters }) (none_right (parameters_faults [] f.parameters) _ own),
        parts_know F (n + suc (items_count f.body)) (names ++ f.name.word ∷ []) outside ps shown within (none_right _ later e),
      )

pub has_arrays : (t : tree.FileTree) → name_faults t ≡ [] → HasArrays (resolve t)
has_arrays t e = parts_know (resolve t).arrays (functions_of t) 1 [] [] t.parts tt (λ a h. h) (none_left (parts_faults (functions_of t) [] [] t.parts) _ e)

-- and so in the program of each thread
pub threads_have_arrays : (t : tree.FileTree) (place : ℕ) → thread_faults t ≡ [] → HasArrays (thread_program t place)
threads_have_arrays t place e =
    parts_know (thread_program t place).arrays (functions_of t) 1 [] [] t.parts tt (λ a h. h) (none_left (parts_faults (functions_of t) [] [] t.parts) _ e)
