-- The labels of what a tree means are numbers one after the other: as many as it has statements, declarators and ends of blocks.
use Rattle.std.proofs.Common.{◌≡◌, ℕ, suc, ◌+◌, List, [], ◌∷◌, ◌++◌, length, Option, Some, None, refl, sym, ap, ◌∙◌, subst, arith, length-append, add-one}
use Rattle.std.specs.List.{range_with_len, flat_map}
use Rattle.lra_base.specs.{declared.number_types.NumberType.NumberType, declared.refusals.Place.Place}
use Rattle.lra_front_end.specs.Crates.lra_syntax.Trees as tree
use Rattle.lra_front_end.specs.Crates.lra_program.Program.{BlockItems, no_more}
use Rattle.lra_front_end.specs.Crates.lra_program.WellFormed.{stmt_numbers, cases_numbers, items_numbers, function_numbers}
use Rattle.lra_front_end.specs.Crates.lra_resolution_spec.Resolve.{resolve_assign, resolve_declarators, resolve_init, resolve_step, init_count, step_count, stmt_count, items_count, declarator_count}
use Rattle.lra_front_end.specs.Crates.lra_resolution_spec.Resolve.{resolve_stmt, resolve_cases, resolve_items, resolve_function, resolve_parts}
use Rattle.lra_front_end.specs.Crates.lra_resolution_spec.Scope.{SymbolEntry, Scope, with_local, declarator_entry, with_declarators, inner, for_scope}
use Rattle.lra_front_end.specs.Crates.lra_syntax.Labels.{init_labels, step_labels, stmt_labels, cases_labels, live_in_for}
use Rattle.lra_front_end.proofs.Crates.lra_resolution_spec.LabelCounts.{count_stmt, count_declarators, count_items, count_step}
use Rattle.lra_front_end.proofs.Declared.{declared_numbers}

-- numbers one after the other ----------------------------------------------------------------------------------------

-- the numbers from the first one on, and the one after them
abbrev pub IsRun : ℕ → List ℕ → ℕ → Type 0
IsRun n [] m = n ≡ m
IsRun n (x ∷ xs) m = (x ≡ n) × IsRun (suc n) xs m

pub run_then : (n k m : ℕ) (xs ys : List ℕ) → IsRun n xs k → IsRun k ys m → IsRun n (xs ++ ys) m
run_then n k m [] ys e h = subst (λ (i : ℕ). IsRun i ys m) (sym e) h
run_then n k m (x ∷ xs) ys r h = (r.0, run_then (suc n) k m xs ys r.1 h)

pub run_to : (n k m : ℕ) (xs : List ℕ) → k ≡ m → IsRun n xs k → IsRun n xs m
run_to n k m xs e r = subst (λ (i : ℕ). IsRun n xs i) e r

run_one : (n : ℕ) → IsRun n (n ∷ []) (suc n)
run_one n = (refl, refl)

pub run_is_range : (n m : ℕ) (xs : List ℕ) → IsRun n xs m → xs ≡ range_with_len n (length xs)
run_is_range n m [] r = refl
run_is_range n m (x ∷ xs) r =
    ap (λ (y : ℕ). y ∷ xs) r.0 ∙ ap (λ (ys : List ℕ). n ∷ ys) (run_is_range (suc n) m xs r.1 ∙ ap (λ (i : ℕ). range_with_len i (length xs)) (sym (add-one n)))

-- where the numbers of the parts end
block_end : (n : ℕ) (items : tree.ItemsTree) (end : Place) → suc (n + items_count items) ≡ n + stmt_count (tree.block items end)
block_end n items end = let e = count_items [] items end in omega arith

branch_end : (n : ℕ) (at : Place) (c : tree.CondTree) (t : tree.StmtTree) → suc n + stmt_count t ≡ n + stmt_count (tree.if_only at c t)
branch_end n at c t = omega arith

else_end : (n : ℕ) (at : Place) (c : tree.CondTree) (t u : tree.StmtTree) → suc n + stmt_count t + stmt_count u ≡ n + stmt_count (tree.if_else at c t u)
else_end n at c t u = let e = length-append (stmt_labels [] t) (stmt_labels [] u) in omega arith

while_end : (n : ℕ) (at : Place) (c : tree.CondTree) (t : tree.StmtTree) → suc n + stmt_count t ≡ n + stmt_count (tree.while at c t)
while_end n at c t = omega arith

for_end : (n : ℕ) (at : Place) (i : tree.InitTree) (c : Option tree.CondTree) (a : Option tree.AssignTree) (t : tree.StmtTree)
    → suc n + init_count i + step_count a + stmt_count t ≡ n + stmt_count (tree.for at i c a t)
for_end n at i c a t =
    let x = length-append (init_labels [] i ++ step_labels (live_in_for [] i) a) (stmt_labels (live_in_for [] i) t) in
    let y = length-append (init_labels [] i) (step_labels (live_in_for [] i) a) in
    let z = count_step (live_in_for [] i) a in
    let w = count_stmt (live_in_for [] i) t in omega arith

one_more : (n : ℕ) → suc n ≡ n + 1
one_more n = omega arith

-- the numbers ------------------------------------------------------------------------------------------------------------

module _ (F : List tree.FunctionTree) where
  assign_run : (n : ℕ) (s : Scope) (a : tree.AssignTree) → IsRun n (stmt_numbers (resolve_assign F s n a)) (suc n)
  assign_run n s (tree.set x e) = run_one n
  assign_run n s (tree.set_element x i e) = run_one n
  assign_run n s (tree.update x op e) = run_one n
  assign_run n s (tree.after x step) = run_one n
  assign_run n s (tree.before at step x) = run_one n

  declarators_run : (n m : ℕ) (s : Scope) (t : NumberType) (ds : List tree.DeclaratorTree) (rest : BlockItems) → IsRun (n + length ds) (items_numbers rest) m →
      IsRun n (items_numbers (resolve_declarators F s n t ds rest)) m
  declarators_run n m s t [] rest r = subst (λ (i : ℕ). IsRun i (items_numbers rest) m) (omega arith) r
  declarators_run n m s t (d ∷ ds) rest r =
      let u = with_local s (declarator_entry t d) in
      subst (λ (ns : List ℕ). IsRun n ns m) (sym (declared_numbers F n u t d.name d.shape (resolve_declarators F u (suc n) t ds rest)))
      (refl, declarators_run (suc n) m u t ds rest (subst (λ (i : ℕ). IsRun i (items_numbers rest) m) (omega arith) r))

  init_run : (n : ℕ) (s : Scope) (i : tree.InitTree) → IsRun n (items_numbers (resolve_init F s n i)) (n + init_count i)
  init_run n s tree.no_init = omega arith
  init_run n s (tree.declared d) =
      let e = count_declarators [] (d.first ∷ d.rest) in declarators_run n (n + init_count (tree.declared d)) (inner s) d.number_type (d.first ∷ d.rest) no_more (omega arith)
  init_run n s (tree.assigned a) = run_then n (suc n) (n + 1) (stmt_numbers (resolve_assign F s n a)) [] (assign_run n s a) (one_more n)

  step_run : (n : ℕ) (s : Scope) (a : Option tree.AssignTree) → IsRun n (stmt_numbers (resolve_step F s n a)) (n + step_count a)
  step_run n s None = omega arith
  step_run n s (Some a) = run_to n (suc n) (n + 1) (stmt_numbers (resolve_assign F s n a)) (one_more n) (assign_run n s a)

  mutual
    stmt_run : (n : ℕ) (s : Scope) (t : tree.StmtTree) → IsRun n (stmt_numbers (resolve_stmt F s n t)) (n + stmt_count t)
    stmt_run n s (tree.block items end) =
        let m = n + items_count items in
        run_then n m (n + stmt_count (tree.block items end)) (items_numbers (resolve_items F (inner s) n items)) (m ∷ []) (items_run n (inner s) items) (refl, block_end n items end)
    stmt_run n s (tree.nothing at) = (refl, one_more n)
    stmt_run n s (tree.assign a) = run_to n (suc n) (n + 1) (stmt_numbers (resolve_assign F s n a)) (one_more n) (assign_run n s a)
    stmt_run n s (tree.call c) = (refl, one_more n)
    stmt_run n s (tree.if_only at c t) =
        let m = suc n + stmt_count t in
        (refl, run_then (suc n) m (n + stmt_count (tree.if_only at c t)) (stmt_numbers (resolve_stmt F s (suc n) t)) [] (stmt_run (suc n) s t) (branch_end n at c t))
    stmt_run n s (tree.if_else at c t u) =
        let m = suc n + stmt_count t in
        let last = n + stmt_count (tree.if_else at c t u) in
        let back = stmt_numbers (resolve_stmt F s m u) in
        (refl, run_then (suc n) m last (stmt_numbers (resolve_stmt F s (suc n) t)) back (stmt_run (suc n) s t) (run_to m (m + stmt_count u) last back (else_end n at c t u) (stmt_run m s u)))
    stmt_run n s (tree.while at c t) = (
      refl,
      run_to (suc n) (suc n + stmt_count t) (n + stmt_count (tree.while at c t)) (stmt_numbers (resolve_stmt F s (suc n) t)) (while_end n at c t)
          (stmt_run (suc n) s t),
    )
    stmt_run n s (tree.for at i c a t) =
        let u = for_scope s i in
        let m = suc n + init_count i in
        let k = m + step_count a in
        let last = n + stmt_count (tree.for at i c a t) in
        let begin = items_numbers (resolve_init F s (suc n) i) in
        let step = stmt_numbers (resolve_step F u m a) in
        let body = stmt_numbers (resolve_stmt F u k t) in (
          refl,
          run_then (suc n) k last (begin ++ step) body (run_then (suc n) m k begin step (init_run (suc n) s i) (step_run m u a))
              (run_to k (k + stmt_count t) last body (for_end n at i c a t) (stmt_run k u t)),
        )
    stmt_run n s (tree.break at) = (refl, one_more n)
    stmt_run n s (tree.continue at) = (refl, one_more n)
    stmt_run n s (tree.return at x) = (refl, one_more n)
    stmt_run n s (tree.assert at c) = (refl, one_more n)
    stmt_run n s (tree.assume at c) = (refl, one_more n)
    stmt_run n s (tree.switch at e cs) = (
      refl,
      run_to (suc n) (suc n + length (cases_labels [] cs)) (n + stmt_count (tree.switch at e cs)) (cases_numbers (resolve_cases F s (suc n) cs)) (omega arith) (cases_run (suc n) s cs),
    )

    cases_run : (n : ℕ) (s : Scope) (cs : tree.CasesTree) → IsRun n (cases_numbers (resolve_cases F s n cs)) (n + length (cases_labels [] cs))
    cases_run n s tree.no_cases = omega arith
    cases_run n s (tree.labelled l cs) = cases_run n s cs
    cases_run n s (tree.stated t cs) =
        let m = n + stmt_count t in
        let last = n + length (cases_labels [] (tree.stated t cs)) in
        let back = cases_numbers (resolve_cases F s m cs) in
        let both = length-append (stmt_labels [] t) (cases_labels [] cs) in
        run_then n m last (stmt_numbers (resolve_stmt F s n t)) back (stmt_run n s t) (run_to m (m + length (cases_labels [] cs)) last back (omega (arith, both)) (cases_run m s cs))

    items_run : (n : ℕ) (s : Scope) (items : tree.ItemsTree) → IsRun n (items_numbers (resolve_items F s n items)) (n + items_count items)
    items_run n s tree.no_items = omega arith
    items_run n s (tree.declaration d items) =
        let t = with_declarators s d.number_type (d.first ∷ d.rest) in
        let m = n + declarator_count d in
        let last = n + items_count (tree.declaration d items) in
        let rest = resolve_items F t m items in
        declarators_run n last s d.number_type (d.first ∷ d.rest) rest (run_to m (m + items_count items) last (items_numbers rest) (omega arith) (items_run m t items))
    items_run n s (tree.statement t items) =
        let m = n + stmt_count t in
        let last = n + items_count (tree.statement t items) in
        let back = items_numbers (resolve_items F s m items) in
        run_then n m last (stmt_numbers (resolve_stmt F s n t)) back (stmt_run n s t) (run_to m (m + items_count items) last back (omega arith) (items_run m s items))

  function_run : (n : ℕ) (outside : List SymbolEntry) (f : tree.FunctionTree) → IsRun n (function_numbers (resolve_function F outside n f)) (n + suc (items_count f.body))
  function_run n outside f =
      let m = n + items_count f.body in
      run_then n m (n + suc (items_count f.body)) (items_numbers (resolve_function F outside n f).body) (m ∷ []) (items_run n _ f.body) (refl, omega arith)

  -- the labels of a source's functions
  pub parts_run : (n : ℕ) (outside : List SymbolEntry) (ps : List tree.ExternalTree) →
      (m : ℕ) × IsRun n (flat_map function_numbers (resolve_parts F outside n ps)) m
  parts_run n outside [] = (n, refl)
  parts_run n outside (tree.prototype ∷ ps) = parts_run n outside ps
  parts_run n outside (tree.globals g ∷ ps) = parts_run n _ ps
  parts_run n outside (tree.function f ∷ ps) =
      let k = n + suc (items_count f.body) in
      let later = parts_run k outside ps in
      (later.0, run_then n k later.0 (function_numbers (resolve_function F outside n f)) (flat_map function_numbers (resolve_parts F outside k ps)) (function_run n outside f) later.1)
