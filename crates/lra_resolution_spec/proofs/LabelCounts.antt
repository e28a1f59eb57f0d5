-- How many labels the parts of a source have: the names that live don't change it.
use Rattle.std.proofs.Common.{◌≡◌, ℕ, suc, List, [], ◌∷◌, ◌++◌, length, refl, sym, ap, ◌∙◌, length-append, arith, Option, Some, None}
use Rattle.lra_resolution_spec.specs.Crates.lra_base.declared.refusals.Place.{Place}
use Rattle.lra_syntax.specs.Labels.{Labelled, names_of, with_names, declarator_labels, init_labels, step_labels, stmt_labels, cases_labels, items_labels, live_in_for}
use Rattle.lra_syntax.specs.Trees.{AssignTree, DeclaratorTree, InitTree, no_init, declared, assigned, StmtTree, block, nothing, assign, call, if_only, if_else, while, for, break, continue, return}
use Rattle.lra_syntax.specs.Trees.{assert, assume, switch, CasesTree, no_cases, labelled, stated, ItemsTree, no_items, declaration, statement}
use Rattle.lra_resolution_spec.specs.Resolve.{stmt_count, items_count, init_count, step_count}

pub count_declarators : (live : List (List ℕ)) (ds : List DeclaratorTree) → length (declarator_labels live ds) ≡ length ds
count_declarators live [] = refl
count_declarators live (d ∷ ds) = ap suc (count_declarators (live ++ names_of d) ds)

pub count_init : (live : List (List ℕ)) (i : InitTree) → length (init_labels live i) ≡ init_count i
count_init live no_init = refl
count_init live (declared d) = count_declarators live (d.first ∷ d.rest) ∙ sym (count_declarators [] (d.first ∷ d.rest))
count_init live (assigned a) = refl

pub count_step : (live : List (List ℕ)) (e : Option AssignTree) → length (step_labels live e) ≡ step_count e
count_step live None = refl
count_step live (Some a) = refl

-- two lists are as long together as two others
both_alike : (a b c d : List Labelled) → length a ≡ length c → length b ≡ length d → length (a ++ b) ≡ length (c ++ d)
both_alike a b c d e f = let x = length-append a b in let y = length-append c d in omega (arith, x, y, e, f)

mutual
  pub count_stmt : (live : List (List ℕ)) (t : StmtTree) → length (stmt_labels live t) ≡ stmt_count t
  count_stmt live (block items end) = alike_items live items end
  count_stmt live (nothing at) = refl
  count_stmt live (assign a) = refl
  count_stmt live (call c) = refl
  count_stmt live (if_only at c t) = ap suc (count_stmt live t)
  count_stmt live (if_else at c t e) =
      ap suc (both_alike (stmt_labels live t) (stmt_labels live e) (stmt_labels [] t) (stmt_labels [] e) (count_stmt live t) (count_stmt live e))
  count_stmt live (while at c b) = ap suc (count_stmt live b)
  count_stmt live (for at i c e b) =
      let x = both_alike (init_labels live i) (step_labels (live_in_for live i) e) (init_labels [] i) (step_labels (live_in_for [] i) e) (count_init live i)
      (count_step (live_in_for live i) e ∙ sym (count_step (live_in_for [] i) e)) in
      ap suc (both_alike (init_labels live i ++ step_labels (live_in_for live i) e) (stmt_labels (live_in_for live i) b)
      (init_labels [] i ++ step_labels (live_in_for [] i) e) (stmt_labels (live_in_for [] i) b) x
      (count_stmt (live_in_for live i) b ∙ sym (count_stmt (live_in_for [] i) b)))
  count_stmt live (break at) = refl
  count_stmt live (continue at) = refl
  count_stmt live (return at e) = refl
  count_stmt live (assert at c) = refl
  count_stmt live (assume at c) = refl
  count_stmt live (switch at e cs) = ap suc (alike_cases live cs)

  alike_cases : (live : List (List ℕ)) (cs : CasesTree) → length (cases_labels live cs) ≡ length (cases_labels [] cs)
  alike_cases live no_cases = refl
  alike_cases live (labelled l cs) = alike_cases live cs
  alike_cases live (stated t cs) =
      both_alike (stmt_labels live t) (cases_labels live cs) (stmt_labels [] t) (cases_labels [] cs) (count_stmt live t) (alike_cases live cs)

  alike_items : (live : List (List ℕ)) (items : ItemsTree) (end : Place) → length (items_labels live items end) ≡ length (items_labels [] items end)
  alike_items live no_items end = refl
  alike_items live (declaration d items) end =
      both_alike (declarator_labels live (d.first ∷ d.rest)) (items_labels (with_names live (d.first ∷ d.rest)) items end)
      (declarator_labels [] (d.first ∷ d.rest)) (items_labels (with_names [] (d.first ∷ d.rest)) items end)
      (count_declarators live (d.first ∷ d.rest) ∙ sym (count_declarators [] (d.first ∷ d.rest)))
      (alike_items (with_names live (d.first ∷ d.rest)) items end ∙ sym (alike_items (with_names [] (d.first ∷ d.rest)) items end))
  alike_items live (statement t items) end =
      both_alike (stmt_labels live t) (items_labels live items end) (stmt_labels [] t) (items_labels [] items end) (count_stmt live t) (alike_items live items end)

pub count_items : (live : List (List ℕ)) (items : ItemsTree) (end : Place) → length (items_labels live items end) ≡ suc (items_count items)
count_items live no_items end = refl
count_items live (declaration d items) end =
    let a = length-append (declarator_labels live (d.first ∷ d.rest)) (items_labels (with_names live (d.first ∷ d.rest)) items end) in
    let b = count_declarators live (d.first ∷ d.rest) in
    let e = count_items (with_names live (d.first ∷ d.rest)) items end in omega arith
count_items live (statement t items) end =
    let a = length-append (stmt_labels live t) (items_labels live items end) in
    let b = count_stmt live t in
    let e = count_items live items end in omega arith
