-- What a loop is by its head and its body, a choice with a second branch or without one, and a block; a refused statement.
use Rattle.std.proofs.Common.{◌≡◌, ℕ, suc, ◌+◌, List, [], ◌∷◌, ◌++◌, length, take, refl, sym, ap, ◌∙◌, append_assoc, arith, rules, Option, Some, None, subst, Result, Ok, Err}
use Rattle.std.proofs.Math.Seq.{take-length}
use Rattle.std.specs.Result.{IsErrAnd}
use Rattle.lra_base.specs.{declared.error.SourceError.SourceError, declared.refusals.Place.Place}
use Rattle.lra_syntax.specs.{Labels.Labelled, Labels.plain_label, Labels.stmt_labels, Trees.CondTree, Trees.StmtTree, Trees.block, Trees.if_only, Trees.if_else, Trees.ItemsTree, Trees.FunctionTree}
use Rattle.lra_program.specs.{ProgramViews.stmt_view, ProgramViews.items_view, declared.program.BlockItem.the_lemmas, declared.program.BlockItems.BlockItems, declared.program.Stmt.Stmt}
use Rattle.lra_program.specs.declared.program.Stmt as program_stmt
use Rattle.lra_program.specs.Program as program
use Rattle.lra_resolve.specs.Crates.lra_resolution_spec.NameFaults.{Around, in_a_loop, cond_faults, stmt_faults}
use Rattle.lra_resolve.specs.Crates.lra_resolution_spec.Resolve.{resolve_stmt, resolve_items, stmt_count, items_count}
use Rattle.lra_resolve.specs.Crates.lra_resolution_spec.Scope.{SymbolEntry, Scope, inner}
use Rattle.lra_scopes.specs.{Outcome.IsFirstFault, Outcome.StopsAtFirstFault, Scopes.Extends, Scopes.left_to}
use Rattle.lra_resolve_simple.specs.LoopHeads.{HeadTree, while_head, for_head, with_body, head_faults, body_scope, body_label, head_labels, body_live, loop_around}
use Rattle.lra_resolve_simple.specs.{Labelling.LabelsSoFar, Labelling.Adds, Resolved.Resolves, Statements.choice_tree}
use Rattle.lra_scopes.proofs.{FirstFaults.tells_front, FirstFaults.tells_behind, Loops.both_clean}
use Rattle.lra_resolve_simple.proofs.LabellingLaws.{left_of_for, adds_then}
use Rattle.lra_resolve_simple.proofs.StatementLaws.{left_for, left_inner, count_block, count_for, count_if_else}

-- loops ----------------------------------------------------------------------------------------------------------------

pub faults_of_loop : (a : Around) (s : Scope) (h : HeadTree) (b : StmtTree)
    → stmt_faults a s (with_body h b) ≡ head_faults a.functions s h ++ stmt_faults (in_a_loop a) (body_scope s h) b
faults_of_loop a s (while_head at c) b = refl
faults_of_loop a s (for_head at i c e) b = refl

pub meaning_of_loop : (F : List FunctionTree) (s : Scope) (n : ℕ) (h : HeadTree) (b : StmtTree)
    → resolve_stmt F s n (with_body h b) ≡ loop_around F s n h (resolve_stmt F (body_scope s h) (body_label n h) b)
meaning_of_loop F s n (while_head at c) b = refl
meaning_of_loop F s n (for_head at i c e) b = refl

labels_of_loop : (live : List (List ℕ)) (h : HeadTree) (b : StmtTree)
    → stmt_labels live (with_body h b) ≡ head_labels live h ++ stmt_labels (body_live live h) b
labels_of_loop live (while_head at c) b = refl
labels_of_loop live (for_head at i c e) b = refl

pub count_of_loop : (n : ℕ) (h : HeadTree) (b : StmtTree) → body_label n h + stmt_count b ≡ n + stmt_count (with_body h b)
count_of_loop n (while_head at c) b = omega arith
count_of_loop n (for_head at i c e) b = let x = count_for at i c e b in omega (arith, x)

scope_left : (s : Scope) (h : HeadTree) → left_to (length s.locals) s.outer (body_scope s h) ≡ s
scope_left s (while_head at c) = ap (λ (l : List SymbolEntry). record s { locals = l }) (take-length s.locals)
scope_left s (for_head at i c e) = left_for s i

pub loop_left : (s e f g : Scope) (h : HeadTree) (count outer : ℕ) → e ≡ body_scope s h → f ≡ e → count ≡ length s.locals → outer ≡ s.outer
    → g ≡ left_to count outer f → g ≡ s
loop_left s e f g h count outer entered same counted around left = rw (left, same, entered, counted, around) (scope_left s h)

live_left : (live : List (List ℕ)) (h : HeadTree) → take (length live) (body_live live h) ≡ live
live_left live (while_head at c) = take-length live
live_left live (for_head at i c e) = left_of_for live i

-- after the labels of its head those of its body, and it is left
pub loops : (a e f g : LabelsSoFar) (h : HeadTree) (body : StmtTree) (count : ℕ)
    → e.labels ≡ a.labels ++ head_labels a.live h → e.live ≡ body_live a.live h → Adds e f (stmt_labels e.live body)
    → count ≡ length a.live → g.live ≡ take count f.live → g.labels ≡ f.labels
    → Adds a g (stmt_labels a.live (with_body h body))
loops a e f g h body count front inside within counted left same = record {
  labels = same ∙ within.labels ∙ ap (λ (ls : List Labelled). ls ++ stmt_labels e.live body) front
      ∙ append_assoc a.labels (head_labels a.live h) (stmt_labels e.live body)
      ∙ ap (λ (ns : List (List ℕ)). a.labels ++ (head_labels a.live h ++ stmt_labels ns body)) inside
      ∙ ap (λ (ls : List Labelled). a.labels ++ ls) (sym (labels_of_loop a.live h body));
  live = left ∙ ap (λ (n : ℕ). take n f.live) counted ∙ ap (λ (ns : List (List ℕ)). take (length a.live) ns) (within.live ∙ inside) ∙ live_left a.live h;
}

-- choices --------------------------------------------------------------------------------------------------------------

module _ (at : Place) (c : CondTree) (t : StmtTree) where
  pub without : (o : Option StmtTree) → o ≡ None → choice_tree at c t o ≡ if_only at c t
  without o is = ap (choice_tree at c t) is

  pub with_other : (o : Option StmtTree) (u : StmtTree) → o ≡ Some u → choice_tree at c t o ≡ if_else at c t u
  with_other o u is = ap (choice_tree at c t) is

  pub count_without : (n k m : ℕ) (o : Option StmtTree) → o ≡ None → k ≡ suc n → m ≡ k + stmt_count t → m ≡ n + stmt_count (choice_tree at c t o)
  count_without n k m o is first own = let e : stmt_count (choice_tree at c t o) ≡ suc (stmt_count t) = ap stmt_count (without o is) in
      omega (arith, e, first, own)

  pub count_with : (n k m l : ℕ) (o : Option StmtTree) (u : StmtTree) → o ≡ Some u → k ≡ suc n → m ≡ k + stmt_count t → l ≡ m + stmt_count u
      → l ≡ n + stmt_count (choice_tree at c t o)
  count_with n k m l o u is first own other =
      let e : stmt_count (choice_tree at c t o) ≡ suc (stmt_count t + stmt_count u) = ap stmt_count (with_other o u is) ∙ count_if_else at c t u in
      omega (arith, e, first, own, other)

  pub labelled_without : (a b d : LabelsSoFar) (o : Option StmtTree) → o ≡ None → Adds a b (plain_label at a.live ∷ []) → Adds b d (stmt_labels b.live t)
      → Adds a d (stmt_labels a.live (choice_tree at c t o))
  labelled_without a b d o is own more =
      subst (λ (x : StmtTree). Adds a d (stmt_labels a.live x)) (sym (without o is))
      (adds_then a b d (plain_label at a.live ∷ []) (λ (ns : List (List ℕ)). stmt_labels ns t) own more)

  pub labelled_with : (a b d e : LabelsSoFar) (o : Option StmtTree) (u : StmtTree) → o ≡ Some u → Adds a b (plain_label at a.live ∷ [])
      → Adds b d (stmt_labels b.live t)
      → Adds d e (stmt_labels d.live u) → Adds a e (stmt_labels a.live (choice_tree at c t o))
  labelled_with a b d e o u is own more other =
      let first = adds_then a b d (plain_label at a.live ∷ []) (λ (ns : List (List ℕ)). stmt_labels ns t) own more in
      subst (λ (x : StmtTree). Adds a e (stmt_labels a.live x)) (sym (with_other o u is))
      (adds_then a d e (plain_label at a.live ∷ stmt_labels a.live t) (λ (ns : List (List ℕ)). stmt_labels ns u) first other)

  module _ (a : Around) (s : Scope) where
    -- the faults of the condition and of the first branch come first
    pub front_told : (o : Option StmtTree) (e : SourceError) → IsFirstFault (cond_faults s c ++ stmt_faults a s t) e →
        IsFirstFault (stmt_faults a s (choice_tree at c t o)) e
    front_told None e h = h
    front_told (Some u) e h = tells_front (cond_faults s c ++ stmt_faults a s t) (stmt_faults a s u) e h

    pub other_told : (o : Option StmtTree) (u : StmtTree) (e : SourceError) → o ≡ Some u → cond_faults s c ≡ [] → stmt_faults a s t ≡ []
        → IsFirstFault (stmt_faults a s u) e → IsFirstFault (stmt_faults a s (choice_tree at c t o)) e
    other_told o u e is first own h =
        subst (λ (x : StmtTree). IsFirstFault (stmt_faults a s x) e) (sym (with_other o u is))
        (tells_behind (cond_faults s c ++ stmt_faults a s t) (stmt_faults a s u) e (both_clean _ _ _ refl first own) h)

    pub clean_without : (o : Option StmtTree) → o ≡ None → cond_faults s c ≡ [] → stmt_faults a s t ≡ [] → stmt_faults a s (choice_tree at c t o) ≡ []
    clean_without o is first own = ap (stmt_faults a s) (without o is) ∙ both_clean _ _ _ refl first own

    pub clean_with : (o : Option StmtTree) (u : StmtTree) → o ≡ Some u → cond_faults s c ≡ [] → stmt_faults a s t ≡ [] → stmt_faults a s u ≡ []
        → stmt_faults a s (choice_tree at c t o) ≡ []
    clean_with o u is first own other = ap (stmt_faults a s) (with_other o u is) ∙ both_clean _ _ _ refl (both_clean _ _ _ refl first own) other

-- blocks ---------------------------------------------------------------------------------------------------------------

pub block_found : (code : BlockItems) (last : ℕ) (F : List FunctionTree) (s : Scope) (n : ℕ) (items : ItemsTree) (end : Place)
    → items_view code ≡ resolve_items F (inner s) n items → last ≡ n + items_count items
    → stmt_view (program_stmt.Block code last) ≡ resolve_stmt F s n (block items end)
block_found code last F s n items end found labelled =
    let v : stmt_view (program_stmt.Block code last) ≡ program.block (items_view code) last = search (rules, the_lemmas) in
    v ∙ ap (λ (x : program.BlockItems). program.block x last) found ∙ ap (program.block (resolve_items F (inner s) n items)) labelled

pub block_left : (s e f g : Scope) (count outer : ℕ) → e ≡ inner s → Extends e f → count ≡ length s.locals → outer ≡ s.outer → g ≡ left_to count outer f → g ≡ s
block_left s e f g count outer entered more counted around left = rw (left, counted, around) (left_inner s f (subst (λ (x : Scope). Extends x f) entered more))

pub block_counted : (items : ItemsTree) (end : Place) (n m k j : ℕ) → m ≡ n + items_count items → k ≡ suc m → j ≡ k → j ≡ n + stmt_count (block items end)
block_counted items end n m k j own last same = let e = count_block items end in omega (arith, e, own, last, same)

-- refused --------------------------------------------------------------------------------------------------------------

pub refused : {a : Around} {s behind : Scope} {old new : LabelsSoFar} {t : StmtTree} (r : Result Stmt SourceError) (e : SourceError)
    → IsErrAnd r (λ y. y ≡ e) → StopsAtFirstFault (stmt_faults a s t) r → Resolves a s old t r behind new
refused (Ok v) e is told = absurd is
refused (Err x) e is told = record { told = told; found = tt {0}; kept = tt {0}; counted = tt {0}; adds = tt {0} }
