-- How many labels the parts of statements have; how scopes are left; lists of items.
use Rattle.std.proofs.Common.{◌≡◌, ℕ, suc, ◌+◌, List, [], ◌∷◌, ◌++◌, length, map, refl, sym, ap, ◌∙◌, append_assoc, append-nil, length-append, arith, Option, option_map, rules, Vec, Box, Global}
use Rattle.std.proofs.Common.{Result, Ok, Err}
use Rattle.std.proofs.{Math.Nat.le-max_left, Math.Nat.le-max_right, Math.Seq.take-length, lemmas.List.length-map, lemmas.List.map-append, lemmas.List.take-append-le}
use Rattle.std.specs.Result.{IfOk, OnOk}
use Rattle.lra_base.specs.{declared.error.SourceError.SourceError, declared.number_types.NumberType.NumberType, declared.refusals.Place.Place}
use Rattle.lra_syntax.specs.Trees.{CondTree, AssignTree, DeclaratorTree, DeclarationTree, InitTree, no_init, declared, assigned, StmtTree, block, if_only, while, if_else, for, ItemsTree, declaration}
use Rattle.lra_syntax.specs.Trees.{statement, FunctionTree, nothing, assign, call, break, continue, return, assert, assume, switch}
use Rattle.lra_syntax.specs.Views.{items_of, item_view, block_view, init_view, declaration_view, declarator_view, stmt_view, cases_view, expr_view, cond_view, assign_view, call_view, rvalue_view}
use Rattle.lra_syntax.specs.{Labels.init_labels, Labels.step_labels, Labels.stmt_labels, Labels.live_in_for, declared.trees.Assign.Assign, declared.trees.Block.Block}
use Rattle.lra_syntax.specs.{declared.trees.BlockItem.the_lemmas as tree_lemmas, declared.trees.Call.Call, declared.trees.Cases.Cases, declared.trees.Cond.Cond, declared.trees.Declaration.Declaration}
use Rattle.lra_syntax.specs.{declared.trees.Expr.Expr, declared.trees.Init.Init, declared.trees.Rvalue.Rvalue, declared.trees.Stmt.Stmt, declared.trees.Stmt.the_lemmas as stmt_lemmas}
use Rattle.lra_program.specs.{declared.program.BlockItem.BlockItem, declared.program.BlockItem.the_lemmas, declared.program.Stmt.Stmt as ProgramStmt}
use Rattle.lra_program.specs.declared.program.BlockItem as program_item
use Rattle.lra_program.specs.declared.program.Stmt as program_stmt
use Rattle.lra_syntax.specs.declared.trees.BlockItem as code_item
use Rattle.lra_syntax.specs.declared.trees.Init.TheVariants as code_init
use Rattle.lra_syntax.specs.declared.trees.Stmt as code_stmt
use Rattle.lra_program.specs.Program as program
use Rattle.lra_program.specs.ProgramViews as view
use Rattle.lra_resolve_simple.specs.Crates.lra_resolution_spec.Resolve.{resolve_stmt, resolve_items, stmt_count, items_count, init_count, step_count}
use Rattle.lra_resolve_simple.specs.Crates.lra_resolution_spec.Scope.{SymbolEntry, Scope, with_local, declarator_entry, with_declarators, inner, for_scope}
use Rattle.lra_resolve_simple.proofs.Crates.lra_resolution_spec.LabelCounts.{count_stmt, count_declarators, count_items, count_step}
use Rattle.lra_scopes.specs.Scopes.{with_more, Extends, left_to}
use Rattle.lra_resolve_simple.specs.Statements.{followed, choice}
use Rattle.lra_scopes.proofs.FirstFaults.{tells_front, tells_behind}
use Rattle.lra_resolve_simple.proofs.DeclarationLaws.{followed_push}

-- how many labels statements have -----------------------------------------------------------------------

pub count_block : (items : ItemsTree) (end : Place) → stmt_count (block items end) ≡ suc (items_count items)
count_block items end = count_items [] items end

pub count_if_else : (at : Place) (c : CondTree) (t e : StmtTree) → stmt_count (if_else at c t e) ≡ suc (stmt_count t + stmt_count e)
count_if_else at c t e = ap suc (length-append (stmt_labels [] t) (stmt_labels [] e))

pub count_for : (at : Place) (i : InitTree) (c : Option CondTree) (e : Option AssignTree) (b : StmtTree)
    → stmt_count (for at i c e b) ≡ suc (init_count i + step_count e + stmt_count b)
count_for at i c e b =
    let x = length-append (init_labels [] i ++ step_labels (live_in_for [] i) e) (stmt_labels (live_in_for [] i) b) in
    let y = length-append (init_labels [] i) (step_labels (live_in_for [] i) e) in
    let z = count_step (live_in_for [] i) e in
    let w = count_stmt (live_in_for [] i) b in omega arith

pub count_declared : (d : DeclarationTree) → init_count (declared d) ≡ suc (length d.rest)
count_declared d = count_declarators [] (d.first ∷ d.rest)

-- scopes ---------------------------------------------------------------------------------------------------------------

declared_more : (s : Scope) (t : NumberType) (ds : List DeclaratorTree) → with_declarators s t ds ≡ with_more s (map (declarator_entry t) ds)
declared_more s t [] = ap (λ (l : List SymbolEntry). record s { locals = l }) (sym (append-nil s.locals))
declared_more s t (d ∷ ds) =
    declared_more (with_local s (declarator_entry t d)) t ds
    ∙ ap (λ (l : List SymbolEntry). record s { locals = l }) (append_assoc s.locals (declarator_entry t d ∷ []) (map (declarator_entry t) ds))

pub extends_declared : (s : Scope) (t : NumberType) (ds : List DeclaratorTree) → Extends s (with_declarators s t ds)
extends_declared s t ds = record { more = map (declarator_entry t) ds; is = declared_more s t ds }

pub extends_self : (s : Scope) → Extends s s
extends_self s = record { more = []; is = ap (λ (l : List SymbolEntry). record s { locals = l }) (sym (append-nil s.locals)) }

pub extends_then : (s t u : Scope) → Extends s t → Extends t u → Extends s u
extends_then s t u a b = record {
  more = a.more ++ b.more;
  is = b.is ∙ ap (λ (x : Scope). with_more x b.more) a.is ∙ ap (λ (l : List SymbolEntry). record s { locals = l }) (append_assoc s.locals a.more b.more);
}

pub left_inner : (s t : Scope) → Extends (inner s) t → left_to (length s.locals) s.outer t ≡ s
left_inner s t e =
    ap (left_to (length s.locals) s.outer) e.is
    ∙ ap (λ (l : List SymbolEntry). record s { locals = l }) (take-append-le (length s.locals) s.locals e.more (omega arith) ∙ take-length s.locals)

for_extends : (s : Scope) (i : InitTree) → Extends (inner s) (for_scope s i)
for_extends s no_init = extends_self (inner s)
for_extends s (declared d) = extends_declared (inner s) d.number_type (d.first ∷ d.rest)
for_extends s (assigned a) = extends_self (inner s)

pub left_for : (s : Scope) (i : InitTree) → left_to (length s.locals) s.outer (for_scope s i) ≡ s
left_for s i = left_inner s (for_scope s i) (for_extends s i)

-- items ----------------------------------------------------------------------------------------------------------------

pub followed_end : (fs : List (program.BlockItems → program.BlockItems)) → followed fs program.no_more ≡ view.items_of fs
followed_end [] = refl
followed_end (f ∷ fs) = ap f (followed_end fs)

pub items_view_is : (v : Vec BlockItem Global) → view.items_view (record { items = v }) ≡ followed (map view.item_view v.items) program.no_more
items_view_is v =
    let e : view.items_view (record { items = v }) ≡ view.items_of (map view.item_view v.items) = search (rules, the_lemmas) in
    e ∙ sym (followed_end (map view.item_view v.items))

-- the code's trees ---------------------------------------------------------------------------------------------------------

pub block_items : (b : Block) (xs : List code_item.BlockItem) → xs ≡ b.items.items → (block_view b).0 ≡ items_of (map item_view xs)
block_items b xs is =
    let e : (block_view b).0 ≡ items_of (map item_view b.items.items) = search (rules, tree_lemmas) in
    e ∙ ap (λ (l : List code_item.BlockItem). items_of (map item_view l)) (sym is)

pub block_end : (b : Block) → b.end ≡ (block_view b).1
block_end b = let e : (block_view b).1 ≡ b.end = search (rules, tree_lemmas) in sym e

pub code_init_count : (init : Init) (d : Declaration) → init ≡ code_init.Declaration d → init_count (init_view init) ≡ suc (length d.rest.items)
code_init_count init d is = rw is (count_declared (declaration_view d) ∙ ap suc (length-map d.rest.items declarator_view))

pub declaration_counted : (item : code_item.BlockItem) (d : Declaration) (n m : ℕ) → item ≡ code_item.Declaration d → m ≡ n + suc (length d.rest.items)
    → (rest : ItemsTree) → m + items_count rest ≡ n + items_count (item_view item rest)
declaration_counted item d n m is e rest =
    let v : item_view (code_item.Declaration d) rest ≡ declaration (declaration_view d) rest = search (rules, tree_lemmas) in
    let k = length-map d.rest.items declarator_view in
    rw (is, v) (omega arith)

pub statement_found : (F : List FunctionTree) (s s' : Scope) (n n' : ℕ) (item : code_item.BlockItem) (t : Stmt) (r : ProgramStmt) (old new : List BlockItem)
    → item ≡ code_item.Statement t → new ≡ old ++ program_item.Statement r ∷ [] → view.stmt_view r ≡ resolve_stmt F s n (stmt_view t)
    → s' ≡ s → n' ≡ n + stmt_count (stmt_view t) → (rest : ItemsTree)
    → followed (map view.item_view old) (resolve_items F s n (item_view item rest)) ≡ followed (map view.item_view new) (resolve_items F s' n' rest)
statement_found F s s' n n' item t r old new is added e scope next rest =
    let v : item_view (code_item.Statement t) rest ≡ statement (stmt_view t) rest = search (rules, tree_lemmas) in
    let w : view.item_view (program_item.Statement r) ≡ program.statement (view.stmt_view r) = search (rules, the_lemmas) in
    rw (is, v, added, map-append view.item_view old (program_item.Statement r ∷ []), w, e, scope, next)
    (sym (followed_push (map view.item_view old) (program.statement (resolve_stmt F s n (stmt_view t))) (resolve_items F s (n + stmt_count (stmt_view t)) rest)))

-- what stands for each form of the code's statements ------------------------------------------------------------------------

pub block_is : (stmt : Stmt) (b : Block) → stmt ≡ code_stmt.Block b → stmt_view stmt ≡ block (block_view b).0 (block_view b).1
block_is stmt b is = let v : stmt_view (code_stmt.Block b) ≡ block (block_view b).0 (block_view b).1 = search (rules, stmt_lemmas) in rw (is, v)

pub nothing_is : (stmt : Stmt) (at : Place) → stmt ≡ code_stmt.Nothing at → stmt_view stmt ≡ nothing at
nothing_is stmt at is = let v : stmt_view (code_stmt.Nothing at) ≡ nothing at = search (rules, stmt_lemmas) in rw (is, v)

pub assign_is : (stmt : Stmt) (a : Assign) → stmt ≡ code_stmt.Assign a → stmt_view stmt ≡ assign (assign_view a)
assign_is stmt a is = let v : stmt_view (code_stmt.Assign a) ≡ assign (assign_view a) = search (rules, stmt_lemmas) in rw (is, v)

pub call_is : (stmt : Stmt) (c : Call) → stmt ≡ code_stmt.Call c → stmt_view stmt ≡ call (call_view c)
call_is stmt c is = let v : stmt_view (code_stmt.Call c) ≡ call (call_view c) = search (rules, stmt_lemmas) in rw (is, v)

pub break_is : (stmt : Stmt) (at : Place) → stmt ≡ code_stmt.Break at → stmt_view stmt ≡ break at
break_is stmt at is = let v : stmt_view (code_stmt.Break at) ≡ break at = search (rules, stmt_lemmas) in rw (is, v)

pub continue_is : (stmt : Stmt) (at : Place) → stmt ≡ code_stmt.Continue at → stmt_view stmt ≡ continue at
continue_is stmt at is = let v : stmt_view (code_stmt.Continue at) ≡ continue at = search (rules, stmt_lemmas) in rw (is, v)

pub return_is : (stmt : Stmt) (at : Place) (e : Option Rvalue) → stmt ≡ code_stmt.Return at e → stmt_view stmt ≡ return at (option_map rvalue_view e)
return_is stmt at e is = let v : stmt_view (code_stmt.Return at e) ≡ return at (option_map rvalue_view e) = search (rules, stmt_lemmas) in rw (is, v)

pub assert_is : (stmt : Stmt) (at : Place) (c : Cond) → stmt ≡ code_stmt.Assert at c → stmt_view stmt ≡ assert at (cond_view c)
assert_is stmt at c is = let v : stmt_view (code_stmt.Assert at c) ≡ assert at (cond_view c) = search (rules, stmt_lemmas) in rw (is, v)

pub assume_is : (stmt : Stmt) (at : Place) (c : Cond) → stmt ≡ code_stmt.Assume at c → stmt_view stmt ≡ assume at (cond_view c)
assume_is stmt at c is = let v : stmt_view (code_stmt.Assume at c) ≡ assume at (cond_view c) = search (rules, stmt_lemmas) in rw (is, v)

pub if_is : (stmt : Stmt) (at : Place) (c : Cond) (b : Box Stmt Global) (t : Stmt) → stmt ≡ code_stmt.If at c b → t ≡ b.value
    → stmt_view stmt ≡ if_only at (cond_view c) (stmt_view t)
if_is stmt at c b t is same =
    let v : stmt_view (code_stmt.If at c b) ≡ if_only at (cond_view c) (stmt_view b.value) = search (rules, stmt_lemmas) in rw (is, v, same)

pub if_else_is : (stmt : Stmt) (at : Place) (c : Cond) (b e : Box Stmt Global) (t u : Stmt) → stmt ≡ code_stmt.IfElse at c b e → t ≡ b.value → u ≡ e.value
    → stmt_view stmt ≡ if_else at (cond_view c) (stmt_view t) (stmt_view u)
if_else_is stmt at c b e t u is same also =
    let v : stmt_view (code_stmt.IfElse at c b e) ≡ if_else at (cond_view c) (stmt_view b.value) (stmt_view e.value) = search (rules, stmt_lemmas) in
    rw (is, v, same, also)

pub while_is : (stmt : Stmt) (at : Place) (c : Cond) (b : Box Stmt Global) (t : Stmt) → stmt ≡ code_stmt.While at c b → t ≡ b.value
    → stmt_view stmt ≡ while at (cond_view c) (stmt_view t)
while_is stmt at c b t is same =
    let v : stmt_view (code_stmt.While at c b) ≡ while at (cond_view c) (stmt_view b.value) = search (rules, stmt_lemmas) in rw (is, v, same)

pub for_is : (stmt : Stmt) (at : Place) (i : Init) (c : Option Cond) (e : Option Assign) (b : Box Stmt Global) (t : Stmt)
    → stmt ≡ code_stmt.For at i c e b → t ≡ b.value
    → stmt_view stmt ≡ for at (init_view i) (option_map cond_view c) (option_map assign_view e) (stmt_view t)
for_is stmt at i c e b t is same =
    let v : stmt_view (code_stmt.For at i c e b) ≡ for at (init_view i) (option_map cond_view c) (option_map assign_view e) (stmt_view b.value) = search (rules, stmt_lemmas) in
    rw (is, v, same)

pub switch_is : (stmt : Stmt) (at : Place) (e : Expr) (cs : Cases) → stmt ≡ code_stmt.Switch at e cs → stmt_view stmt ≡ switch at (expr_view e) (cases_view cs)
switch_is stmt at e cs is = let v : stmt_view (code_stmt.Switch at e cs) ≡ switch at (expr_view e) (cases_view cs) = search (rules, stmt_lemmas) in rw (is, v)

-- what is reported about a result, if a call is handed on
pub kept_so : {T : Type 0} {P : Type 0} (r : Result T SourceError) → P → OnOk r P
kept_so (Ok v) h = h
kept_so (Err e) h = tt {0}

-- what a statement means whose parts are there
pub absent_is : view.stmt_view program_stmt.Absent ≡ program.absent
absent_is = search (rules, the_lemmas)

pub choice_found : (r : Result ProgramStmt SourceError) (n l : ℕ) (c d : program.Cond) (t u e f : program.Stmt)
    → IfOk r (λ s. view.stmt_view s ≡ choice l c t e) → l ≡ n → c ≡ d → t ≡ u → e ≡ f → IfOk r (λ s. view.stmt_view s ≡ choice n d u f)
choice_found (Ok s) n l c d t u e f h p q v w = h ∙ rw (p, q, v, w)
choice_found (Err x) n l c d t u e f h p q v w = tt {0}

pub ruleset if_else_rules = (le-max_left, le-max_right)

pub ruleset init_rules = (count_declared, followed_end, length-map)

pub ruleset items_rules = (followed_end, extends_self, extends_then, tells_front, tells_behind)
