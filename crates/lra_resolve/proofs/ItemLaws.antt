-- What an item of a block reports and finds, whatever items come after it.
use Rattle.std.proofs.Common.{◌≡◌, ℕ, ◌+◌, suc, List, [], ◌∷◌, ◌++◌, length, map, refl, arith, rules}
use Rattle.std.proofs.lemmas.List.{length-map}
use Rattle.lra_base.specs.declared.error.SourceError.{SourceError}
use Rattle.lra_syntax.specs.{Labels.stmt_labels, Trees.DeclaratorTree, Trees.FunctionTree, Trees.ItemsTree, Trees.declaration, Trees.statement, Views.declaration_view, Views.declarator_view}
use Rattle.lra_syntax.specs.{Views.item_view, Views.stmt_view, declared.trees.BlockItem.the_lemmas as tree_lemmas, declared.trees.Declaration.Declaration, declared.trees.Stmt.Stmt}
use Rattle.lra_syntax.specs.declared.trees.BlockItem as code_item
use Rattle.lra_program.specs.{Program.BlockItems, declared.program.BlockItem.BlockItem as ProgramItem, declared.program.Stmt.Stmt as ProgramStmt}
use Rattle.lra_program.specs.ProgramViews as view
use Rattle.lra_program.specs.declared.program.BlockItem as program_item
use Rattle.lra_resolve.specs.Crates.lra_resolution_spec.NameFaults.{Around, declarators_faults, items_faults, stmt_faults}
use Rattle.lra_resolve.specs.Crates.lra_resolution_spec.Resolve.{resolve_declarators, resolve_stmt, resolve_items, stmt_count, items_count}
use Rattle.lra_resolve.specs.Crates.lra_resolution_spec.Scope.{Scope, with_declarators}
use Rattle.lra_scopes.specs.{Outcome.IsFirstFault, Scopes.Extends}
use Rattle.lra_scopes.proofs.FirstFaults.{tells_front}
use Rattle.lra_resolve_simple.specs.{Labelling.LabelsSoFar, Labelling.Adds, Labelling.Declares, Labelling.Follows, Statements.followed}
use Rattle.lra_resolve_simple.proofs.LabellingLaws.{declaration_follows, statement_follows}
use Rattle.lra_resolve_simple.proofs.StatementLaws.{extends_self, extends_declared, declaration_counted, statement_found}

abbrev declarators : Declaration → List DeclaratorTree
declarators d = declarator_view d.first ∷ map declarator_view d.rest.items

declaration_is : (item : code_item.BlockItem) (d : Declaration) (rest : ItemsTree) → item ≡ code_item.Declaration d
    → item_view item rest ≡ declaration (declaration_view d) rest
declaration_is item d rest is = let v : item_view (code_item.Declaration d) rest ≡ declaration (declaration_view d) rest = search (rules, tree_lemmas) in
    rw (is, v) refl

statement_is : (item : code_item.BlockItem) (t : Stmt) (rest : ItemsTree) → item ≡ code_item.Statement t → item_view item rest ≡ statement (stmt_view t) rest
statement_is item t rest is = let v : item_view (code_item.Statement t) rest ≡ statement (stmt_view t) rest = search (rules, tree_lemmas) in rw (is, v) refl

pub kept_extends : (s after : Scope) → after ≡ s → Extends s after
kept_extends s after e = rw e (extends_self s)

module _ (a : Around) (s : Scope) (item : code_item.BlockItem) where
  pub statement_told : (t : Stmt) (e : SourceError) → item ≡ code_item.Statement t → IsFirstFault (stmt_faults a s (stmt_view t)) e → (rest : ItemsTree)
      → IsFirstFault (items_faults a s (item_view item rest)) e
  statement_told t e is told rest = rw (statement_is item t rest is) (tells_front (stmt_faults a s (stmt_view t)) (items_faults a s rest) e told)

  pub statement_clean : (t : Stmt) (after : Scope) → item ≡ code_item.Statement t → stmt_faults a s (stmt_view t) ≡ [] → after ≡ s → (rest : ItemsTree) →
      items_faults a s (item_view item rest) ≡ items_faults a after rest
  statement_clean t after is clean kept rest = rw (statement_is item t rest is, clean, kept) refl

  pub declaration_told : (d : Declaration) (e : SourceError) → item ≡ code_item.Declaration d
      → IsFirstFault (declarators_faults a.functions s d.number_type (declarators d)) e
      → (rest : ItemsTree) → IsFirstFault (items_faults a s (item_view item rest)) e
  declaration_told d e is told rest = rw (declaration_is item d rest is) (tells_front (declarators_faults a.functions s d.number_type (declarators d)) _ e told)

  pub declaration_clean : (d : Declaration) (after : Scope) → item ≡ code_item.Declaration d
      → declarators_faults a.functions s d.number_type (declarators d) ≡ []
      → after ≡ with_declarators s d.number_type (declarators d) →
      (rest : ItemsTree) → items_faults a s (item_view item rest) ≡ items_faults a after rest
  declaration_clean d after is clean declared rest = rw (declaration_is item d rest is, clean, declared) refl

pub declaration_found : (F : List FunctionTree) (s after : Scope) (n m : ℕ) (item : code_item.BlockItem) (d : Declaration)
    (old new : List (BlockItems → BlockItems)) → item ≡ code_item.Declaration d →
    ((more : BlockItems) → followed old (resolve_declarators F s n d.number_type (declarators d) more) ≡ followed new more)
    → after ≡ with_declarators s d.number_type (declarators d)
    → m ≡ n + suc (length d.rest.items) →
    (rest : ItemsTree) → followed old (resolve_items F s n (item_view item rest)) ≡ followed new (resolve_items F after m rest)
declaration_found F s after n m item d old new is found declared counted rest =
    rw (declaration_is item d rest is, declared, counted, ← length-map d.rest.items declarator_view)
    (found (resolve_items F (with_declarators s d.number_type (declarators d)) (n + suc (length (map declarator_view d.rest.items))) rest))

statement_counted : (item : code_item.BlockItem) (t : Stmt) (n m : ℕ) → item ≡ code_item.Statement t → m ≡ n + stmt_count (stmt_view t)
    → (rest : ItemsTree) → m + items_count rest ≡ n + items_count (item_view item rest)
statement_counted item t n m is e rest = rw (statement_is item t rest is) (omega arith)

-- what is reported and found of all items is that of those after this one
pub record Passes (a : Around) (item : code_item.BlockItem) (s after : Scope) (old new : LabelsSoFar) (items more : List ProgramItem) : Type 0 where
  pub clean : (rest : ItemsTree) → items_faults a s (item_view item rest) ≡ items_faults a after rest
  pub found : (rest : ItemsTree) → followed (map view.item_view items) (resolve_items a.functions s old.next (item_view item rest))
      ≡ followed (map view.item_view more) (resolve_items a.functions after new.next rest)
  pub extended : Extends s after
  pub counted : (rest : ItemsTree) → new.next + items_count rest ≡ old.next + items_count (item_view item rest)
  pub follows : Follows old new (item_view item)

module _ (a : Around) (item : code_item.BlockItem) (s after : Scope) (old new : LabelsSoFar) (items more : List ProgramItem) where
  pub passes_declaration : (d : Declaration) → item ≡ code_item.Declaration d → declarators_faults a.functions s d.number_type (declarators d) ≡ []
      → ((rest : BlockItems) → followed (map view.item_view items) (resolve_declarators a.functions s old.next d.number_type (declarators d) rest)
      ≡ followed (map view.item_view more) rest)
      → after ≡ with_declarators s d.number_type (declarators d) → new.next ≡ old.next + suc (length d.rest.items) → Declares old new (declarators d)
      → Passes a item s after old new items more
  passes_declaration d is told found declared counted labelled = record {
    clean = declaration_clean a s item d after is told declared;
    found = declaration_found a.functions s after old.next new.next item d (map view.item_view items) (map view.item_view more) is found declared counted;
    extended = rw declared (extends_declared s d.number_type (declarators d));
    counted = declaration_counted item d old.next new.next is counted;
    follows = declaration_follows old new item d is labelled;
  }

  pub passes_statement : (t : Stmt) (r : ProgramStmt) → item ≡ code_item.Statement t → stmt_faults a s (stmt_view t) ≡ []
      → view.stmt_view r ≡ resolve_stmt a.functions s old.next (stmt_view t) → after ≡ s → new.next ≡ old.next + stmt_count (stmt_view t)
      → Adds old new (stmt_labels old.live (stmt_view t)) → more ≡ items ++ program_item.Statement r ∷ [] → Passes a item s after old new items more
  passes_statement t r is told found kept counted adds added = record {
    clean = statement_clean a s item t after is told kept;
    found = statement_found a.functions s after old.next new.next item t r items more is added found kept counted;
    extended = kept_extends s after kept;
    counted = statement_counted item t old.next new.next is counted;
    follows = statement_follows old new item t is adds;
  }
