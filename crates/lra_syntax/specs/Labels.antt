-- The labels of a source: its statements, declarators of functions and ends of blocks, in text order; the n-th has the
-- label n, from 1.
-- A block has no label but at its `}`.
use Rattle.std.specs.Prelude.{ℕ, zero, suc, List, [], ◌∷◌, ◌++◌, map, Option, Some, None, slice_get, flat_map}
use Rattle.lra_base.specs.{TextOrder.for_order, declared.refusals.Place.Place}
use Rattle.lra_syntax.specs.Functions.{functions_of}
use Rattle.lra_syntax.specs.Trees.{RvalueTree, expression, result, AssignTree, set, set_element, update, after, before}
use Rattle.lra_syntax.specs.Trees.{ScalarOrArrayTree, scalar, array, DeclaratorTree, InitTree, no_init, declared}
use Rattle.lra_syntax.specs.Trees.{assigned, StmtTree, block, nothing, assign, call, if_only, if_else, while, for}
use Rattle.lra_syntax.specs.Trees.{break, continue, return, assert, assume, switch, CasesTree, no_cases, labelled}
use Rattle.lra_syntax.specs.Trees.{stated, ItemsTree, no_items, declaration, statement, FunctionTree, FileTree}
use Rattle.lra_syntax.specs.{declared.trees.Identifier.Identifier, declared.trees.Parameter.Parameter}

-- a statement, declarator or end of a block, which a label stands for
pub record Labelled : Type 0 where
  pub place : Place
  -- the called name, if it holds a call
  pub called : Option Identifier
  -- the function's scalars that live at the point, oldest first
  pub live : List (List ℕ)
  -- the function's scalars that live while the label's call runs
  pub live_in_call : List (List ℕ)

abbrev pub plain_label : Place → List (List ℕ) → Labelled
plain_label at live = record { place = at; called = None; live = live; live_in_call = live }

abbrev pub label_with : Place → Option Identifier → List (List ℕ) → Labelled
label_with at called live = record { place = at; called = called; live = live; live_in_call = live }

-- what is called
abbrev pub called_in : RvalueTree → Option Identifier
called_in (expression e) = None
called_in (result c) = Some c.name

abbrev pub called_of : Option RvalueTree → Option Identifier
called_of None = None
called_of (Some e) = called_in e

-- an array calls nothing
abbrev pub called_for : ScalarOrArrayTree RvalueTree → Option Identifier
called_for (scalar e) = called_of e
called_for (array n) = None

-- an assignment's first token
abbrev pub assign_place : AssignTree → Place
assign_place (set x e) = x.place
assign_place (set_element x i e) = x.place
assign_place (update x op e) = x.place
assign_place (after x s) = x.place
assign_place (before at s x) = at

abbrev pub called_by : AssignTree → Option Identifier
called_by (set x e) = called_in e
called_by (set_element x i e) = called_in e
called_by (update x op e) = None
called_by (after x s) = None
called_by (before at s x) = None

-- an array is no scalar, and doesn't live among them
abbrev pub name_in : {A : Type 0} → List ℕ → ScalarOrArrayTree A → List (List ℕ)
name_in name (scalar e) = name ∷ []
name_in name (array n) = []

abbrev pub names_of : DeclaratorTree → List (List ℕ)
names_of d = name_in d.name.word d.shape

abbrev pub with_names : List (List ℕ) → List DeclaratorTree → List (List ℕ)
with_names live ds = live ++ flat_map names_of ds

-- a declarator's scalar lives after its point, and so in its call
abbrev pub declarator_labels : List (List ℕ) → List DeclaratorTree → List Labelled
declarator_labels live [] = []
declarator_labels live (d ∷ ds) =
    let more = live ++ names_of d in
    record { place = d.name.place; called = called_for d.shape; live = live; live_in_call = more } ∷
    declarator_labels more ds

abbrev pub assign_label : List (List ℕ) → AssignTree → Labelled
assign_label live a = label_with (assign_place a) (called_by a) live

abbrev pub init_labels : List (List ℕ) → InitTree → List Labelled
init_labels live no_init = []
init_labels live (declared d) = declarator_labels live (d.first ∷ d.rest)
init_labels live (assigned a) = assign_label live a ∷ []

-- a `for`'s own point stands before its test, after what it declares
abbrev pub live_in_for : List (List ℕ) → InitTree → List (List ℕ)
live_in_for live no_init = live
live_in_for live (declared d) = with_names live (d.first ∷ d.rest)
live_in_for live (assigned a) = live

abbrev pub step_labels : List (List ℕ) → Option AssignTree → List Labelled
step_labels live None = []
step_labels live (Some a) = assign_label live a ∷ []

abbrev mutual
  pub stmt_labels : List (List ℕ) → StmtTree → List Labelled
  stmt_labels live (block items end) = items_labels live items end
  stmt_labels live (nothing at) = plain_label at live ∷ []
  stmt_labels live (assign a) = assign_label live a ∷ []
  stmt_labels live (call c) = label_with c.name.place (Some c.name) live ∷ []
  stmt_labels live (if_only at c t) = plain_label at live ∷ stmt_labels live t
  stmt_labels live (if_else at c t e) = plain_label at live ∷ stmt_labels live t ++ stmt_labels live e
  stmt_labels live (while at c b) = plain_label at live ∷ stmt_labels live b
  stmt_labels live (for at i c e b) =
      let inside = live_in_for live i in
      for_order (plain_label at inside) (init_labels live i) (step_labels inside e) (stmt_labels inside b)
  stmt_labels live (break at) = plain_label at live ∷ []
  stmt_labels live (continue at) = plain_label at live ∷ []
  stmt_labels live (return at e) = label_with at (called_of e) live ∷ []
  stmt_labels live (assert at c) = plain_label at live ∷ []
  stmt_labels live (assume at c) = plain_label at live ∷ []
  stmt_labels live (switch at e cs) = plain_label at live ∷ cases_labels live cs

  -- the statements of a `switch`: what stands before them, as `case 1:`, has no label of these
  pub cases_labels : List (List ℕ) → CasesTree → List Labelled
  cases_labels live no_cases = []
  cases_labels live (labelled l cs) = cases_labels live cs
  cases_labels live (stated t cs) = stmt_labels live t ++ cases_labels live cs

  -- a block's items and its end
  pub items_labels : List (List ℕ) → ItemsTree → Place → List Labelled
  items_labels live no_items end = plain_label end live ∷ []
  items_labels live (declaration d items) end = declarator_labels live (d.first ∷ d.rest) ++
      items_labels (with_names live (d.first ∷ d.rest)) items end
  items_labels live (statement t items) end = stmt_labels live t ++ items_labels live items end

abbrev pub function_labels : FunctionTree → List Labelled
function_labels f = items_labels (map (λ (p : Parameter). p.name.word) f.parameters) f.body f.end

-- of the whole source
abbrev pub labels_of : FileTree → List Labelled
labels_of t = flat_map function_labels (functions_of t)

-- the label n, from 1
abbrev pub label_at : List Labelled → ℕ → Option Labelled
label_at ls zero = None
label_at ls (suc n) = slice_get ls n

abbrev pub label_place : Option Labelled → Place
label_place None = record { line = 1; column = 1 }
label_place (Some l) = l.place

abbrev pub identifier_place : Option Identifier → Place
identifier_place None = record { line = 1; column = 1 }
identifier_place (Some x) = x.place

abbrev pub called_place : Option Labelled → Place
called_place None = record { line = 1; column = 1 }
called_place (Some l) = identifier_place l.called
