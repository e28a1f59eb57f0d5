-- Scopes (ISO/IEC 9899:2011, 6.2.1): which variable or array a name means.
use Rattle.std.specs.List.{list_any}
use Rattle.std.specs.Prelude.{ℕ, suc, ◌+◌, Bool, true, false, if◌then◌else◌, List, [], ◌∷◌, ◌++◌, length, take, drop}
use Rattle.std.specs.Prelude.{bytes_eq, Option, Some, None, map, option_map, slice_get}
use Rattle.lra_resolution_spec.specs.Crates.lra_base.declared.number_types.NumberType.{NumberType}
use Rattle.lra_syntax.specs.Trees.{DeclaratorTree, InitTree, no_init, declared, assigned, GlobalTree, GlobalsTree}
use Rattle.lra_syntax.specs.declared.trees.ArrayLength.{ArrayLength}
use Rattle.lra_syntax.specs.{declared.trees.Identifier.Identifier, declared.trees.Parameter.Parameter}
use Rattle.lra_program.specs.{Program.Slot, Program.global, Program.local, declared.arrays.Array.Array}
use Rattle.lra_syntax.specs.Trees as tree

-- what a name means: a scalar of this type, or an array
pub data Binding : Type 0 where
  scalar : NumberType → Binding
  array : Array → Binding

-- a variable or an array: its name, and what it means
pub record SymbolEntry : Type 0 where
  pub name : List ℕ
  pub binding : Binding

abbrev pub names_in : List SymbolEntry → List (List ℕ)
names_in es = map (λ (e : SymbolEntry). e.name) es

-- what can be named, oldest first
pub record Scope : Type 0 where
  pub globals : List SymbolEntry
  -- the parameters and what the blocks around declare
  pub locals : List SymbolEntry
  -- how many of the locals the scopes around this one declare
  pub outer : ℕ

-- the place of the newest of this name
abbrev pub newest_from : ℕ → Option ℕ → List ℕ → List (List ℕ) → Option ℕ
newest_from k found name [] = found
newest_from k found name (x ∷ xs) = newest_from (suc k) (if bytes_eq x name then Some k else found) name xs

abbrev pub newest : List ℕ → List (List ℕ) → Option ℕ
newest name xs = newest_from 0 None name xs

-- how many variables are among these; arrays are none
abbrev pub width_of : Binding → ℕ
width_of (scalar t) = 1
width_of (array a) = 0

abbrev pub width_of_all : List SymbolEntry → ℕ
width_of_all [] = 0
width_of_all (e ∷ es) = width_of e.binding + width_of_all es

-- what a name means, and a variable's place in the store, after the variables before it; the slot of an array
-- means nothing
pub record Lookup : Type 0 where
  pub slot : Slot
  pub binding : Binding

abbrev pub found_at : (ℕ → Slot) → List SymbolEntry → Option ℕ → Option Lookup
found_at slot es None = None
found_at slot es (Some k) =
    option_map (λ (e : SymbolEntry). record { slot = slot (width_of_all (take k es)); binding = e.binding })
    (slice_get es k)

abbrev pub found_among : (ℕ → Slot) → List SymbolEntry → List ℕ → Option Lookup
found_among slot es name = found_at slot es (newest name (names_in es))

-- a local hides a global of its name
abbrev pub found_in : Option Lookup → Option Lookup → Option Lookup
found_in (Some f) g = Some f
found_in None g = g

-- what the name means: the newest one
abbrev pub found_of : Scope → List ℕ → Option Lookup
found_of s name = found_in (found_among local s.locals name) (found_among global s.globals name)

abbrev pub is_array : Binding → Bool
is_array (scalar t) = false
is_array (array a) = true

-- whether this scope has declared the name
abbrev pub is_declared : Scope → List ℕ → Bool
is_declared s name = list_any (bytes_eq name) (drop s.outer (names_in s.locals))

-- with a further variable or array
abbrev pub with_local : Scope → SymbolEntry → Scope
with_local s e = record s { locals = s.locals ++ e ∷ [] }

-- the array that the name is declared as, of this type
abbrev pub array_of : NumberType → Identifier → ArrayLength → Array
array_of t x n = record { declared = x.place; length = n.value; number_type = t }

abbrev pub binding_of : {A : Type 0} → NumberType → Identifier → tree.ScalarOrArrayTree A → Binding
binding_of t x (tree.scalar e) = scalar t
binding_of t x (tree.array n) = array (array_of t x n)

-- what a declarator, a parameter and a global declare
abbrev pub declarator_entry : NumberType → DeclaratorTree → SymbolEntry
declarator_entry t d = record { name = d.name.word; binding = binding_of t d.name d.shape }

abbrev pub parameter_entry : Parameter → SymbolEntry
parameter_entry p = record { name = p.name.word; binding = scalar p.number_type }

abbrev pub global_entry : NumberType → GlobalTree → SymbolEntry
global_entry t g = record { name = g.name.word; binding = binding_of t g.name g.shape }

abbrev pub global_entries : GlobalsTree → List SymbolEntry
global_entries g = map (global_entry g.number_type) (g.first ∷ g.rest)

-- with declarators of this type
abbrev pub with_declarators : Scope → NumberType → List DeclaratorTree → Scope
with_declarators s t [] = s
with_declarators s t (d ∷ ds) = with_declarators (with_local s (declarator_entry t d)) t ds

-- a scope inside this one, with nothing declared yet
abbrev pub inner : Scope → Scope
inner s = record s { outer = length s.locals }

-- a `for` is a scope
abbrev pub for_scope : Scope → InitTree → Scope
for_scope s no_init = inner s
for_scope s (declared d) = with_declarators (inner s) d.number_type (d.first ∷ d.rest)
for_scope s (assigned a) = inner s

-- parameters and the variables of the body's block are one scope
abbrev pub function_scope : List SymbolEntry → List Parameter → Scope
function_scope outside parameters = record {
  globals = outside;
  locals = map parameter_entry parameters;
  outer = 0;
}
