-- How what can be named changes along a block.
use Rattle.std.specs.Prelude.{◌≡◌, ℕ, List, ◌++◌, take}
use Rattle.lra_resolution_spec.specs.Scope.{SymbolEntry, Scope}

-- with further scalars and arrays
abbrev pub with_more : Scope → List SymbolEntry → Scope
with_more s more = record s { locals = s.locals ++ more }

-- further ones in the same scope
pub record Extends (s t : Scope) : Type 0 where
  pub more : List SymbolEntry
  pub is : t ≡ with_more s more

-- the oldest so many, in a scope that `outer` of them lie outside
abbrev pub left_to : ℕ → ℕ → Scope → Scope
left_to locals outer s = record s { locals = take locals s.locals; outer = outer }
