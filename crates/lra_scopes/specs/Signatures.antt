-- What a call has to know of a function, and an index of functions by their names.
use Rattle.std.specs.Prelude.{◌≡◌, ℕ, suc, List, [], ◌∷◌, length, cond, String, Option, Some, None, is_some}
use Rattle.std.specs.{Option.option_or, declared.alloc.Global.Global}
use Rattle.indexmap.specs.IndexMap.{IndexMap, get_by_text}
use Rattle.lra_syntax.specs.declared.trees.ExternalDeclaration.{ExternalDeclaration}
use Rattle.lra_syntax.specs.{Functions.is_named, Trees.FunctionTree}
use Rattle.lra_scopes.specs.{Calls.functions_at, declared.signatures.Signature.Signature}

-- of a function at a place in the list of functions
abbrev pub signature_at : ℕ → FunctionTree → Signature
signature_at place f = record { place = place; parameters = length f.parameters; has_result = is_some f.result_type }

-- of a function at a place, if it has this name
abbrev pub named_signature : List ℕ → ℕ → FunctionTree → Option Signature
named_signature name place f = cond (is_named name f) (Some (signature_at place f)) None

-- of the first of this name among functions that stand from a place on
abbrev pub first_signature : List ℕ → ℕ → List FunctionTree → Option Signature
first_signature name place [] = None
first_signature name place (f ∷ fs) = option_or (named_signature name place f) (first_signature name (suc place) fs)

-- the index has the signature of the first function of each name
abbrev pub HasSignatures : {S : Type 0} → IndexMap (String Global) Signature S → List ExternalDeclaration → Type 0
HasSignatures signatures parts = (name : List ℕ) → get_by_text signatures name
    ≡ first_signature name 0 (functions_at parts)
