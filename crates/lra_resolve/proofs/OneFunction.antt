-- One function: its parameters, then its body in their scope.
use Rattle.std.proofs.Common.{◌≡◌, ℕ, ◌+◌, Bool, List, [], ◌++◌, map, refl, sym, is_some}
use Rattle.lra_syntax.specs.{Trees.FunctionTree, declared.trees.Parameter.Parameter}
use Rattle.lra_program.specs.Program as program
use Rattle.lra_resolve.specs.Crates.lra_resolution_spec.NameFaults.{Around, function_faults, items_faults, parameters_faults}
use Rattle.lra_resolve.specs.Crates.lra_resolution_spec.Resolve.{items_count, resolve_function, resolve_items}
use Rattle.lra_resolve.specs.Crates.lra_resolution_spec.Scope.{SymbolEntry, Scope, function_scope}
use Rattle.lra_program.specs.WellFormed.{no_jumps}

abbrev around_body : List FunctionTree → Bool → Around
around_body F b = record { functions = F; has_result = b; jumps = no_jumps }

pub function_faults_split : (F : List FunctionTree) (outside : List SymbolEntry) (f : FunctionTree) (b : Bool) (ps : List Parameter) (s : Scope)
    → b ≡ is_some f.result_type
    → ps ≡ f.parameters → s ≡ function_scope outside ps →
    function_faults F outside f ≡ parameters_faults [] ps ++ items_faults (around_body F b) s f.body
function_faults_split F outside f b ps s has same at = rw (has, at, same) refl

pub function_found : (F : List FunctionTree) (outside : List SymbolEntry) (n : ℕ) (f : FunctionTree) (made : program.Function) →
    made.result_type ≡ f.result_type
    → made.parameters ≡ map (λ (p : Parameter). p.number_type) f.parameters →
    made.body ≡ resolve_items F (function_scope outside f.parameters) n f.body → made.end ≡ n + items_count f.body → made ≡ resolve_function F outside n f
function_found F outside n f made et ep eb ee = rw (sym et, sym ep, sym eb, sym ee) refl
