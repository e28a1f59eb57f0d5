-- Functions, globals and the whole source, part by part.
use Rattle.std.proofs.Common.{◌≡◌, ℕ, suc, List, [], ◌∷◌, ◌++◌, map, refl, ◌∙◌, append_assoc, Bool, true, false, slice_get, cond}
use Rattle.std.proofs.lemmas.List.{map-append}
use Rattle.std.specs.{List.list_any, Prelude.◌||◌}
use Rattle.lra_base.specs.{declared.error.SourceError.SourceError, declared.number_types.NumberType.NumberType}
use Rattle.lra_syntax.specs.{Functions.is_main, Trees.FunctionTree, Trees.GlobalTree}
use Rattle.lra_program.specs.Program as program
use Rattle.lra_program.specs.ProgramViews.{function_or}
use Rattle.lra_resolve.specs.Crates.lra_resolution_spec.NameFaults.{is_taken, first_value_faults, shape_faults, globals_faults}
use Rattle.lra_resolve.specs.Crates.lra_resolution_spec.Resolve.{main_of}
use Rattle.lra_resolve.specs.Mains.{main_place}
use Rattle.lra_scopes.specs.Outcome.{IsFirstFault}
use Rattle.lra_scopes.proofs.FirstFaults.{tells_front, tells_behind}

main_case : (b : Bool) (rest : Bool) (g : program.Function) (gs : List program.Function) (k : ℕ) (other : program.Function)
    → (rest ≡ true → other ≡ function_or (slice_get gs k)) → b || rest ≡ true
    → cond b g other ≡ function_or (slice_get (g ∷ gs) (cond b 0 (suc k)))
main_case true rest g gs k other h e = refl
main_case false rest g gs k other h e = h e

main_none : (b rest : Bool) (k j : ℕ) → b || rest ≡ true → function_or (slice_get [] (cond b 0 (suc k))) ≡ function_or (slice_get [] j)
main_none true rest k j e = refl
main_none false rest k j e = refl

-- the function at the place of `main`
pub main_at : (fs : List FunctionTree) (gs : List program.Function) → list_any is_main fs ≡ true → main_of fs gs ≡ function_or (slice_get gs (main_place fs))
main_at [] gs e = absurd cc
main_at (f ∷ fs) [] e = main_none (is_main f) (list_any is_main fs) (main_place fs) 0 e
main_at (f ∷ fs) (g ∷ gs) e = main_case (is_main f) (list_any is_main fs) g gs (main_place fs) (main_of fs gs) (λ h. main_at fs gs h) e

pub ruleset function_rules = (tells_front, tells_behind)

-- a first value that its type doesn't have, and a length that no array has, are reported after a name that isn't taken
pub shape_told : (t : NumberType) (names : List (List ℕ)) (g : GlobalTree) (rest : List GlobalTree) (e : SourceError) → is_taken g.name.word names ≡ false
    → IsFirstFault (shape_faults (first_value_faults t) g.shape) e → IsFirstFault (globals_faults t names (g ∷ rest)) e
shape_told t names g rest e free told =
    rw free (tells_front (shape_faults (first_value_faults t) g.shape) (globals_faults t (names ++ g.name.word ∷ []) rest) e told)

pub ruleset global_rules = (tells_front, tells_behind, shape_told)

pub ruleset part_rules = (append_assoc, map-append, tells_front, tells_behind)

pub ruleset main_rules = (main_at, tells_front, tells_behind)
