-- The program of a source whose literals are small and whose names have no faults is well-formed.
use Rattle.std.proofs.Common.{◌≡◌, ℕ, zero, suc, ◌+◌, ◌≤◌, List, [], ◌∷◌, ◌++◌, length, map, Option, Some, None, Bool, true, false, not, nat_eq, cond, refl, sym, subst, ap, ◌∙◌, arith, length-append}
use Rattle.std.proofs.lemmas.Bool.{not-false}
use Rattle.std.proofs.{lemmas.Bool.eqb-true, lemmas.List.length-map, lemmas.Option.same_Some, lemmas.Option.none-some, lemmas.Option.slice_get_within, lemmas.Option.get_or_from_slice_get}
use Rattle.std.specs.{List.AllByRecursion, List.Contains, List.list_any, List.flat_map, Prelude.IsTrue, Prelude.is_some, Prelude.slice_get, Prelude.codes, Prelude.if◌then◌else◌, Prelude.◌||◌}
use Rattle.lra_base.specs.{NumberTypes.fits, declared.number_types.NumberType.NumberType, declared.number_types.NumberType.TheVariants.Int, declared.number_types.NumberType.TheVariants.Long}
use Rattle.lra_front_end.specs.Crates.lra_program.WellFormed.{AreGoodItems, IsGoodFunction, IsWellFormed, no_jumps}
use Rattle.lra_front_end.specs.Crates.lra_resolution_spec.NameFaults.{parameters_faults, function_faults, shape_faults, first_value_faults, globals_faults, global_names, parts_faults, name_faults}
use Rattle.lra_front_end.specs.Crates.lra_resolution_spec.Resolve.{function_place, items_count, resolve_items, resolve_function, value_or_zero, variables_by, globals_in, resolve_parts, arrays_in}
use Rattle.lra_front_end.specs.Crates.lra_resolution_spec.Resolve.{resolved_functions, main_of, resolve}
use Rattle.lra_front_end.specs.Crates.lra_resolution_spec.Scope.{SymbolEntry, width_of_all, parameter_entry, global_entries, function_scope}
use Rattle.lra_front_end.specs.Crates.lra_resolution_spec.Threads.{greatest_threads, thread_name, has_no_parameters, has_thread, thread_places_from, thread_places, thread_faults, thread_program}
use Rattle.lra_front_end.specs.Crates.lra_syntax.Functions.{functions_in, functions_of, is_named, is_main, function_named}
use Rattle.lra_front_end.specs.Crates.{lra_program.Program.Function, lra_program.Program.Program, lra_program.ProgramViews.function_or, lra_program.declared.program.GlobalVariable.GlobalVariable}
use Rattle.lra_front_end.specs.Crates.{lra_syntax.declared.trees.Parameter.Parameter, lra_syntax.declared.trees.SignedLiteral.SignedLiteral}
use Rattle.lra_front_end.specs.Crates.lra_syntax.Trees as tree
use Rattle.lra_front_end.specs.Literals.{IsSmallPart, HasSmallLiterals}
use Rattle.lra_front_end.proofs.Faultless.{none_left, none_right, none_if, width-append}
use Rattle.lra_front_end.proofs.{Declared.variables_width, Good.AreCallees, Good.good_items, Numbered.parts_run, Numbered.run_is_range}

-- globals ----------------------------------------------------------------------------------------------------------

abbrev HasItsType : GlobalVariable → Type 0
HasItsType g = IsTrue (fits g.number_type g.value)

first_fits : (t : NumberType) (v : Option SignedLiteral) → first_value_faults t v ≡ [] → IsTrue (fits t (value_or_zero v))
first_fits Int None e = refl
first_fits Long None e = refl
first_fits t (Some v) e = not-false (fits t v.value) (none_if (not (fits t v.value)) _ v.place e)

has_then : (t : NumberType) (shape : tree.ScalarOrArrayTree SignedLiteral) (more rest : List GlobalVariable) → shape_faults (first_value_faults t) shape ≡ []
    → AllByRecursion HasItsType (more ++ rest) → AllByRecursion HasItsType ((variables_by t shape ++ more) ++ rest)
has_then t (tree.scalar v) more rest e h = (first_fits t v e, h)
has_then t (tree.array n) more rest e h = h

abbrev variables_of : NumberType → tree.GlobalTree → List GlobalVariable
variables_of t g = variables_by t g.shape

have_then : (t : NumberType) (names : List (List ℕ)) (gs : List tree.GlobalTree) (rest : List GlobalVariable) → globals_faults t names gs ≡ [] → AllByRecursion HasItsType rest →
    AllByRecursion HasItsType (flat_map (variables_of t) gs ++ rest)
have_then t names [] rest e h = h
have_then t names (g ∷ gs) rest e h =
    let later = globals_faults t (names ++ g.name.word ∷ []) gs in
    let front = none_left _ later e in
    has_then t g.shape (flat_map (variables_of t) gs) rest (none_right _ (shape_faults (first_value_faults t) g.shape) front)
    (have_then t (names ++ g.name.word ∷ []) gs rest (none_right _ later e) h)

globals_have_types : (F : List tree.FunctionTree) (names : List (List ℕ)) (outside : List SymbolEntry) (ps : List tree.ExternalTree) → parts_faults F names outside ps ≡ [] →
    AllByRecursion HasItsType (globals_in ps)
globals_have_types F names outside [] e = tt
globals_have_types F names outside (tree.prototype ∷ ps) e = globals_have_types F names outside ps e
globals_have_types F names outside (tree.globals g ∷ ps) e =
    let gs = g.first ∷ g.rest in
    let later = parts_faults F (names ++ global_names gs) (outside ++ global_entries g) ps in
    have_then g.number_type names gs (globals_in ps) (none_left (globals_faults g.number_type names gs) later e)
    (globals_have_types F (names ++ global_names gs) (outside ++ global_entries g) ps (none_right (globals_faults g.number_type names gs) later e))
globals_have_types F names outside (tree.function f ∷ ps) e =
    globals_have_types F (names ++ f.name.word ∷ []) outside ps (none_right _ (parts_faults F (names ++ f.name.word ∷ []) outside ps) e)

-- functions --------------------------------------------------------------------------------------------------------

abbrev parameter_type : Parameter → NumberType
parameter_type p = p.number_type

types_length : (ps : List Parameter) → length (map parameter_type ps) ≡ length ps
types_length ps = length-map ps parameter_type

parameters_width : (ps : List Parameter) → width_of_all (map parameter_entry ps) ≡ length ps
parameters_width [] = refl
parameters_width (p ∷ ps) = let e = parameters_width ps in omega arith

module _ (P : Program) (F : List tree.FunctionTree) (callees : AreCallees P F) where
  good_function : (n : ℕ) (outside : List SymbolEntry) (f : tree.FunctionTree) → width_of_all outside ≤ length P.globals → IsSmallPart (tree.function f)
      → function_faults F outside f ≡ [] → IsGoodFunction P (resolve_function F outside n f)
  good_function n outside f few small e =
      let s = function_scope outside f.parameters in
      let body = resolve_items F s n f.body in
      subst (λ (k : ℕ). AreGoodItems P no_jumps k body) (sym (types_length f.parameters))
      (good_items P F callees (is_some f.result_type) no_jumps n (length f.parameters) (function_scope outside f.parameters) f.body
      (record { globals = few; locals = parameters_width f.parameters }) small (none_right (parameters_faults [] f.parameters) _ e))

  good_functions : (n : ℕ) (names : List (List ℕ)) (outside : List SymbolEntry) (ps : List tree.ExternalTree)
      → width_of_all outside + length (globals_in ps) ≤ length P.globals → AllByRecursion IsSmallPart ps → parts_faults F names outside ps ≡ []
      → AllByRecursion (IsGoodFunction P) (resolve_parts F outside n ps)
  good_functions n names outside [] few small e = tt
  good_functions n names outside (tree.prototype ∷ ps) few small e = good_functions n names outside ps few small.1 e
  good_functions n names outside (tree.globals g ∷ ps) few small e =
      let gs = g.first ∷ g.rest in
      let more = global_names gs in
      let new = global_entries g in
      let a = width-append outside new in
      let b = variables_width g.number_type gs in
      let c = length-append (flat_map (variables_of g.number_type) gs) (globals_in ps) in
      good_functions n (names ++ more) (outside ++ new) ps (omega (arith, few)) small.1 (none_right (globals_faults g.number_type names gs) (parts_faults F (names ++ more) (outside ++ new) ps) e)
  good_functions n names outside (tree.function f ∷ ps) few small e =
      let later = parts_faults F (names ++ f.name.word ∷ []) outside ps in
      let front = none_left _ later e in (
        good_function n outside f (omega (arith, few)) small.0 (none_right _ (function_faults F outside f) front),
        good_functions (n + suc (items_count f.body)) (names ++ f.name.word ∷ []) outside ps few small.1 (none_right _ later e),
      )

-- calls ------------------------------------------------------------------------------------------------------------

-- the program's function at a place
abbrev IsCallee : List Function → ℕ → tree.FunctionTree → Type 0
IsCallee gs k f = (g : Function) × (slice_get gs k ≡ Some g) × (length g.parameters ≡ length f.parameters)

callee_case : (b : Bool) (first f : tree.FunctionTree) (found : Option tree.FunctionTree) (g : Function) (gs : List Function) (k : ℕ) → length g.parameters ≡ length first.parameters
    → (found ≡ Some f → IsCallee gs k f) → cond b (Some first) found ≡ Some f → IsCallee (g ∷ gs) (cond b 0 (suc k)) f
callee_case true first f found g gs k same later e = (g, refl, same ∙ ap (λ (h : tree.FunctionTree). length h.parameters) (same_Some first f e))
callee_case false first f found g gs k same later e = later e

callees_in : (F : List tree.FunctionTree) (n : ℕ) (outside : List SymbolEntry) (ps : List tree.ExternalTree) (name : List ℕ) (f : tree.FunctionTree) → function_named (functions_in ps) name ≡ Some f
    → IsCallee (resolve_parts F outside n ps) (function_place (functions_in ps) name) f
callees_in F n outside [] name f e = absurd (none-some f e)
callees_in F n outside (tree.prototype ∷ ps) name f e = callees_in F n outside ps name f e
callees_in F n outside (tree.globals g ∷ ps) name f e = callees_in F n _ ps name f e
callees_in F n outside (tree.function h ∷ ps) name f e =
    let k = n + suc (items_count h.body) in
    callee_case (is_named name h) h f (function_named (functions_in ps) name) (resolve_function F outside n h) (resolve_parts F outside k ps) (function_place (functions_in ps) name)
    (types_length h.parameters)
    (λ found. callees_in F k outside ps name f found) e

-- `main` -----------------------------------------------------------------------------------------------------------

abbrev IsMain : List Function → Function → Type 0
IsMain gs g = Contains gs g × (g.parameters ≡ [])

later_main : (g x : Function) (gs : List Function) → IsMain gs x → IsMain (g ∷ gs) x
later_main g x gs h = ((suc h.0.0, omega (arith, h.0.1), h.0.2), h.1)

no_types : (ps : List Parameter) → length ps ≡ 0 → map parameter_type ps ≡ []
no_types [] e = refl
no_types (p ∷ ps) e = absurd (omega (arith, e))

main_alone : (f : tree.FunctionTree) → is_main f ≡ true → map parameter_type f.parameters ≡ []
main_alone f e = no_types f.parameters (eqb-true (length f.parameters) 0 (second (is_named (codes "main") f) (nat_eq (length f.parameters) 0) e))
  where
    second : (a b : Bool) → (if a then b else false) ≡ true → b ≡ true
    second true b e = e
    second false b e = absurd cc

main_case : (b rest : Bool) (g x : Function) (gs : List Function) → (b ≡ true → g.parameters ≡ []) → (rest ≡ true → IsMain gs x) → (b || rest) ≡ true → IsMain (g ∷ gs) (cond b g x)
main_case true rest g x gs alone later e = ((0, omega arith, refl), alone refl)
main_case false rest g x gs alone later e = later_main g x gs (later e)

main_in : (F : List tree.FunctionTree) (n : ℕ) (outside : List SymbolEntry) (ps : List tree.ExternalTree) → list_any is_main (functions_in ps) ≡ true
    → IsMain (resolve_parts F outside n ps) (main_of (functions_in ps) (resolve_parts F outside n ps))
main_in F n outside [] e = absurd cc
main_in F n outside (tree.prototype ∷ ps) e = main_in F n outside ps e
main_in F n outside (tree.globals g ∷ ps) e = main_in F n _ ps e
main_in F n outside (tree.function f ∷ ps) e =
    let gs = resolve_parts F outside (n + suc (items_count f.body)) ps in
    main_case (is_main f) (list_any is_main (functions_in ps)) (resolve_function F outside n f) (main_of (functions_in ps) gs) gs (main_alone f)
    (λ later. main_in F (n + suc (items_count f.body)) outside ps later) e

-- the whole --------------------------------------------------------------------------------------------------------

-- with any of its functions that has no parameters in the place of `main`
well_formed_with : (t : tree.FileTree) (main : Function) → HasSmallLiterals t → parts_faults (functions_of t) [] [] t.parts ≡ []
    → IsMain (resolved_functions t) main
    → IsWellFormed (record { globals = globals_in t.parts; arrays = arrays_in t.parts; functions = resolved_functions t; main = main })
well_formed_with t main small e there =
    let F = functions_of t in
    let P : Program = record { globals = globals_in t.parts; arrays = arrays_in t.parts; functions = resolved_functions t; main = main } in
    let labels = parts_run F 1 [] t.parts in
    record {
      globals = globals_have_types F [] [] t.parts e;
      labels = run_is_range 1 labels.0 _ labels.1;
      functions = good_functions P F (λ name f found. callees_in F 1 [] t.parts name f found) 1 [] [] t.parts (omega arith) small e;
      main = there.0;
      alone = there.1;
    }

pub well_formed : (t : tree.FileTree) → HasSmallLiterals t → name_faults t ≡ [] → IsWellFormed (resolve t)
well_formed t small e =
    let F = functions_of t in
    let parts = parts_faults F [] [] t.parts in
    well_formed_with t (main_of F (resolved_functions t)) small (none_left parts _ e)
    (main_in F 1 [] t.parts (not-false (list_any is_main F) (none_if (not (list_any is_main F)) _ _ (none_right parts _ e))))

-- threads ----------------------------------------------------------------------------------------------------------

contained : (gs : List Function) (k : ℕ) (g : Function) → slice_get gs k ≡ Some g → Contains gs g
contained gs k g e = (k, slice_get_within gs k g e, get_or_from_slice_get gs k g g e)

no_more_types : (g : Function) (f : tree.FunctionTree) → length g.parameters ≡ length f.parameters → nat_eq (length f.parameters) 0 ≡ true → g.parameters ≡ []
no_more_types g f same e = none_there g.parameters (same ∙ eqb-true (length f.parameters) 0 e)
  where
    none_there : (ts : List NumberType) → length ts ≡ 0 → ts ≡ []
    none_there [] h = refl
    none_there (t ∷ ts) h = absurd (omega (arith, h))

-- a function that is named and has no parameters
alone_in : (t : tree.FileTree) (name : List ℕ) (found : Option tree.FunctionTree) → function_named (functions_of t) name ≡ found
    → has_no_parameters found ≡ true
    → IsMain (resolved_functions t) (function_or (slice_get (resolved_functions t) (function_place (functions_of t) name)))
alone_in t name None e alone = absurd cc
alone_in t name (Some f) e alone =
    let (g, at, same) = callees_in (functions_of t) 1 [] t.parts name f e in
    subst (λ o. IsMain (resolved_functions t) (function_or o)) (sym at)
    (contained (resolved_functions t) (function_place (functions_of t) name) g at, no_more_types g f same alone)

module _ (t : tree.FileTree) (small : HasSmallLiterals t) (e : parts_faults (functions_of t) [] [] t.parts ≡ []) where
  more_formed : (there : Bool) (k : ℕ) (places : List ℕ) → has_thread (functions_of t) k ≡ there
      → AllByRecursion (λ place. IsWellFormed (thread_program t place)) places
      → AllByRecursion (λ place. IsWellFormed (thread_program t place)) (if there then function_place (functions_of t) (thread_name k) ∷ places else [])
  more_formed false k places is h = tt
  more_formed true k places is h = (
    well_formed_with t _ small e (alone_in t (thread_name k) (function_named (functions_of t) (thread_name k)) refl is),
    h,
  )

  formed_from : (more k : ℕ) → AllByRecursion (λ place. IsWellFormed (thread_program t place)) (thread_places_from (functions_of t) more k)
  formed_from zero k = tt
  formed_from (suc more) k = more_formed (has_thread (functions_of t) k) k (thread_places_from (functions_of t) more (suc k)) refl (formed_from more (suc k))

-- the program of each thread of a source whose literals are small and whose names have no faults is well-formed
pub threads_formed : (t : tree.FileTree) → HasSmallLiterals t → thread_faults t ≡ []
    → AllByRecursion (λ place. IsWellFormed (thread_program t place)) (thread_places t)
threads_formed t small e = formed_from t small (none_left (parts_faults (functions_of t) [] [] t.parts) _ e) greatest_threads 0
