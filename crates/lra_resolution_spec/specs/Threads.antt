-- The threads of a source: its functions `t1`, `t2` and on, as far as the numbers are consecutive and each is defined
-- without parameters, at most eight. The first definition of a name counts. `main` is an ordinary function: it may be
-- missing, or have parameters.
use Rattle.std.specs.Prelude.{ℕ, zero, suc, ◌+◌, Bool, false, not, if◌then◌else◌, ◌&&◌, nat_eq, List, [], ◌∷◌, ◌++◌}
use Rattle.std.specs.Prelude.{length, map, Option, Some, None, slice_get}
use Rattle.lra_resolution_spec.specs.Crates.lra_base.declared.refusals.Cause.TheVariants.{NoThreads}
use Rattle.lra_resolution_spec.specs.Crates.lra_base.declared.refusals.Refusal.{Refusal}
use Rattle.lra_syntax.specs.{Functions.functions_of, Functions.function_named, Trees.FunctionTree, Trees.FileTree}
use Rattle.lra_program.specs.{Program.Program, ProgramViews.function_or}
use Rattle.lra_resolution_spec.specs.NameFaults.{fault_if, parts_faults}
use Rattle.lra_resolution_spec.specs.Resolve.{function_place, globals_in, arrays_in, resolved_functions}

abbrev pub greatest_threads : ℕ
greatest_threads = 8

-- counted from 0: `t1` (116 and 49 are the bytes of `t` and `1`)
abbrev pub thread_name : ℕ → List ℕ
thread_name k = 116 ∷ (49 + k) ∷ []

abbrev pub has_no_parameters : Option FunctionTree → Bool
has_no_parameters None = false
has_no_parameters (Some f) = nat_eq (length f.parameters) 0

abbrev pub has_thread : List FunctionTree → ℕ → Bool
has_thread F k = has_no_parameters (function_named F (thread_name k))

-- the places of the functions of the threads from k on, at most so many
abbrev pub thread_places_from : List FunctionTree → ℕ → ℕ → List ℕ
thread_places_from F zero k = []
thread_places_from F (suc more) k =
    if has_thread F k then function_place F (thread_name k) ∷ thread_places_from F more (suc k) else []

abbrev pub thread_places : FileTree → List ℕ
thread_places t = thread_places_from (functions_of t) greatest_threads 0

-- as all faults of names, but that two threads are asked for in place of `main`
abbrev pub thread_faults : FileTree → List Refusal
thread_faults t =
    let F = functions_of t in
    parts_faults F [] [] t.parts ++ fault_if (not (has_thread F 0 && has_thread F 1)) NoThreads t.end

-- what the source means with the function at this place in the place of `main`
abbrev pub thread_program : FileTree → ℕ → Program
thread_program t place = record {
  globals = globals_in t.parts;
  arrays = arrays_in t.parts;
  functions = resolved_functions t;
  main = function_or (slice_get (resolved_functions t) place);
}

abbrev pub thread_programs : FileTree → List Program
thread_programs t = map (thread_program t) (thread_places t)
