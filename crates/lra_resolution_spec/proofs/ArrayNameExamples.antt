-- Names of arrays: what they mean, and the faults of names at their places. Which slip an example would catch stands
-- beside it.
use Rattle.std.proofs.Common.{◌≡◌, ℕ, pos, List, [], ◌∷◌, None, refl, map}
use Rattle.std.specs.Prelude.{codes}
use Rattle.lra_resolution_spec.specs.Crates.lra_base.declared.number_types.NumberType.TheVariants.{Int, Long}
use Rattle.lra_resolution_spec.specs.Crates.lra_base.declared.refusals.Cause.TheVariants.{UnknownName, DuplicateName, BadLength, NotArray}
use Rattle.lra_resolution_spec.specs.Crates.{lra_base.declared.refusals.Cause.Cause, lra_base.declared.refusals.Refusal.Refusal}
use Rattle.lra_syntax.specs.Trees.{element, expression, set, set_element, scalar, array, DeclaratorTree, DeclarationTree, block, assign, ItemsTree, no_items, declaration, statement, globals, function}
use Rattle.lra_syntax.specs.{Labels.labels_of, Trees.FileTree, declared.trees.Identifier.Identifier}
use Rattle.lra_program.specs.declared.arrays.Array.{Array}
use Rattle.lra_program.specs.Program as program
use Rattle.lra_resolution_spec.specs.{LiveNames.globals_named, NameFaults.name_faults, Resolve.resolve}
use Rattle.lra_program.proofs.RunExamples.{long_variable}
use Rattle.lra_syntax.proofs.TreeSamples.{at, name_at, x_at, literal_text, use_of, alone, declared_as, main_function, main_of}

abbrev fault : Cause → ℕ → Refusal
fault c column = record { cause = c; place = at column }

abbrev a_at : ℕ → Identifier
a_at c = name_at (codes "a") c

abbrev i_at : ℕ → Identifier
i_at c = name_at (codes "i") c

abbrev array_as : Identifier → ℕ → ℕ → DeclaratorTree
array_as x n c = record { name = x; shape = array (record { value = n; place = at c }) }

abbrev of_longs : DeclaratorTree → List DeclaratorTree → DeclarationTree
of_longs d ds = record { number_type = Long; first = d; rest = ds }

abbrev array_at : ℕ → ℕ → Array
array_at c n = record { declared = at c; length = n; number_type = Long }

-- what they mean -------------------------------------------------------------------------------------------------------

-- int main(void){ long a[2]; long i; a[i]=a[1]; }
abbrev stored : FileTree
stored = main_of (declaration (of_longs (array_as (a_at 22) 2 24) []) (declaration (declared_as (i_at 33) None)
    (statement (assign (set_element (a_at 36) (use_of (i_at 38)) (expression (alone (element (a_at 41) (literal_text 1)))))) no_items))) 47

-- i is the first variable: catches arrays that are counted among variables
stored_body : (resolve stored).main.body ≡ program.array 1 (array_at 22 2) (program.declaration (record { label = 2; number_type = Long; rvalue = None })
    (program.statement (program.write 3 (record { array = array_at 22 2; place = at 36; index = program.read (long_variable (program.local 0)) })
    (program.value (program.element (array_at 22 2) (at 41) (program.literal Int 1)))) program.no_more))
stored_body = refl

stored_allowed : name_faults stored ≡ []
stored_allowed = refl

-- its declarator is a point, after which no variable lives more
stored_names : map (λ l. l.live) (labels_of stored) ≡ [] ∷ [] ∷ (codes "i" ∷ []) ∷ (codes "i" ∷ []) ∷ []
stored_names = refl

-- int main(void){ long x; { long x[2]; x[0]=1; } x=2; } : an array hides a variable, and the variable is there after it
abbrev hidden : FileTree
hidden = main_of (declaration (declared_as (x_at 22) None) (statement (block (declaration (of_longs (array_as (x_at 32) 2 34) [])
    (statement (assign (set_element (x_at 38) (literal_text 0) (expression (literal_text 1)))) no_items)) (at 46))
    (statement (assign (set (x_at 48) (expression (literal_text 2)))) no_items))) 53

hidden_body : (resolve hidden).main.body ≡ program.declaration (record { label = 1; number_type = Long; rvalue = None })
    (program.statement (program.block (program.array 2 (array_at 32 2) (program.statement (program.write 3
    (record { array = array_at 32 2; place = at 38; index = program.literal Int 0 }) (program.value (program.literal Int 1))) program.no_more)) 4)
    (program.statement (program.assign 5 (long_variable (program.local 0)) (program.value (program.literal Int 2))) program.no_more))
hidden_body = refl

hidden_allowed : name_faults hidden ≡ []
hidden_allowed = refl

-- long a[3], x; int main(void){ x=1; } : x is the first global variable
abbrev global_array : FileTree
global_array = record {
  parts = globals (record {
    number_type = Long;
    first = record { name = a_at 6; shape = array (record { value = 3; place = at 8 }) };
    rest = record { name = x_at 12; shape = scalar None } ∷ [];
  })
      ∷ function (main_function 19 (statement (assign (set (x_at 31) (expression (literal_text 1)))) no_items) 36) ∷ [];
  end = at 37;
}

global_array_means : (resolve global_array ≡ record {
  globals = record { number_type = Long; value = pos 0 } ∷ [];
  arrays = array_at 6 3 ∷ [];
  functions = (resolve global_array).functions;
  main = (resolve global_array).main;
}) × ((resolve global_array).main.body ≡ program.statement (program.assign 1 (long_variable (program.global 0)) (program.value (program.literal Int 1))) program.no_more)
    × (globals_named global_array.parts ≡ codes "x" ∷ [])
global_array_means = (refl, refl, refl)

-- faults ---------------------------------------------------------------------------------------------------------------

-- int main(void){ long a[n], a; }
abbrev of_length : ℕ → List DeclaratorTree → FileTree
of_length n ds = main_of (declaration (of_longs (array_as (a_at 22) n 24) ds) no_items) 40

-- catches a limit that is one too small or too great, and a length of 0
lengths : (name_faults (of_length 0 []) ≡ fault BadLength 24 ∷ []) × (name_faults (of_length 1 []) ≡ []) ×
    (name_faults (of_length 1048576 []) ≡ []) × (name_faults (of_length 1048577 []) ≡ fault BadLength 24 ∷ [])
lengths = (refl, refl, refl, refl)

-- a[0], a: the length stands before the second name; a[1], a[0]: a name before its length
name_and_length : (name_faults (of_length 0 (record { name = a_at 28; shape = scalar None } ∷ [])) ≡ fault BadLength 24 ∷ fault DuplicateName 28 ∷ []) ×
    (name_faults (of_length 1 (array_as (a_at 28) 0 30 ∷ [])) ≡ fault DuplicateName 28 ∷ fault BadLength 30 ∷ [])
name_and_length = (refl, refl)

-- long x, a[1]; and a statement
abbrev behind_both : ItemsTree → FileTree
behind_both items = main_of (declaration (of_longs (record { name = x_at 22; shape = scalar None }) (array_as (a_at 25) 1 27 ∷ [])) items) 60

-- a=1; x=a; : an array's name without an index
without_index : name_faults (behind_both (statement (assign (set (a_at 31) (expression (literal_text 1)))) (statement (assign (set (x_at 36) (expression (use_of (a_at 38))))) no_items))) ≡
    fault NotArray 31 ∷ fault NotArray 38 ∷ []
without_index = refl

-- x[0]=1; x=x[1]; : another variable's with one
with_index : name_faults (behind_both (statement (assign (set_element (x_at 31) (literal_text 0) (expression (literal_text 1))))
    (statement (assign (set (x_at 39) (expression (alone (element (x_at 41) (literal_text 1)))))) no_items))) ≡ fault NotArray 31 ∷ fault NotArray 41 ∷ []
with_index = refl

-- x[b]=c; : name, index, right side; an unknown name is reported as such with an index, too
in_text_order : name_faults
    (behind_both (statement (assign (set_element (x_at 31) (alone (element (name_at (codes "b") 33) (literal_text 0))) (expression (use_of (name_at (codes "c") 39))))) no_items)) ≡
    fault NotArray 31 ∷ fault UnknownName 33 ∷ fault UnknownName 39 ∷ []
in_text_order = refl
