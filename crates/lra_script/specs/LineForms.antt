-- What a line says, by its words. Whether names were made and how many numbers a row must have is not asked here.
use Rattle.std.specs.Prelude.{ℕ, zero, suc, ◌^◌, ℤ, pos, negsuc, nat_le, nat_lt, Bool, true, false, List, [], ◌∷◌}
use Rattle.std.specs.Prelude.{codes, bytes_eq, if◌then◌else◌, Option, Some, None, option_map, option_and_then}
use Rattle.std.specs.{List.slice_split, Option.option_or}
use Rattle.lra_base.specs.Limits.{greatest_live}
use Rattle.lra_script.specs.Crates.lra_linear_spec.Descriptions.{LinearRow, generator, line}
use Rattle.lra_script.specs.Crates.lra_linear_spec.declared.GenKind.{GenKind}
use Rattle.lra_script.specs.Crates.lra_linear_spec.declared.GenKind.TheVariants as gen
use Rattle.lra_script.specs.ScriptText.{is_name, number_of}
use Rattle.lra_script.specs.declared.recipes.Combination.TheVariants.{Meet, Hull, Elapse}
use Rattle.lra_script.specs.declared.recipes.Mapping.TheVariants.{Image, Preimage}
use Rattle.lra_script.specs.{declared.recipes.Combination.Combination, declared.recipes.Mapping.Mapping}

-- a generator as it is written: a point's divisor stands before its numerators
pub record Generator : Type 0 where
  pub kind : GenKind
  pub numbers : List ℤ

-- how a set is made
pub data Recipe : Type 0 where
  -- con R ROW ; ROW ..: of what meets these constraints
  Con : List LinearRow → Recipe
  -- gen R G ; G ..: of what these points, rays and lines generate
  Gen : List Generator → Recipe
  -- meet R P Q, hull R P Q, elapse R P Q: of P and Q
  Combine : Combination → List ℕ → List ℕ → Recipe
  -- widen R P Q: of P, widened by Q, in which it lies
  Widen : List ℕ → List ℕ → Recipe
  -- limited R P Q ROW ; ROW ..: so, and of these constraints those that are valid on both stay
  Limited : List ℕ → List ℕ → List LinearRow → Recipe
  -- image R P K FORM, preimage R P K FORM: of P, by the form c0 + c1*x1 + .. + cN*xN in place of coordinate K
  Map : Mapping → List ℕ → ℕ → List ℤ → Recipe
  -- forget R P K: of P, with any value of coordinate K
  Forget : List ℕ → ℕ → Recipe

-- what is asked of sets
pub data Question : Type 0 where
  -- show P: the constraints and the generators of P
  Show : List ℕ → Question
  -- holds P d n1 .. nN: whether the point n1/d, .., nN/d is in P; d comes first
  Holds : List ℕ → List ℤ → Question
  -- include P Q: whether each point of P is in Q
  Include : List ℕ → List ℕ → Question
  -- maximise P c0 c1 .. cN: the greatest value of the form c0 + c1*x1 + .. + cN*xN on P
  Maximise : List ℕ → List ℤ → Question

pub data Line : Type 0 where
  -- dims N: how many dimensions all that follows has
  Dims : ℕ → Line
  -- the name is to stand for the set that the recipe makes
  Make : List ℕ → Recipe → Line
  -- the answer is to be printed
  Ask : Question → Line

abbrev pub with_first : {A : Type 0} → Option A → Option (List A) → Option (List A)
with_first None rest = None
with_first (Some x) rest = option_map (λ xs. x ∷ xs) rest

-- all of these, if each is one
abbrev pub all_of : {A B : Type 0} → (A → Option B) → List A → Option (List B)
all_of one [] = Some []
all_of one (x ∷ xs) = with_first (one x) (all_of one xs)

-- the most dimensions
abbrev pub greatest_dims : ℕ
greatest_dims = greatest_live

-- a number of dimensions, or of a coordinate
abbrev pub small_count : ℤ → Option ℕ
small_count (pos n) = if nat_le n greatest_dims then Some n else None
small_count (negsuc n) = None

abbrev pub small_number : List ℕ → Option ℕ
small_number word = option_and_then small_count (number_of word)

-- one such number, and nothing else
abbrev pub lone_number : List (List ℕ) → Option ℕ
lone_number [] = None
lone_number (word ∷ []) = small_number word
lone_number (word ∷ more ∷ rest) = None

-- whether an equality is meant, or an inequality
abbrev pub equality_of : List ℕ → Option Bool
equality_of relation = if bytes_eq relation (codes ">=") then Some false
    else (if bytes_eq relation (codes "=") then Some true else None)

-- a row: `>=` or `=`, then numbers
abbrev pub row_of : List (List ℕ) → Option LinearRow
row_of [] = None
row_of (relation ∷ numbers) =
    option_and_then (λ equal. option_map (λ row. record { row = row; equal = equal }) (all_of number_of numbers))
    (equality_of relation)

-- no part, or parts with a `;` between each two
abbrev pub parts_of : {A : Type 0} → (List (List ℕ) → Option A) → List (List ℕ) → Option (List A)
parts_of part_of [] = Some []
parts_of part_of (word ∷ words) = all_of part_of (slice_split (λ w. bytes_eq w (codes ";")) (word ∷ words))

-- what is said after a name
abbrev pub with_name : {A : Type 0} → List ℕ → Option A → Option A
with_name name said = if is_name name then said else None

-- a divisor is at least 1
abbrev pub with_divisor : List ℤ → Option (List ℤ)
with_divisor [] = Some []
with_divisor (pos zero ∷ numbers) = None
with_divisor (pos (suc d) ∷ numbers) = Some (pos (suc d) ∷ numbers)
with_divisor (negsuc d ∷ numbers) = None

abbrev pub kind_of : List ℕ → Option GenKind
kind_of word =
    if bytes_eq word (codes "point") then Some gen.Point
    else (if bytes_eq word (codes "ray") then Some gen.Ray
    else (if bytes_eq word (codes "line") then Some gen.Line else None))

-- only a point has a divisor
abbrev pub divided : GenKind → List ℤ → Option (List ℤ)
divided gen.Point numbers = with_divisor numbers
divided gen.Ray numbers = Some numbers
divided gen.Line numbers = Some numbers

-- a generator: `point`, `ray` or `line`, then numbers
abbrev pub generator_of : List (List ℕ) → Option Generator
generator_of [] = None
generator_of (word ∷ words) =
    option_and_then (λ kind.
    option_map (λ numbers. record { kind = kind; numbers = numbers })
    (option_and_then (divided kind) (all_of number_of words))) (kind_of word)

-- as a row of n + 1 columns: column 0 of a ray and of a line is 0, and isn't written
abbrev pub row_of_written : GenKind → List ℤ → LinearRow
row_of_written gen.Point numbers = generator numbers
row_of_written gen.Ray numbers = generator (pos 0 ∷ numbers)
row_of_written gen.Line numbers = line (pos 0 ∷ numbers)

abbrev pub row_of_generator : Generator → LinearRow
row_of_generator g = row_of_written g.kind g.numbers

-- recipes ----------------------------------------------------------------------------------------------------------

-- of two sets
abbrev pub combine_recipe : Combination → List (List ℕ) → Option Recipe
combine_recipe how [] = None
combine_recipe how (first ∷ []) = None
combine_recipe how (first ∷ second ∷ []) = with_name first (with_name second (Some (Combine how first second)))
combine_recipe how (first ∷ second ∷ more ∷ rest) = None

abbrev pub widen_recipe : List (List ℕ) → Option Recipe
widen_recipe [] = None
widen_recipe (first ∷ []) = None
widen_recipe (first ∷ second ∷ []) = with_name first (with_name second (Some (Widen first second)))
widen_recipe (first ∷ second ∷ more ∷ rest) = None

-- without a row nothing more stays than in a widening
abbrev pub limited_recipe : List (List ℕ) → Option Recipe
limited_recipe [] = None
limited_recipe (first ∷ []) = None
limited_recipe (first ∷ second ∷ rest) =
    with_name first (with_name second (option_map (Limited first second) (parts_of row_of rest)))

-- a number of a form has 64 bits
abbrev pub with_64_bits : ℤ → Option ℤ
with_64_bits (pos n) = if nat_lt n (2 ^ 63) then Some (pos n) else None
with_64_bits (negsuc n) = if nat_lt n (2 ^ 63) then Some (negsuc n) else None

abbrev pub coefficient_of : List ℕ → Option ℤ
coefficient_of word = option_and_then with_64_bits (number_of word)

-- that K is one from 1 to N is asked if N is known
abbrev pub map_after : Mapping → List ℕ → List (List ℕ) → Option Recipe
map_after how from [] = None
map_after how from (word ∷ form) =
    option_and_then (λ k. option_map (Map how from k) (all_of coefficient_of form)) (small_number word)

abbrev pub map_recipe : Mapping → List (List ℕ) → Option Recipe
map_recipe how [] = None
map_recipe how (from ∷ rest) = with_name from (map_after how from rest)

abbrev pub forget_recipe : List (List ℕ) → Option Recipe
forget_recipe [] = None
forget_recipe (from ∷ rest) = with_name from (option_map (Forget from) (lone_number rest))

-- of one set
abbrev pub change_recipe : List ℕ → List (List ℕ) → Option Recipe
change_recipe word rest =
    if bytes_eq word (codes "image") then map_recipe Image rest
    else (if bytes_eq word (codes "preimage") then map_recipe Preimage rest
    else (if bytes_eq word (codes "forget") then forget_recipe rest else None))

-- of two sets
abbrev pub pair_recipe : List ℕ → List (List ℕ) → Option Recipe
pair_recipe word rest =
    if bytes_eq word (codes "meet") then combine_recipe Meet rest
    else (if bytes_eq word (codes "hull") then combine_recipe Hull rest
    else (if bytes_eq word (codes "elapse") then combine_recipe Elapse rest
    else (if bytes_eq word (codes "widen") then widen_recipe rest
    else (if bytes_eq word (codes "limited") then limited_recipe rest else None))))

-- what comes after the name
abbrev pub recipe_of : List ℕ → List (List ℕ) → Option Recipe
recipe_of word rest =
    if bytes_eq word (codes "con") then option_map Con (parts_of row_of rest)
    else (if bytes_eq word (codes "gen") then option_map Gen (parts_of generator_of rest)
    else option_or (pair_recipe word rest) (change_recipe word rest))

abbrev pub make_line : List ℕ → List (List ℕ) → Option Line
make_line word [] = None
make_line word (name ∷ rest) = with_name name (option_map (Make name) (recipe_of word rest))

-- questions --------------------------------------------------------------------------------------------------------

abbrev pub show_question : List (List ℕ) → Option Question
show_question [] = None
show_question (name ∷ []) = with_name name (Some (Show name))
show_question (name ∷ more ∷ rest) = None

abbrev pub holds_question : List (List ℕ) → Option Question
holds_question [] = None
holds_question (name ∷ numbers) =
    with_name name (option_map (Holds name) (option_and_then with_divisor (all_of number_of numbers)))

abbrev pub include_question : List (List ℕ) → Option Question
include_question [] = None
include_question (first ∷ []) = None
include_question (first ∷ second ∷ []) = with_name first (with_name second (Some (Include first second)))
include_question (first ∷ second ∷ more ∷ rest) = None

abbrev pub maximise_question : List (List ℕ) → Option Question
maximise_question [] = None
maximise_question (name ∷ form) = with_name name (option_map (Maximise name) (all_of coefficient_of form))

abbrev pub question_of : List ℕ → List (List ℕ) → Option Question
question_of word rest =
    if bytes_eq word (codes "show") then show_question rest
    else (if bytes_eq word (codes "holds") then holds_question rest
    else (if bytes_eq word (codes "include") then include_question rest
    else (if bytes_eq word (codes "maximise") then maximise_question rest else None)))

-- lines ------------------------------------------------------------------------------------------------------------

-- what the words say, or none if they are no line
abbrev pub line_of : List (List ℕ) → Option Line
line_of [] = None
line_of (word ∷ rest) =
    if bytes_eq word (codes "dims") then option_map Dims (lone_number rest)
    else option_or (make_line word rest) (option_map Ask (question_of word rest))
