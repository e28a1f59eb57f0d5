-- What the values of the code stand for.
use Rattle.std.specs.Prelude.{◌≤◌, ℤ, pos, ◌<ℤ◌, List, [], ◌∷◌, map, ℕ, Option, option_map, Vec, string_bytes}
use Rattle.std.specs.{Borrow.Bor, List.All, declared.alloc.Global.Global}
use Rattle.lra_script.specs.Crates.lra_linear_spec.Kinds.{is_equality}
use Rattle.lra_script.specs.Crates.{lra_linear_spec.Descriptions.LinearRow, lra_linear_spec.declared.GenKind.GenKind}
use Rattle.lra_script.specs.Crates.lra_linear_spec.declared.GenKind.TheVariants as gen
use Rattle.lra_script.specs.LineForms as form
use Rattle.lra_script.specs.{declared.lines.Line.Line, declared.questions.Question.Question}
use Rattle.lra_script.specs.{declared.recipes.Recipe.Recipe, declared.rows.Constraint.Constraint}
use Rattle.lra_script.specs.declared.rows.Generator as G
use Rattle.lra_script.specs.declared.recipes.Recipe.TheVariants as recipe
use Rattle.lra_script.specs.declared.questions.Question.TheVariants as question
use Rattle.lra_script.specs.declared.lines.Line.TheVariants as code

abbrev pub texts : List (Bor (List ℕ)) → List (List ℕ)
texts words = map (λ w. w.now) words

abbrev pub option_items : {A : Type 0} → Option (Vec A Global) → Option (List A)
option_items r = option_map (λ v. v.items) r

abbrev pub constraint_of : Constraint → LinearRow
constraint_of c = record { row = c.row; equal = is_equality c.kind }

abbrev pub constraints_of : Option (Vec Constraint Global) → Option (List LinearRow)
constraints_of r = option_map (λ v. map constraint_of v.items) r

abbrev pub generator_view : G.Generator → form.Generator
generator_view g = record { kind = g.kind; numbers = g.numbers }

abbrev pub generators_of : Option (Vec G.Generator Global) → Option (List form.Generator)
generators_of r = option_map (λ v. map generator_view v.items) r

abbrev pub recipe_said : Recipe → form.Recipe
recipe_said (recipe.Con rows) = form.Con (map constraint_of rows.items)
recipe_said (recipe.Gen generators) = form.Gen (map generator_view generators.items)
recipe_said (recipe.Combine how first second) = form.Combine how (string_bytes first) (string_bytes second)
recipe_said (recipe.Widen first second) = form.Widen (string_bytes first) (string_bytes second)
recipe_said (recipe.Limited first second given) =
    form.Limited (string_bytes first) (string_bytes second) (map constraint_of given.items)
recipe_said (recipe.Map how from k numbers) = form.Map how (string_bytes from) k numbers.items
recipe_said (recipe.Forget from k) = form.Forget (string_bytes from) k

abbrev pub recipe_view : Option Recipe → Option form.Recipe
recipe_view r = option_map recipe_said r

abbrev pub question_said : Question → form.Question
question_said (question.Show name) = form.Show (string_bytes name)
question_said (question.Holds name point) = form.Holds (string_bytes name) point.items
question_said (question.Include first second) = form.Include (string_bytes first) (string_bytes second)
question_said (question.Maximise name numbers) = form.Maximise (string_bytes name) numbers.items

abbrev pub question_view : Option Question → Option form.Question
question_view r = option_map question_said r

abbrev pub said : Line → form.Line
said (code.Dims n) = form.Dims n
said (code.Make name r) = form.Make (string_bytes name) (recipe_said r)
said (code.Ask q) = form.Ask (question_said q)

abbrev pub line_view : Option Line → Option form.Line
line_view r = option_map said r

-- a divisor that is there is at least 1
abbrev pub HasDivisor : List ℤ → Type 0
HasDivisor [] = Unit {0}
HasDivisor (d ∷ numbers) = pos 0 <ℤ d

-- only a point has a divisor
abbrev pub IsDivided : GenKind → List ℤ → Type 0
IsDivided gen.Point numbers = HasDivisor numbers
IsDivided gen.Ray numbers = Unit {0}
IsDivided gen.Line numbers = Unit {0}

-- what recipes, questions and lines keep that are read
abbrev pub IsRecipe : Recipe → Type 0
IsRecipe (recipe.Con rows) = Unit {0}
IsRecipe (recipe.Gen generators) = All (λ g. IsDivided g.kind g.numbers) generators.items
IsRecipe (recipe.Combine how first second) = Unit {0}
IsRecipe (recipe.Widen first second) = Unit {0}
IsRecipe (recipe.Limited first second given) = Unit {0}
IsRecipe (recipe.Map how from k numbers) = Unit {0}
IsRecipe (recipe.Forget from k) = Unit {0}

abbrev pub IsQuestion : Question → Type 0
IsQuestion (question.Show name) = Unit {0}
IsQuestion (question.Holds name point) = HasDivisor point.items
IsQuestion (question.Include first second) = Unit {0}
IsQuestion (question.Maximise name numbers) = Unit {0}

abbrev pub IsLine : Line → Type 0
IsLine (code.Dims n) = n ≤ form.greatest_dims
IsLine (code.Make name r) = IsRecipe r
IsLine (code.Ask q) = IsQuestion q
