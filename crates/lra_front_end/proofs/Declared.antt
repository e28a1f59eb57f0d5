-- What a name is declared as: a scalar is one variable more, an array none.
use Rattle.std.proofs.Common.{◌≡◌, ℕ, suc, ◌+◌, List, [], ◌∷◌, length, map, refl, arith, length-append}
use Rattle.std.specs.List.{flat_map}
use Rattle.lra_base.specs.declared.number_types.NumberType.{NumberType}
use Rattle.lra_front_end.specs.Crates.lra_resolution_spec.Resolve.{resolve_declared, variables_by}
use Rattle.lra_front_end.specs.Crates.lra_resolution_spec.Scope.{Scope, Binding, width_of, width_of_all, binding_of, global_entry}
use Rattle.lra_front_end.specs.Crates.lra_syntax.Trees.{RvalueTree, ScalarOrArrayTree, scalar, array, FunctionTree, GlobalTree}
use Rattle.lra_front_end.specs.Crates.{lra_program.Program.BlockItems, lra_program.Sites.live_after_items, lra_program.WellFormed.items_numbers, lra_syntax.Labels.name_in}
use Rattle.lra_front_end.specs.Crates.{lra_syntax.declared.trees.Identifier.Identifier, lra_syntax.declared.trees.SignedLiteral.SignedLiteral}
use Rattle.lra_front_end.specs.Crates.lra_resolution_spec.Scope as scope

-- how many variables there are with one more name
abbrev pub wider : Binding → ℕ → ℕ
wider (scope.scalar t) live = suc live
wider (scope.array a) live = live

pub wider_is : (m : Binding) (live : ℕ) → wider m live ≡ width_of m + live
wider_is (scope.scalar t) live = omega arith
wider_is (scope.array a) live = omega arith

pub name_width : {A : Type 0} (t : NumberType) (x : Identifier) (shape : ScalarOrArrayTree A) → length (name_in x.word shape) ≡ width_of (binding_of t x shape)
name_width t x (scalar e) = refl
name_width t x (array n) = refl

pub behind_declared : (F : List FunctionTree) (n live : ℕ) (s : Scope) (t : NumberType) (x : Identifier) (shape : ScalarOrArrayTree RvalueTree)
    (items : BlockItems)
    → live_after_items live (resolve_declared F s n t x shape items) ≡ live_after_items (wider (binding_of t x shape) live) items
behind_declared F n live s t x (scalar e) items = refl
behind_declared F n live s t x (array c) items = refl

pub declared_numbers : (F : List FunctionTree) (n : ℕ) (s : Scope) (t : NumberType) (x : Identifier) (shape : ScalarOrArrayTree RvalueTree) (items : BlockItems)
    → items_numbers (resolve_declared F s n t x shape items) ≡ n ∷ items_numbers items
declared_numbers F n s t x (scalar e) items = refl
declared_numbers F n s t x (array c) items = refl

-- globals of one type, by their names and as variables
pub names_width : (t : NumberType) (gs : List GlobalTree) → length (flat_map (λ (g : GlobalTree). name_in g.name.word g.shape) gs) ≡ width_of_all (map (global_entry t) gs)
names_width t [] = refl
names_width t (g ∷ gs) =
    let a = length-append (name_in g.name.word g.shape) (flat_map (λ (g : GlobalTree). name_in g.name.word g.shape) gs) in
    let b = name_width t g.name g.shape in
    let c = names_width t gs in omega arith

variable_width : (t : NumberType) (x : Identifier) (shape : ScalarOrArrayTree SignedLiteral) → length (variables_by t shape) ≡ width_of (binding_of t x shape)
variable_width t x (scalar e) = refl
variable_width t x (array n) = refl

pub variables_width : (t : NumberType) (gs : List GlobalTree) → length (flat_map (λ (g : GlobalTree). variables_by t g.shape) gs) ≡ width_of_all (map (global_entry t) gs)
variables_width t [] = refl
variables_width t (g ∷ gs) =
    let a = length-append (variables_by t g.shape) (flat_map (λ (g : GlobalTree). variables_by t g.shape) gs) in
    let b = variable_width t g.name g.shape in
    let c = variables_width t gs in omega arith
