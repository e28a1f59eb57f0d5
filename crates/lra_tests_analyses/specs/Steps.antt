-- The tree of `int x = input();`, of two operations at points of their own, and of its end, and the points of it: of
-- `x = x + 1; x = x - 1;`, and of `assume(x >= 0 && x < 3 && a[x] > a[a[0]]); a[x] = a[3];` with an array a of 3.
use Rattle.std.specs.Prelude.{ℕ, List, [], ◌∷◌, true, false}
use Rattle.lra_tests_analyses.specs.Crates.lra_base.Operators.{Operator, plus, minus, above, at_least, below}
use Rattle.lra_tests_analyses.specs.Crates.lra_base.declared.number_types.NumberType.TheVariants.{Int}
use Rattle.lra_tests_analyses.specs.Crates.lra_base.declared.refusals.Place.{Place}
use Rattle.lra_program.specs.Program.{local, literal, read, input, binary, element, Expr, Cond, compare, both_of}
use Rattle.lra_program.specs.Step.{Op, append, store_value, store_element, test}
use Rattle.lra_program.specs.{Receivers.variable_at, Sites.Site, declared.arrays.Array.Array}
use Rattle.lra_operations.specs.Tree.{Node, point, act, seq}

-- the operation at its point
abbrev pub acted : ℕ → Op → Node
acted q op = seq (point q) (act q op)

abbrev pub tree_of : Op → Op → Node
tree_of one two = seq (seq (point 0) (seq (act 0 (append Int)) (act 0 (store_value 0 (variable_at 0 Int) input))))
    (seq (acted 1 one) (seq (acted 2 two) (point 3)))

abbrev pub x : Expr
x = read (record { slot = local 0; number_type = Int })

-- x = x + 1, or with another operator
abbrev pub stepped : Operator → Op
stepped op = store_value 0 (variable_at 0 Int) (binary op x (literal Int 1))

abbrev pub steps_tree : Node
steps_tree = tree_of (stepped plus) (stepped minus)

-- accesses ---------------------------------------------------------------------------------------------------------

abbrev pub place : ℕ → Place
place column = record { line = 1; column = column }

abbrev pub a : Array
a = record { declared = place 1; length = 3; number_type = Int }

-- a[..], named at this column
abbrev pub a_at : ℕ → Expr → Expr
a_at column e = element a (place column) e

abbrev pub is_inside : Cond
is_inside = both_of (compare at_least x (literal Int 0)) (both_of (compare below x (literal Int 3))
    (compare above (a_at 10 x) (a_at 20 (a_at 22 (literal Int 0)))))

-- a[x] = a[3]
abbrev pub written : Op
written = store_element 0 (record { array = a; place = place 30; index = x }) (a_at 40 (literal Int 3))

abbrev pub accesses_tree : Node
accesses_tree = tree_of (test 0 is_inside true) written

-- points -------------------------------------------------------------------------------------------------------------

-- of `main`, with so many variables
abbrev pub plain_site : ℕ → Site
plain_site live = record { path = []; label = 1; live = live; asserts = false }

abbrev pub steps_sites : List Site
steps_sites = plain_site 0 ∷ plain_site 1 ∷ plain_site 1 ∷ plain_site 1 ∷ []
