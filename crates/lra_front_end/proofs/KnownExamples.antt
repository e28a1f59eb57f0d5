-- Items whose arrays are there, and items whose arrays aren't. Which slip an example would catch stands beside it.
use Rattle.std.proofs.Common.{[], ◌∷◌, arith, refl}
use Rattle.std.specs.List.{Contains}
use Rattle.lra_base.specs.declared.number_types.NumberType.TheVariants.{Int, Long}
use Rattle.lra_front_end.proofs.Crates.lra_syntax.TreeSamples.{at}
use Rattle.lra_front_end.specs.Crates.lra_program.Program.{local, Expr, literal, element, nonzero, value, Stmt, absent, block, assign, write, call, for, assert, no_more, array, statement}
use Rattle.lra_front_end.specs.Crates.lra_program.declared.arrays.Array.{Array}
use Rattle.lra_front_end.specs.Known.{ItemsKnow}

abbrev two_longs : Array
two_longs = record { declared = at 22; length = 2; number_type = Long }

abbrev first_written : Stmt
first_written = write 3 (record { array = two_longs; place = at 36; index = literal Int 0 }) (value (literal Int 1))

none_known : (a : Array) → Contains [] a → ⊥
none_known a (k, low, is) = omega (arith, low)

declared_before : ItemsKnow [] (array 1 two_longs (statement first_written no_more))
declared_before = (((0, omega arith, refl), tt, tt), tt)

-- catches a declarator that counts before its place
declared_behind : ItemsKnow [] (statement first_written (array 1 two_longs no_more)) → ⊥
declared_behind h = none_known two_longs h.0.0

-- catches a block that isn't left
declared_inside : ItemsKnow [] (statement (block (array 1 two_longs no_more) 2) (statement first_written no_more)) → ⊥
declared_inside h = none_known two_longs h.1.0.0

-- catches reads that aren't asked: in what a variable gets, in an argument, in a condition
abbrev first_read : Expr
first_read = element two_longs (at 36) (literal Int 0)

read_behind : ItemsKnow [] (statement (assign 1 (record { slot = local 0; number_type = Long }) (value first_read)) (array 2 two_longs no_more)) → ⊥
read_behind h = none_known two_longs h.0.0

given_behind : ItemsKnow [] (statement (call 1 (record { label = 1; function = 0; arguments = first_read ∷ [] })) (array 2 two_longs no_more)) → ⊥
given_behind h = none_known two_longs h.0.0.0

tested_behind : ItemsKnow [] (statement (assert 1 (nonzero first_read)) (array 2 two_longs no_more)) → ⊥
tested_behind h = none_known two_longs h.0.0

-- catches a `for` that isn't left
for_left : ItemsKnow [] (statement (for 1 (array 2 two_longs no_more) (nonzero (literal Int 0)) absent absent) (statement first_written no_more)) → ⊥
for_left h = none_known two_longs h.1.0.0
