-- Which variable an operation gives a value.
use Rattle.std.specs.Prelude.{ℕ, Option, None, Some}
use Rattle.lra_program.specs.Step.{Op, append, fill, store_value, havoc, store_element, push, push_for, truncate_to}
use Rattle.lra_program.specs.declared.receivers.Cell.TheVariants.{Variable, Waiting}
use Rattle.lra_program.specs.{Step.test, declared.receivers.Cell.Cell, declared.receivers.Target.Target}

-- the place of the variable that is there
abbrev pub cell_variable : Cell → Option ℕ
cell_variable (Variable place) = Some place
cell_variable (Waiting p) = None

abbrev pub target_variable : Option Target → Option ℕ
target_variable None = None
target_variable (Some target) = cell_variable target.cell

-- the place of the variable to which a change gives a value
abbrev pub written_variable : Op → Option ℕ
written_variable (append t) = None
written_variable (fill a) = None
written_variable (store_value base x e) = target_variable x.target
written_variable (havoc x) = target_variable x.target
written_variable (store_element base x e) = None
written_variable (push base given) = None
written_variable (push_for base x given) = None
written_variable (truncate_to n) = None
written_variable (test base c wanted) = None
