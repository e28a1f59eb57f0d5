-- Trees of operations and runs, for well-formed programs: nothing is left to ask of the program's points.
use Rattle.lra_inline_sound.specs.Crates.{lra_program.Program.Program, lra_program.Sites.sites_of}
use Rattle.lra_inline_sound.specs.Crates.{lra_program.Traces.NoChange, lra_program.WellFormed.IsWellFormed}
use Rattle.lra_operations.specs.Agree.{IsInlinedTree, AreDistinct, Agrees}
use Rattle.lra_operations.specs.CheckedOperations.{AgreesOnOverflows, AgreesOnAccesses}
use Rattle.lra_operations.specs.{TracesAgree.TracesAgree, Tree.Node}

-- no two points of a well-formed program have one call path and label
abbrev pub WellFormedAreDistinct : Type 0
WellFormedAreDistinct = (P : Program) → IsWellFormed P → AreDistinct (sites_of P)

-- each tree of a well-formed program agrees with its runs
abbrev pub WellFormedAgree : Type 0
WellFormedAgree = (P : Program) (g : Node) → IsWellFormed P → IsInlinedTree P g → Agrees P g

-- each tree of a well-formed program has the traces of its runs
abbrev pub WellFormedHaveTraces : Type 0
WellFormedHaveTraces = (P : Program) (g : Node) → IsWellFormed P → IsInlinedTree P g → TracesAgree NoChange P g

-- each tree of a well-formed program asks where an operation can stop a run by a number
abbrev pub WellFormedAgreeOnOverflows : Type 0
WellFormedAgreeOnOverflows = (P : Program) (g : Node) → IsWellFormed P → IsInlinedTree P g → AgreesOnOverflows P g

-- each tree of a well-formed program says where an access is outside its array
abbrev pub WellFormedAgreeOnAccesses : Type 0
WellFormedAgreeOnAccesses = (P : Program) (g : Node) → IsWellFormed P → IsInlinedTree P g → AgreesOnAccesses P g
