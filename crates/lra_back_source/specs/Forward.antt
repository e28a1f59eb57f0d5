-- What is gone back over: what an analysis over polyhedra finds of a program, under the options that words have by
-- default.
use Rattle.std.specs.Prelude.{◌≡◌, ℕ, ℤ, List, Bool, Option, None, Some}
use Rattle.lra_back_source.specs.Crates.lra_analysis_spec.Operations.{exact_operations, lossy_operations}
use Rattle.lra_back_source.specs.Crates.lra_analysis_spec.Operations.{straining_operations}
use Rattle.lra_back_source.specs.Crates.lra_options.OptionRows.{default_options}
use Rattle.lra_back_source.specs.Crates.lra_poly_domain.Abstraction.{polyhedron_abstraction}
use Rattle.lra_back_source.specs.Crates.{lra_analysis_spec.Accesses.JudgesAccesses, lra_analysis_spec.Plan.Plan}
use Rattle.lra_back_source.specs.Crates.{lra_analysis_spec.Plan.plan_of, lra_base.declared.refusals.Place.Place}
use Rattle.lra_back_source.specs.Crates.{lra_fixpoint.Solved.IsSolved, lra_linear_spec.Polyhedra.Polyhedron}
use Rattle.lra_back_source.specs.Crates.{lra_operations.Tree.Node, lra_program.Program.Program}

-- of a program with these constants
abbrev pub forward_plan : List ℤ → Plan
forward_plan constants = plan_of default_options constants

-- The values at the points, and the first flagged point: the flags of accesses of arrays come after the iteration's.
-- What is judged of accesses isn't reported; without a flag it is judged by what the written iteration leaves, and a
-- first flag there is where that exceeds a limit.
pub record IsForward (constants : List ℤ) (P : Program) (g : Node) (values : List Polyhedron) (flagged : Option ℕ)
    : Type 0 where
  pub verdicts : List (ℕ × Bool)
  pub iteration_flag : Option ℕ
  pub solved : IsSolved polyhedron_abstraction (forward_plan constants) P g values verdicts iteration_flag
  pub inside : List (ℕ × List (Place × Bool))
  pub accessed : JudgesAccesses polyhedron_abstraction (lossy_operations polyhedron_abstraction) g values iteration_flag
      inside flagged
  pub accessed_written : flagged ≡ None →
      JudgesAccesses polyhedron_abstraction (exact_operations polyhedron_abstraction) g values None inside None
  pub accessed_strained : (q : ℕ) → iteration_flag ≡ None → flagged ≡ Some q →
      JudgesAccesses polyhedron_abstraction (straining_operations polyhedron_abstraction) g values None inside (Some q)
