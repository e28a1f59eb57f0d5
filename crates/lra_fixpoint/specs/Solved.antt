-- What is found of a program by an iteration over its tree.
use Rattle.std.specs.List.{Contains}
use Rattle.std.specs.Prelude.{◌≡◌, ◌↔◌, ℕ, List, Option, None, Some, Bool}
use Rattle.lra_fixpoint.specs.Crates.lra_analysis_spec.Analysis.{ExactIteration, LossyIteration, StrainsAtPoint}
use Rattle.lra_fixpoint.specs.Crates.lra_analysis_spec.Analysis.{IsSolution}
use Rattle.lra_fixpoint.specs.Crates.lra_analysis_spec.Pass.{recorded, PassResult}
use Rattle.lra_fixpoint.specs.Crates.lra_analysis_spec.UnderInterference.{ExactIterationUnder, LossyIterationUnder}
use Rattle.lra_fixpoint.specs.Crates.lra_analysis_spec.UnderInterference.{StrainsUnder}
use Rattle.lra_fixpoint.specs.Crates.{lra_analysis_spec.Plan.Plan, lra_domain.Abstraction.Abstraction}
use Rattle.lra_fixpoint.specs.Crates.{lra_domain.Interference.Interference, lra_program.Program.Program}
use Rattle.lra_operations.specs.Tree.{Node}

-- values, verdicts and the first flag of a derivation with drops: without a flag it is the written iteration, and the
-- first flag stands where the written iteration exceeds a limit
pub record IsSolved {V H : Type 0} (m : Abstraction V H) (plan : Plan) (P : Program) (tree : Node) (values : List V)
    (verdicts : List (ℕ × Bool)) (flagged : Option ℕ) : Type 0 where
  pub result : PassResult V
  pub derived : LossyIteration m plan P tree result
  pub solves : IsSolution m result values verdicts flagged
  pub written : flagged ≡ None → ExactIteration m plan P tree result
  pub strained : (q : ℕ) → flagged ≡ Some q → StrainsAtPoint m plan P tree q

-- a derivation with drops among others, and what variables got: a note has the number of the point, the variable's
-- place and the value that the derivation has after that
pub record IsSolvedUnder {V H : Type 0} (o : Interference V) (m : Abstraction V H) (plan : Plan) (P : Program)
    (tree : Node)
    (values : List V) (notes : List (ℕ × ℕ × V)) (verdicts : List (ℕ × Bool)) (flagged : Option ℕ) : Type 0 where
  pub result : PassResult V
  pub derived : LossyIterationUnder o m plan P tree result
  pub solves : IsSolution m result values verdicts flagged
  pub noted : (q place : ℕ) (v : V) → Contains notes (q, place, v) ↔ Contains result.entries (recorded q place v)
  pub written : flagged ≡ None → ExactIterationUnder o m plan P tree result
  pub strained : (q : ℕ) → flagged ≡ Some q → StrainsUnder o m plan P tree q
