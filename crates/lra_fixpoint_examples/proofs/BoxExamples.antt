-- Single definitions of the iteration on small boxes.
use Rattle.std.proofs.{Common.[], Common.None, Common.Some, Common.refl, Common.inl, Common.inr, Common.◌^◌, Common.◌-◌, Common.arith, lemmas.Int.ints}
use Rattle.lra_fixpoint_examples.specs.Crates.lra_program.Program.{local, Expr, literal, read, binary}
use Rattle.lra_fixpoint_examples.specs.Crates.{lra_base.Operators.plus, lra_base.declared.number_types.NumberType.TheVariants.Int, lra_base.declared.number_types.NumberType.TheVariants.Long}
use Rattle.lra_fixpoint_examples.specs.Crates.{lra_domain.declared.Exactness.TheVariants.Exact, lra_domain.declared.Exactness.TheVariants.Flagged, lra_operations.Tree.broken, lra_operations.Tree.act}
use Rattle.lra_fixpoint_examples.specs.Crates.{lra_operations.Tree.seq, lra_operations.Tree.leave, lra_program.Receivers.variable_at, lra_program.Step.store_value, lra_program.Step.truncate_to}
use Rattle.lra_fixpoint_examples.proofs.Crates.lra_program.RunExamples.{long_variable}
use Rattle.lra_box.specs.{Abstraction.box_abstraction, Content.BoxContent}
use Rattle.lra_analysis_spec.specs.{Operations.straining_operations, Pass.goes_on, Pass.jumps, Pass.Pass}
use Rattle.lra_fixpoint_examples.proofs.{LoopExamples.boxes, LoopExamples.one, LoopExamples.between, LoopExamples.at_least, LoopExamples.narrowed, NestedExamples.two, NestedExamples.nowhere}

abbrev i : Expr
i = read (long_variable (local 0))

-- a `break` in a block with a variable of its own goes out without it; after the `break` it still lives
cut_break : Pass BoxContent BoxContent boxes (narrowed 1) (seq (act 6 (truncate_to 1)) (leave 2 broken)) None (two (between 0 3) (between 1 1)) (jumps broken (one (between 0 3)) nowhere None)
cut_break = (
  goes_on [] (one (between 0 3)) None,
  jumps broken (one (between 0 3)) nowhere None,
  (one (between 0 3), Exact, (refl, record { table = refl; extremes = tt }), refl),
  (nowhere, refl, refl),
  refl,
)

-- i = i + 1 of i in 0..2^127 - 1 exceeds a limit: the new bound would pass the range
strained_example : Pass BoxContent BoxContent (straining_operations box_abstraction) (narrowed 1) (act 5 (store_value 0 (variable_at 0 Long) (binary plus i (literal Int 1)))) None
    (one (between 0 (2 ^ 127 - 1)))
    (goes_on [] (one (at_least 1)) (Some 5))
strained_example = (
  one (at_least 1),
  Flagged,
  (λ h. cc, λ h. inr (inr (inl (λ k. omega (arith, ints, k))))),
  refl,
)
