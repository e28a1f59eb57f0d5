-- Those so far, and then those that the types and expressions left over give, are all.
use Rattle.std.proofs.Common.{◌≡◌, ◌++◌, map}
use Rattle.std.specs.{Iterator.Adapters.zip_first, Iterator.Adapters.zip_second, Slice.Iter.iter_rest}
use Rattle.lra_program.specs.{ProgramViews.argument_view, ProgramViews.expr_view, Step.arguments_for}
use Rattle.lra_program.proofs.program.pair_arguments.Given as goal

abbrev pub invariant-loop-number_type : goal.invariant-loop-number_type
invariant-loop-number_type l =
    map argument_view l.given.items ++
    arguments_for (iter_rest (zip_first l.number_type-iterator)) (map expr_view (iter_rest (zip_second l.number_type-iterator)))
    ≡ arguments_for l.parameters (map expr_view l.expressions)
