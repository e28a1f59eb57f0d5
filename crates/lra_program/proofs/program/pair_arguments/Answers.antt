-- Goals of `pair_arguments`.
use Rattle.std.proofs.lemmas.Slice.Zip.{Zip-more, either_empty_from_Zip}
use Rattle.lra_program.proofs.GivenArguments.{pair_taken, pairs_end}
use Rattle.lra_program.proofs.program.pair_arguments.Goals as goal

pub loop-number_type-preserved : goal.loop-number_type-preserved
loop-number_type-preserved c =
    let n = Zip-more c.loop-number_type.number_type-iterator c.next.new.self c.next.result (c.in-Some.number_type, c.in-Some.expression) c.in-Some.is c.next.ensures.steps in
    pair_taken _ _ _ _ _ _ _ _ _ _ n.0 n.1 c.in_ok-value.ensures c.in_ok-push.ensures.items c.loop-number_type.invariant

pub returns : goal.returns
returns c =
    pairs_end _ _ _ _ (either_empty_from_Zip c.loop-number_type.number_type-iterator c.next.new.self c.next.result c.in-None.is c.next.ensures.steps) c.loop-number_type.invariant
