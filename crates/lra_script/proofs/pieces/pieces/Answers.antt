-- Goals of `pieces`: what stands before, between and after the separators.
use Rattle.std.proofs.{Common.rules, lemmas.Iterator.Consumers.map_from_collect, lemmas.Iterator.Splits.YieldsList-from_slice_split}
use borrow.Author.Tests.{tests}
use Rattle.lra_script.proofs.pieces.pieces.Goals as goal

pub returns : goal.returns
returns c = map_from_collect _ c.collect.ensures.ran
    (YieldsList-from_slice_split _ _ c.args.bytes.now c.split.ensures.rest c.split.ensures.done c.split.ensures.closure (λ x r q k. search (rules, tests)))
