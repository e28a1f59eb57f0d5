-- Goals of `parts`: the words before, between and after the semicolons.
use Rattle.std.proofs.{Common.rules, Common.bytes_eq, lemmas.Iterator.Consumers.map_from_collect, lemmas.Iterator.Splits.YieldsList-from_slice_split}
use Rattle.std.specs.Prelude.{codes}
use borrow.Author.Tests.{tests}
use Rattle.lra_script.proofs.Parts.{parts_result}
use Rattle.lra_script.proofs.rows.parts.Goals as goal

pub returns : goal.returns
returns c = parts_result c.args.words.now c.collect.result (map_from_collect _ c.collect.ensures.ran
    (YieldsList-from_slice_split _ (λ w. bytes_eq w.now (codes ";")) c.args.words.now c.split.ensures.rest c.split.ensures.done c.split.ensures.closure (λ x r q k. search (rules, tests))))
