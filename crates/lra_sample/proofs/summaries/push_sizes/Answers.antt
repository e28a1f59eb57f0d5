-- Goals of `push_sizes`: appends the first three lines.
use Rattle.std.proofs.lemmas.Result.{on_ok_weaker}
use Rattle.lra_sample.proofs.SummaryLemmas.{sizes_lines}
use Rattle.lra_sample.proofs.summaries.push_sizes.Goals as goal

pub returns : goal.returns
returns c = on_ok_weaker c.writeln.result (sizes_lines _ _ c.args.seed c.args.size c.args.bytes c.args.points) c.writeln.ensures.bytes
