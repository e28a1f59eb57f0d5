-- Goals of `read_input`: none if it leaves its input as it is.
use Rattle.std.specs.Prelude.{Some}
use Rattle.lra_commands.specs.Prepared.{IsTaken, IsReadBy}
use Rattle.lra_commands.proofs.Reading.{of_limit, of_limit_ok}
use Rattle.lra_commands.proofs.top_call.read_input.Goals as goal

pub returns-in-Some-clause-taken : goal.returns-in-Some-clause-taken
returns-in-Some-clause-taken g c =
    of_limit_ok (λ limit bytes. IsTaken limit (g.S.Source.left c.args.source.now) (g.S.Source.left c.read_within.new.source) bytes.items) c.args.command _ (Some c.in-Some.limit)
    c.read_within.result c.limit_of.ensures c.in-Some.is c.read_within.ensures.taken

pub returns-in-Some-clause-reads : goal.returns-in-Some-clause-reads
returns-in-Some-clause-reads g c =
    of_limit (λ limit. IsReadBy limit (g.S.Source.left c.args.source.now) (g.S.Source.left c.read_within.new.source) c.read_within.result) c.args.command _ (Some c.in-Some.limit)
    c.limit_of.ensures c.in-Some.is c.read_within.ensures.reads
