-- Goals of `answer_words`: the whole, as one record.
use Rattle.std.proofs.{Common.◌≡◌, Common.◌<◌, Common.length, Common.refl, Common.arith, Common.rules, lemmas.Grind.common_steps}
use Rattle.std.specs.Io.KnownBytes.{Appends}
use Rattle.lra_io.specs.Causes.{AppendsPart, Rose}
use Rattle.lra_commands.proofs.Ending.{unread, unstored, whole, cut}
use Rattle.lra_commands.proofs.top_call.answer_words.Goals as goal

pub returns-in-Err-ReadFault : goal.returns-in-Err-ReadFault
returns-in-Err-ReadFault g c =
    unread c.prepare.ensures.deserved c.prepare.ensures.reads c.prepare.ensures.cause c.in-Err-ReadFault.field-0 c.in-Err-ReadFault.is c.in-Err-ReadFault.field-0-is refl refl

pub returns-in-Err-Memory : goal.returns-in-Err-Memory
returns-in-Err-Memory g c =
    unstored c.prepare.ensures.deserved c.prepare.ensures.reads c.prepare.ensures.cause c.in-Err-Memory.field-0 c.in-Err-Memory.is c.in-Err-Memory.field-0-is refl refl

pub returns-in-Ok-write_whole : goal.returns-in-Ok-write_whole
returns-in-Ok-write_whole g c =
    let written : Appends (g.K.Sink.held c.args.sink.now) (g.K.Sink.held c.write_whole.new.sink) c.in-Ok.answer.text.items = search rules in
    let same : g.K.Sink.faults c.write_whole.new.sink ≡ g.K.Sink.faults c.args.sink.now = search rules in
    whole c.prepare.ensures.deserved c.prepare.ensures.reads c.prepare.ensures.cause c.in-Ok.answer c.in-Ok.is written same

pub returns : goal.returns
returns g c =
    let part : AppendsPart (g.K.Sink.held c.args.sink.now) (g.K.Sink.held c.write_whole.new.sink) c.in-Ok.answer.text.items = search rules in
    let longer : g.K.Sink.spare c.args.sink.now < length c.in-Ok.answer.text.items = grind (arith, common_steps) in
    let rose : Rose (g.K.Sink.faults c.args.sink.now) (g.K.Sink.faults c.write_whole.new.sink) = search rules in
    cut c.prepare.ensures.deserved c.prepare.ensures.reads c.prepare.ensures.cause c.in-Ok.answer c.in-Ok.is part longer rose
