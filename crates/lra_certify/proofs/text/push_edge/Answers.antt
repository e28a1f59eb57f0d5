-- Goals of `push_edge`: the line that begins a path.
use Rattle.std.proofs.{Common.◌+◌, Common.refl, Common.string_bytes, lemmas.Result.on_ok_weaker}
use Rattle.lra_certify.proofs.TextSteps.{edge_written}
use Rattle.lra_certify.proofs.text.push_edge.Goals as goal

pub returns : goal.returns
returns c =
    on_ok_weaker c.writeln.result
    (edge_written (string_bytes c.args.text.now) (string_bytes c.writeln.new.self) c.args.source c.args.point (c.args.point + 1) refl)
    c.writeln.ensures.bytes
