-- Goals of `push_assertion`: the line that lists an assertion.
use Rattle.std.proofs.{Common.◌+◌, Common.suc, Common.add-one, Common.codes, Common.string_bytes, lemmas.Result.on_ok_weaker}
use Rattle.lra_certify.proofs.TextSteps.{numbered_written}
use Rattle.lra_certify.proofs.text.push_assertion.Goals as goal

pub returns : goal.returns
returns c =
    on_ok_weaker c.writeln.result
    (numbered_written (codes "assert ") (string_bytes c.args.text.now) (string_bytes c.writeln.new.self) (c.args.point + 1) (suc c.args.point)
    (add-one c.args.point))
    c.writeln.ensures.bytes
