-- Goals of `line_at`: the line that begins here.
use Rattle.lra_certificate_spec.proofs.LineSteps.{line_none, line_found}
use Rattle.lra_certificate_lines.proofs.lines.line_at.Goals as goal

pub returns-then-length-rest : goal.returns-then-length-rest
returns-then-length-rest c =
    line_none c.args.bytes.now c.split_at.result.1.now c.args.at c.place_of-length.result c.split_at.ensures.back c.place_of-length.ensures.place
    c.if-length-rest.true

pub returns : goal.returns
returns c =
    line_found c.args.bytes.now c.split_at.result.1.now c.split_at-2.result.0.now c.args.at c.place_of-length.result c.requires c.split_at.ensures.back
    c.place_of-length.ensures.place c.if-length-rest.false c.place_of-length.ensures.within c.split_at-2.ensures.front
