-- Goals of `flat_lines`: the lines.
use Rattle.lra_double_description.proofs.Flattening.{flat_lines_are}
use Rattle.lra_double_description.proofs.line_step.flat_lines.Goals as goal

pub returns-clause-ok : goal.returns-clause-ok
returns-clause-ok c =
    flat_lines_are c.args.line.now c.args.products.now c.args.lines.now c.in_ok-out.out.items c.push_flattened.new.out.items c.push_copies.new.rows.items c.in_ok-out.ensures.items
    c.in_ok-push_flattened.ensures.ok c.in_ok-push_copies.ensures
