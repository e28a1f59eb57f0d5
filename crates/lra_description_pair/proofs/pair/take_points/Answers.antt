-- Goals of `take_points`: the generators added to a cone, and constraints that hold at each of them.
use Rattle.std.proofs.Common.{◌∙◌, ap}
use Rattle.lra_description_pair.specs.Crates.lra_systems.LinearSystems.{constraints}
use Rattle.lra_cone.specs.Cones.{whole_space}
use Rattle.lra_description_pair.proofs.GeneratorPairs.{taken}
use Rattle.lra_description_pair.proofs.pair.take_points.Goals as goal

pub returns : goal.returns
returns c =
    let conversion = c.in_ok-conversion.conversion in
    taken c.args.given.now.dims c.args.given.now c.in_ok-rows.rows c.in_ok-list.list c.in_ok-whole.field-0 conversion.cone (constraints conversion.kept) conversion.losses.items
    c.requires.many c.requires.kinds c.requires.point c.in_ok-rows.ensures.rows c.in_ok-rows.ensures.kinds c.in_ok-rows.ensures.dims
    (c.in_ok-whole.ensures ∙ ap whole_space c.dims-n.ensures) c.in_ok-conversion.ensures.dims c.in_ok-conversion.ensures.taken c.in_ok-list.ensures.cone
    c.in_ok-list.ensures.dims c.in_ok-list.ensures.exact c.in_ok-list.ensures.valid
