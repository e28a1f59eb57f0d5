-- Goals of `combine_pair`: the two rays combined so that the product is 0, in lowest terms.
use Rattle.std.proofs.Common.{ap, sym, ◌∙◌, length, List, ℤ, []}
use Rattle.lra_double_description.proofs.Flattening.{at_place}
use Rattle.lra_double_description.proofs.ray_step.combine_pair.Goals as goal

pub blend-requires : goal.blend-requires
blend-requires c =
    let none : List ℤ = [] in
    let up = at_place c.args.rays.now c.args.pair.now.up c.index-rays-pair.result none c.requires.up c.index-rays-pair.is in
    let down = at_place c.args.rays.now c.args.pair.now.down c.index-rays-pair-2.result none c.requires.down c.index-rays-pair-2.is in
    ap length up ∙ c.requires.widths c.args.pair.now.up c.args.pair.now.down c.requires.up c.requires.down ∙ sym (ap length down)
