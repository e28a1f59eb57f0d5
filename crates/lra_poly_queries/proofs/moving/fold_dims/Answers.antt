-- Goals of `fold_dims`: the hull of the points along some dimensions and along others.
use Rattle.std.proofs.Common.{◌∙◌, sym}
use Rattle.lra_poly_queries.proofs.FoldedSets.{fold_becomes}
use Rattle.lra_poly_queries.proofs.moving.fold_dims.Goals as goal

pub hull-requires : goal.hull-requires
hull-requires c = c.in_ok-other.ensures.dims ∙ c.requires ∙ sym c.in_ok-made.ensures.dims

pub returns : goal.returns
returns c =
    fold_becomes c.args.p.now c.args.kept.now c.args.folded.now c.in_ok-made.made c.in_ok-other.other c.hull.new.self
    c.in_ok-made.first c.in_ok-other.second c.in_ok-third.third c.and-later.result c.and-outcome.result
    c.and-outcome.ensures.first c.and-later.ensures.first c.requires c.in_ok-made.ensures c.in_ok-other.ensures
    c.in_ok-third.ensures.becomes
