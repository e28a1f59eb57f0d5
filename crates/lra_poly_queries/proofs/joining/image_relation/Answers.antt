-- Goals of `image_relation`: the points with any value that stands to the old point as stated.
use Rattle.std.proofs.Common.{◌∙◌, ap, ℕ}
use Rattle.lra_poly_queries.specs.Crates.{lra_linear_spec.Descriptions.LinearRow, lra_linear_spec.Kinds.is_equality}
use Rattle.lra_poly_queries.specs.Related.{replaced}
use Rattle.lra_poly_queries.proofs.RelatedSets.{related_becomes}
use Rattle.lra_poly_queries.proofs.joining.image_relation.Goals as goal

pub returns : goal.returns
returns c =
    let g : LinearRow = record { row = c.args.row.now; equal = is_equality c.args.kind } in
    related_becomes c.args.p.now c.in_ok-longer.longer c.in_ok-made.made c.args.dim g c.as_slice.result.now
    c.in_ok-longer.first c.in_ok-made.second c.and-outcome.result c.and-outcome.ensures.first
    (c.as_slice.ensures.value ∙ c.in_ok-kept.ensures ∙ ap (λ (n : ℕ). replaced n c.args.dim) c.dims.ensures)
    c.in_ok-longer.ensures c.in_ok-made.ensures
