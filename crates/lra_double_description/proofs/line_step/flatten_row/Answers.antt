-- Goals of `flatten_row`: the row combined with the line so that its product is 0, in lowest terms.
use Rattle.std.proofs.{Common.rules, Common.FitsSigned, Common.subst, Common.List, Common.ℤ, lemmas.Int.to_z-of_z}
use Rattle.std.specs.Int.{w128}
use Rattle.lra_double_description.specs.Crates.lra_linear_spec.LowestTerms.{IsLowest}
use Rattle.lra_double_description.proofs.Flattening.{flattened_above, flattened_below, below_sum}
use Rattle.lra_double_description.proofs.line_step.flatten_row.Goals.{then-product-gt0+in_ok-flat, else-product-gt0+in_ok-flat-2}
use Rattle.lra_double_description.proofs.line_step.flatten_row.Goals as goal

pub returns-clause-ok : goal.returns-clause-ok
returns-clause-ok c =
    let t = c.lowest_terms.new.self in
    let fa : FitsSigned w128 c.args.line.now.product = search rules in
    let fp : FitsSigned w128 c.args.product = search rules in
    elim c.if-product-gt0.branch [
      | then-product-gt0+in_ok-flat w ↦ flattened_above c.args.line.now c.args.product c.args.row.now w.in_ok-flat.flat t c.requires.turned c.requires.down_width
          (simp to_z-of_z at w.in_ok-flat.ensures.value) (subst (λ (z : List ℤ). IsLowest z t) w.flat-is c.lowest_terms.ensures)
      | else-product-gt0+in_ok-flat-2 w ↦ flattened_below c.args.line.now c.args.product c.args.row.now w.in_ok-flat-2.flat t c.requires.up_width
          (let fo : FitsSigned w128 w.opposite.result = search rules in below_sum c.args.line.now c.args.product w.opposite.result c.args.row.now w.in_ok-flat-2.flat
          (simp to_z-of_z at w.opposite.ensures.value) (simp to_z-of_z at w.in_ok-flat-2.ensures.value)) (subst (λ (z : List ℤ). IsLowest z t) w.flat-is c.lowest_terms.ensures)
    ]
