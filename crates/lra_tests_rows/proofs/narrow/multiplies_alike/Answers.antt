-- Goals of `multiplies_alike`: whether the products of the row with its copy, with its negation and with each row are.
use Rattle.std.proofs.Common.{◌∙◌, ap, length, sym, List, ℤ}
use Rattle.lra_tests_rows.proofs.Crates.lra_linear_spec.Products.{negated_length}
use Rattle.lra_tests_rows.proofs.narrow.multiplies_alike.Goals as goal

pub multiply_alike-alike-requires : goal.multiply_alike-alike-requires
multiply_alike-alike-requires c = sym (ap (λ (r : List ℤ). length r) c.in_ok-negate.ensures ∙ negated_length c.args.u.now)
