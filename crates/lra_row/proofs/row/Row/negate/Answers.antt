-- Goals of `Row::negate`: the row times -1.
use Rattle.std.proofs.Common.{rules, ◌≡◌, sym, subst}
use Rattle.std.specs.List.{All}
use Rattle.lra_linear_spec.specs.{Range.InRange, Vectors.negated}
use Rattle.lra_row.specs.Words.{IsNarrow}
use Rattle.lra_row.proofs.{Narrow.narrow_negated, RowLemmas.negated_in_range}
use Rattle.lra_row.proofs.row.Row.negate.Goals as goal

pub invariant_of-result : goal.invariant_of-result
invariant_of-result c =
    let xs = c.self.inside.entries.items in
    let e : c.in_ok-entries.entries.items ≡ negated xs = search rules in
    (subst (All InRange) (sym e) (negated_in_range xs c.self.invariant.0), λ t. subst (All IsNarrow) (sym e) (narrow_negated xs (c.self.invariant.1 t)))
