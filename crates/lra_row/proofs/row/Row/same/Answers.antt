-- Goals of `Row::same`: rows of the same numbers.
use Rattle.std.proofs.{Common.rules, lemmas.Slice.Eq.slice_eq-Decides}
use Rattle.std.specs.Cmp.{signed_Decides}
use Rattle.lra_row.proofs.row.Row.same.Goals as goal

pub returns : goal.returns
returns c =
    let decides = slice_eq-Decides signed_Decides c.as_slice.result.now c.as_slice-2.result.now c.eq.result c.eq.ensures in
    (λ t. let known = decides.0 t in search rules, λ e. decides.1 (search rules))
