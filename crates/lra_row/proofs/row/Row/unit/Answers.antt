-- Goals of `Row::unit`: the row of n + 1 columns with the factor in one of them and 0 elsewhere.
use Rattle.std.proofs.{Common.◌∙◌, Common.◌+◌, Common.ap, Common.subst, Common.sym, Common.pos, Common.List, Common.ℤ, lemmas.Int.to_z-of_z}
use Rattle.std.specs.{Int.w128, List.All, Prelude.replicate, Prelude.slice_set}
use Rattle.lra_linear_spec.specs.Range.{InRange}
use Rattle.lra_linear_spec.proofs.UnitRows.{set_in_range, zeros_in_range, zeros_more}
use Rattle.lra_row.proofs.row.Row.unit.Goals as goal

pub from_slice-requires : goal.from_slice-requires
from_slice-requires c =
    let zeros = c.in_ok-numbers.ensures.items_if_clones_equal (λ y h. h) in
    let written = rw (to_z-of_z w128 c.args.factor c.ranges.factor) at c.deref.ensures.value in
    subst (λ (x : List ℤ). All InRange x) (sym (written ∙ ap (λ (x : List ℤ). slice_set x c.args.column c.args.factor) zeros))
    (set_in_range (replicate (c.args.n + 1) (pos 0)) c.args.column c.args.factor (zeros_in_range (c.args.n + 1)) c.requires.factor)

pub returns : goal.returns
returns c =
    let written = rw (to_z-of_z w128 c.args.factor c.ranges.factor) at c.deref.ensures.value in
    c.in_ok-row.ensures ∙ written
    ∙ ap (λ (x : List ℤ). slice_set x c.args.column c.args.factor) (c.in_ok-numbers.ensures.items_if_clones_equal (λ y h. h) ∙ zeros_more c.args.n)
