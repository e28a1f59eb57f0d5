-- Goals of `Row::lowest_terms`: divides the row by the greatest number that divides each entry, that of column 0
-- among them.
use Rattle.std.proofs.Common.{rules, arith, ap, ◌∙◌, sym, subst, ℤ, List, FitsSigned, ◌≡◌, unsigned_abs, length}
use Rattle.std.proofs.lemmas.Int.{ints, to_z-of_z}
use Rattle.std.specs.{Int.w128, List.All, List.refill}
use Rattle.lra_linear_spec.specs.{LowestTerms.IsLowest, Range.InRange}
use Rattle.lra_row.proofs.RowLemmas.{refilled, divided, divided_in_range, lowest_divided}
use Rattle.lra_row.specs.Rows.{IsRowGcd}
use Rattle.lra_row.proofs.row.Row.lowest_terms.Goals as goal

pub invariant_of-self : goal.invariant_of-self
invariant_of-self c =
    let xs = c.self.inside.entries.items in
    let d = c.divisor_of-divisor.result in
    let fd : FitsSigned w128 d = search rules in
    let w : c.divide.new.xs ≡ divided d xs = simp to_z-of_z at c.divide.ensures ∙ ap (divided d) c.as_mut_slice.ensures.value in
    let e = refilled xs c.divide.new.xs d w in
    (subst (All InRange) (sym e) (divided_in_range xs d (omega (arith, ints, c.if-divisor-gt1.true)) c.self.invariant.0), search rules)

pub returns-then-divisor-gt1 : goal.returns-then-divisor-gt1
returns-then-divisor-gt1 c =
    let xs = c.self.inside.entries.items in
    let d = c.divisor_of-divisor.result in
    let fd : FitsSigned w128 d = search rules in
    let w : c.divide.new.xs ≡ divided d xs = simp to_z-of_z at c.divide.ensures ∙ ap (divided d) c.as_mut_slice.ensures.value in
    let g : IsRowGcd xs (unsigned_abs d) = subst (λ (r : List ℤ). IsRowGcd r (unsigned_abs d)) c.as_slice.ensures c.divisor_of-divisor.ensures.divisor in
    subst (λ (r : List ℤ). IsLowest r (refill (length xs) xs c.divide.new.xs)) c.self.view_is
    (subst (λ (r : List ℤ). IsLowest xs r) (sym (refilled xs c.divide.new.xs d w)) (lowest_divided xs d g (omega (arith, ints, c.if-divisor-gt1.true))))
