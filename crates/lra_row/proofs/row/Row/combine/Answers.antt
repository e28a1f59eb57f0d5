-- Goals of `Row::combine`: `(-c.v) u + (c.u) v` in lowest terms, for `c.u` above 0 and `c.v` below.
use Rattle.std.proofs.{Common.◌∙◌, Common.List, Common.ℤ, Common.sym, Common.rules, Common.FitsSigned, Common.subst, Common.Result, lemmas.Int.to_z-of_z, lemmas.Result.err_from_is_err_and}
use Rattle.std.specs.Int.{w128}
use Rattle.lra_linear_spec.specs.{CheckedArithmetic.checked_combination, LowestTerms.IsLowest, declared.Excess.Excess}
use Rattle.lra_row.specs.declared.error.RowError.TheVariants as of_row
use Rattle.lra_row.specs.Rows.{combination_operations, IsExcessOf}
use Rattle.lra_row.proofs.Combination.{combined_flat, combined_positive, combined_read, checked_read}
use Rattle.lra_row.proofs.FirstPassing.{names_combination, combination_passes, names_error, names_made}
use Rattle.lra_row.proofs.row.Row.combine.Goals as goal

pub returns-in_err-below-clause-first : goal.returns-in_err-below-clause-first
returns-in_err-below-clause-first c =
    let u = c.args.u.now in
    let w = c.args.v.now in
    let k = c.args.c.now in
    let x = c.in_err-below.field-0.0 in
    let r = err_from_is_err_and c.from_residual-in_err-below.result c.from_residual-in_err-below.ensures.1 in
    rw (r.1, r.2)
    (names_error (combination_operations u w k) (checked_combination u w k) (of_row.Excess x) (names_combination u w k)
    (combination_passes u w k c.in_ok-above.above x c.in_ok-above.ensures.exact c.in_err-below.ensures.exact))

pub returns-in_err-row-clause-first : goal.returns-in_err-row-clause-first
returns-in_err-row-clause-first c =
    let u = c.args.u.now in
    let w = c.args.v.now in
    let k = c.args.c.now in
    let x = c.in_err-row.field-0.0 in
    let fa : FitsSigned w128 c.in_ok-above.above = search rules in
    let fb : FitsSigned w128 c.in_ok-below.below = search rules in
    let fo : FitsSigned w128 c.opposite.result = search rules in
    let r = err_from_is_err_and c.from_residual-in_err-row.result c.from_residual-in_err-row.ensures.1 in
    let q = checked_read u w k c.in_ok-above.above c.in_ok-below.below c.opposite.result c.in_ok-above.ensures.exact c.in_ok-below.ensures.exact (simp to_z-of_z at c.opposite.ensures.value) in
    let e : IsExcessOf (checked_combination u w k) x = subst (λ (z : Result (List ℤ) Excess). IsExcessOf z x) q (simp to_z-of_z at c.in_err-row.ensures.excess) in
    rw (r.1, r.2) (names_error (combination_operations u w k) (checked_combination u w k) x (names_combination u w k) e)

pub returns-clause-flat : goal.returns-clause-flat
returns-clause-flat c =
    let u = c.args.u.now in
    let w = c.args.v.now in
    let k = c.args.c.now in
    let fa : FitsSigned w128 c.in_ok-above.above = search rules in
    let fb : FitsSigned w128 c.in_ok-below.below = search rules in
    let fo : FitsSigned w128 c.opposite.result = search rules in
    let row = c.lowest_terms.new.self in
    let e = combined_read u w k c.in_ok-row.row c.in_ok-above.above c.in_ok-below.below c.opposite.result c.in_ok-above.ensures.value c.in_ok-below.ensures.value
    (simp to_z-of_z at c.opposite.ensures.value) (simp to_z-of_z at c.in_ok-row.ensures.value) in
    combined_flat u w k row (c.requires.u_width ∙ sym c.requires.v_width) (subst (λ (z : List ℤ). IsLowest z row) e c.lowest_terms.ensures)

pub returns-clause-positive : goal.returns-clause-positive
returns-clause-positive c =
    let u = c.args.u.now in
    let w = c.args.v.now in
    let k = c.args.c.now in
    let fa : FitsSigned w128 c.in_ok-above.above = search rules in
    let fb : FitsSigned w128 c.in_ok-below.below = search rules in
    let fo : FitsSigned w128 c.opposite.result = search rules in
    let row = c.lowest_terms.new.self in
    let e = combined_read u w k c.in_ok-row.row c.in_ok-above.above c.in_ok-below.below c.opposite.result c.in_ok-above.ensures.value c.in_ok-below.ensures.value
    (simp to_z-of_z at c.opposite.ensures.value) (simp to_z-of_z at c.in_ok-row.ensures.value) in
    combined_positive u w k row (c.requires.u_width ∙ sym c.requires.v_width) c.requires.above c.requires.below (subst (λ (z : List ℤ). IsLowest z row) e c.lowest_terms.ensures)

pub returns-clause-first : goal.returns-clause-first
returns-clause-first c =
    let u = c.args.u.now in
    let w = c.args.v.now in
    let k = c.args.c.now in
    let fa : FitsSigned w128 c.in_ok-above.above = search rules in
    let fb : FitsSigned w128 c.in_ok-below.below = search rules in
    let fo : FitsSigned w128 c.opposite.result = search rules in
    let q = checked_read u w k c.in_ok-above.above c.in_ok-below.below c.opposite.result c.in_ok-above.ensures.exact c.in_ok-below.ensures.exact (simp to_z-of_z at c.opposite.ensures.value) in
    names_made (combination_operations u w k) (checked_combination u w k) c.in_ok-row.row (names_combination u w k) (sym q ∙ simp to_z-of_z at c.in_ok-row.ensures.made)
