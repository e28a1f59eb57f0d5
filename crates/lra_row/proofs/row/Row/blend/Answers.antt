-- Goals of `Row::blend`: `a` times this row and `b` times the other, or the first product or sum that passes.
use Rattle.std.proofs.{lemmas.Int.to_z-of_z, lemmas.Result.err_from_is_err_and}
use Rattle.lra_linear_spec.specs.CheckedArithmetic.{checked_blend}
use Rattle.lra_row.specs.{Operations.blend_operations, Rows.IsExcessOf}
use Rattle.lra_row.proofs.FirstPassing.{names_blend, names_error, names_made}
use Rattle.lra_row.proofs.row.Row.blend.Goals as goal

pub returns-in_err-entries-clause-first : goal.returns-in_err-entries-clause-first
returns-in_err-entries-clause-first c =
    let a = c.args.a in
    let b = c.args.b in
    let us = c.args.self.now in
    let vs = c.args.other.now in
    let fa = c.ranges.a in
    let fb = c.ranges.b in
    let x = c.in_err-entries.field-0.0 in
    let r = err_from_is_err_and c.from_residual.result c.from_residual.ensures.1 in
    let e : IsExcessOf (checked_blend a b us vs) x =
    rw (← c.self.view_is, ← c.other.view_is, ← c.as_slice-us.ensures, ← c.as_slice-vs.ensures) (simp to_z-of_z at c.in_err-entries.ensures.err) in
    rw (r.1, r.2) (names_error (blend_operations a b us vs) (checked_blend a b us vs) x (names_blend a b us vs) e)

pub returns-clause-first : goal.returns-clause-first
returns-clause-first c =
    let a = c.args.a in
    let b = c.args.b in
    let us = c.args.self.now in
    let vs = c.args.other.now in
    let fa = c.ranges.a in
    let fb = c.ranges.b in
    names_made (blend_operations a b us vs) (checked_blend a b us vs) c.in_ok-entries.entries.items (names_blend a b us vs)
    (rw (← c.self.view_is, ← c.other.view_is, ← c.as_slice-us.ensures, ← c.as_slice-vs.ensures) (simp to_z-of_z at c.in_ok-entries.ensures.ok))
