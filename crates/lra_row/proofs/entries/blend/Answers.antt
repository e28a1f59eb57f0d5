-- Goals of `blend`: a u + b v of two rows.
use Rattle.std.proofs.Common.{rules, arith, FitsSigned, ◌∙◌, sym, ap, length}
use Rattle.std.proofs.{lemmas.Int.to_z-of_z, lemmas.List.length_push, lemmas.Result.err_from_is_err_and, lemmas.Slice.Zip.Zip-more, lemmas.Slice.Zip.either_empty_from_Zip}
use Rattle.std.specs.Int.{w128}
use Rattle.lra_row.proofs.CheckedRows.{blend_passes, blend_taken, blend_end}
use Rattle.lra_row.proofs.entries.blend.Goals as goal

pub returns-in_err-blend_entry-clause-err : goal.returns-in_err-blend_entry-clause-err
returns-in_err-blend_entry-clause-err c =
    let fa = c.ranges.a in
    let fb = c.ranges.b in
    let fu : FitsSigned w128 c.in-Some.u.now = search rules in
    let fv : FitsSigned w128 c.in-Some.v.now = search rules in
    let i = simp to_z-of_z at c.loop-u.invariant.value in
    let e = simp to_z-of_z at c.in_err-blend_entry.ensures in
    let r = err_from_is_err_and c.from_residual-in_err-blend_entry.result c.from_residual-in_err-blend_entry.ensures.1 in
    let n = Zip-more c.loop-u.u-iterator c.next.new.self c.next.result (c.in-Some.u, c.in-Some.v) c.in-Some.is c.next.ensures.steps in
    rw (r.1, r.2) (sym i ∙ blend_passes c.args.a c.args.b _ _ _ _ _ _ _ _ n.0 n.1 e)

pub push_reserved-requires : goal.push_reserved-requires
push_reserved-requires c =
    let n = Zip-more c.loop-u.u-iterator c.next.new.self c.next.result (c.in-Some.u, c.in-Some.v) c.in-Some.is c.next.ensures.steps in
    omega (arith, c.loop-u.invariant.room, ap length n.0)

pub loop-u-preserved : goal.loop-u-preserved
loop-u-preserved c =
    let fa = c.ranges.a in
    let fb = c.ranges.b in
    let fu : FitsSigned w128 c.in-Some.u.now = search rules in
    let fv : FitsSigned w128 c.in-Some.v.now = search rules in
    let fe : FitsSigned w128 c.in_ok-blend_entry.field-0 = search rules in
    let i = simp to_z-of_z at c.loop-u.invariant.value in
    let e = simp to_z-of_z at c.in_ok-blend_entry.ensures in
    let p = simp to_z-of_z at c.push_reserved.ensures.items in
    let n = Zip-more c.loop-u.u-iterator c.next.new.self c.next.result (c.in-Some.u, c.in-Some.v) c.in-Some.is c.next.ensures.steps in
    let longer = ap length p ∙ length_push _ _ in
    simp to_z-of_z (record {
      value = blend_taken c.args.a c.args.b _ _ _ _ _ _ _ _ _ n.0 n.1 e p ∙ i;
      room = omega (arith, c.loop-u.invariant.room, ap length n.0, longer, c.push_reserved.ensures.capacity);
    })

pub returns-clause-ok : goal.returns-clause-ok
returns-clause-ok c =
    let fa = c.ranges.a in
    let fb = c.ranges.b in
    let i = simp to_z-of_z at c.loop-u.invariant.value in
    sym i ∙ blend_end c.args.a c.args.b _ _ _ (either_empty_from_Zip c.loop-u.u-iterator c.next.new.self c.next.result c.in-None.is c.next.ensures.steps)
