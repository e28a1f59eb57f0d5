-- Goals of `constraints_of_rows`: the constraints, each of n + 1 numbers.
use Rattle.std.proofs.Common.{arith, ◌∙◌, suc, ℤ, List, ap, sym, length, length-append}
use Rattle.lra_calc.specs.Crates.lra_linear_spec.Kinds.{is_equality}
use Rattle.lra_script.specs.Views.{constraint_of}
use Rattle.lra_calc.proofs.MakingLemmas.{wide_here, pushed_here}
use Rattle.lra_calc.proofs.making.constraints_of_rows.Goals as goal

pub push-requires : goal.push-requires
push-requires c =
    ap (λ (r : List ℤ). length r) c.in_ok-row.ensures
    ∙ wide_here c.args.n c.args.rows.now c.loop-constraint.constraint-index c.constraint-item.result c.requires.widths c.loop-constraint-test.true c.constraint-item.is
    ∙ ap suc (sym c.loop-constraint.invariant.dims)

pub loop-constraint-preserved : goal.loop-constraint-preserved
loop-constraint-preserved c =
    let kinds = c.loop-constraint.invariant.kinds in
    record {
      dims = c.in_ok-push.ensures.dims ∙ c.loop-constraint.invariant.dims;
      kinds = rw (c.in_ok-push.ensures.rows, c.in_ok-push.ensures.kinds, length-append, length-append) (omega arith);
      made = pushed_here is_equality constraint_of c.loop-constraint.system c.push.new.self c.in_ok-row.row c.constraint-item.result.kind c.args.rows.now c.loop-constraint.constraint-index
          c.constraint-item.result _ kinds c.in_ok-push.ensures.rows c.in_ok-push.ensures.kinds c.loop-constraint-test.true c.constraint-item.is
          (ap (λ (r : List ℤ). record { row = r; equal = is_equality c.constraint-item.result.kind }) (sym c.in_ok-row.ensures)) c.loop-constraint.invariant.made;
    }
