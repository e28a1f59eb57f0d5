-- Goals of `push_falling`: adds the rows of `v_i` with `-x_b`, for each later variable from the last down.
use Rattle.std.proofs.Common.{rules, arith, suc, ℕ, ◌≡◌, ◌-◌, ◌+◌, ◌*◌, ◌/◌, ◌∙◌, subst}
use Rattle.lra_dbm.specs.Cells.{entry_at}
use Rattle.lra_octagon.specs.Parts.{kind_row, falling, Pushed}
use Rattle.lra_octagon.proofs.PartLemmas.{pushing_more, falling_next}
use Rattle.lra_octagon.proofs.parts.push_falling.Goals as goal

pub loop-left-preserved : goal.loop-left-preserved
loop-left-preserved c =
    let n = c.args.matrix.now.dims in
    let f = kind_row c.args.kind n (entry_at c.args.matrix.now) c.args.i in
    let left = c.loop-left.left in
    let place : 2 * (c.args.i / 2 + 1 + (left - 1)) + 1 ≡ 2 * (suc (c.args.i / 2) + (left - 1)) + 1 = omega arith in
    record {
      dims = c.in_ok-push_row.ensures.pushed.dims ∙ c.loop-left.invariant.dims;
      few = (let few = c.loop-left.invariant.few in omega arith);
      pushing = pushing_more c.args.kind (falling f (suc (c.args.i / 2)) (n - suc (c.args.i / 2))) (falling f (suc (c.args.i / 2)) left) (f (2 * (suc (c.args.i / 2) + (left - 1)) + 1))
          (falling f (suc (c.args.i / 2)) (left - 1)) c.args.system.now c.loop-left.system c.push_row.new.system c.loop-left.invariant.pushing
          (falling_next f (suc (c.args.i / 2)) left (search rules))
          (subst (λ (z : ℕ). Pushed c.args.kind (f z) c.loop-left.system c.push_row.new.system) place c.in_ok-push_row.ensures.pushed);
    }
