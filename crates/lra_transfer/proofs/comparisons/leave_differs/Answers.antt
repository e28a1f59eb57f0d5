-- Goals of `leave_differs`: what `<` or `>` leaves of the value.
use Rattle.std.proofs.Common.{refl, sym, ◌∙◌}
use Rattle.lra_transfer.specs.Crates.lra_analysis_spec.Operations.{lossy_operations}
use Rattle.lra_transfer.specs.Crates.{lra_analysis_spec.MovesOf.linearized_moves, lra_base.Operators.below, lra_base.Operators.above, lra_domain.Abstraction.worse}
use Rattle.lra_transfer.proofs.Crates.lra_analysis_spec.Takes.{join_takes}
use Rattle.lra_transfer.proofs.comparisons.leave_differs.Goals as goal

pub returns-clause-leaves : goal.returns-clause-leaves
returns-clause-leaves g c =
    let m = g.D.Domain.abstraction in
    let n = m.dims c.args.value.now in
    let d = c.args.seen.now in
    rw (c.worse-2.ensures.is, c.worse.ensures.is)
    ((join_takes (lossy_operations m) c.args.value.now c.args.before c.join.new.self (worse (worse c.in_ok-less.one c.in_ok-two.two) c.in_ok-joined.joined)
    (linearized_moves n below d) (linearized_moves n above d)).0 (
      c.in_ok-less.less,
      c.leave_test.new.value,
      c.in_ok-less.one,
      c.in_ok-two.two,
      c.in_ok-joined.joined,
      c.in_ok-less.ensures.leaves,
      c.in_ok-two.ensures.leaves,
      (c.in_ok-joined.ensures.joins, c.in_ok-two.ensures.dims ∙ sym c.in_ok-less.ensures.dims, c.in_ok-joined.ensures.dims, c.in_ok-joined.ensures.capped),
      refl,
    ))
