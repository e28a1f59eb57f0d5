-- Goals of `catch_continues`: `continue` comes out here.
use Rattle.std.proofs.Common.{ap, ◌∙◌}
use Rattle.lra_operations.specs.Tree.{continued}
use Rattle.lra_fixpoint.specs.Crates.{lra_analysis_spec.Operations.lossy_operations, lra_analysis_spec.Pass.AreJoined, lra_analysis_spec.Pass.jumps_caught}
use Rattle.lra_pass_results.specs.Outcome.{outcome_view}
use Rattle.lra_fixpoint.proofs.catches.catch_continues.Goals as goal

pub returns-clause-caught : goal.returns-clause-caught
returns-clause-caught g c =
    let inner = c.args.inner in
    let joined : AreJoined (lossy_operations g.D.Domain.abstraction) inner.normal inner.found.continues.items c.in_ok-exactness.exactness c.join_all.new.value =
    rw (c.as_slice.ensures.value, c.take_continues-jumps.ensures.taken) at c.in_ok-exactness.ensures.joined in (
      c.join_all.new.value,
      c.in_ok-exactness.exactness,
      joined,
      c.take_continues-jumps.ensures.left inner.normal c.join_all.new.value inner.flag c.note.result ∙ ap (λ f. jumps_caught continued (outcome_view inner) c.join_all.new.value f) c.note.ensures,
    )
