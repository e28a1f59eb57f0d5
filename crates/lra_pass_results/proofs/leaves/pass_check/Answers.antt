-- Goals of `pass_check`: both sides of the condition.
use Rattle.std.proofs.Common.{[], ◌∷◌, refl, subst, true, false}
use Rattle.lra_pass_results.specs.Crates.{lra_analysis_spec.MovesOf.guard, lra_analysis_spec.Operations.lossy_operations, lra_analysis_spec.Pass.failing, lra_analysis_spec.Pass.noted}
use Rattle.lra_pass_results.specs.Crates.{lra_domain.Interference.no_interference, lra_domain.declared.Exactness.Exactness, lra_program.ProgramViews.cond_view}
use Rattle.lra_transfer.specs.Splits.{SplitsBy}
use Rattle.lra_pass_results.proofs.Crates.lra_analysis_spec.Takes.{takes_made}
use Rattle.lra_operations.specs.Tree.{check}
use Rattle.lra_pass_results.proofs.LeafSteps.{entry_more, flagged_so, flagged_twice, goes_further}
use Rattle.lra_pass_results.proofs.leaves.pass_check.Goals as goal

pub returns : goal.returns
returns g c plan =
    let m = g.D.Domain.abstraction in
    let so_far = c.args.so_far.now in
    let at = c.args.point in
    let condition = cond_view c.args.condition.now in
    let sides = c.in_ok-sides.sides in
    let on = sides.on in
    let off = sides.off in
    let n = m.dims so_far.normal in
    let xs = failing at off.value ∷ [] in
    let parts : SplitsBy m c.args.base true condition
    (record { value = so_far.normal; exactness = Exactness.Exact }) sides =
    subst (λ v. SplitsBy m c.args.base true condition
    (record { value = v; exactness = Exactness.Exact }) sides) c.in_ok-copy.ensures c.in_ok-sides.ensures in
    goes_further no_interference m plan so_far (check at c.args.base condition) c.push.new.self xs on.value c.note-so_far.result
    (entry_more so_far.found.entries.items c.push.new.self.items _ _ c.in_ok-push.ensures.items refl) (
      off.value,
      on.value,
      off.exactness,
      on.exactness,
      takes_made (lossy_operations m) (guard n c.args.base false condition) so_far.normal off.value off.exactness parts.off,
      takes_made (lossy_operations m) (guard n c.args.base true condition) so_far.normal on.value on.exactness parts.on,
      flagged_so xs on.value c.note-so_far.result (noted at on.exactness (noted at off.exactness so_far.flag)) (flagged_twice
          at off.exactness on.exactness so_far.flag c.note.result c.note-so_far.result c.note.ensures c.note-so_far.ensures),
    ) parts.on_dims
