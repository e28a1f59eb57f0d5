-- Goals of `catch_returns`: `return` comes out here.
use Rattle.std.proofs.Common.{rules, ◌≡◌, ◌++◌, ◌∷◌, [], ap, ◌∙◌}
use Rattle.lra_operations.specs.Tree.{returned}
use Rattle.lra_fixpoint.specs.Crates.{lra_analysis_spec.Operations.lossy_operations, lra_analysis_spec.Pass.jumps_caught}
use Rattle.lra_pass_results.specs.Outcome.{outcome_view, AllHave}
use Rattle.lra_fixpoint.proofs.PassLoops.{returns_have, returns_joined}
use Rattle.lra_fixpoint.proofs.catches.catch_returns.Goals as goal

pub join_all-requires : goal.join_all-requires
join_all-requires g c =
    let pushed : c.push.new.self.items ≡ c.args.inner.found.returns.items ++ c.args.inner.normal ∷ [] = search rules in
    let have : AllHave g.D.Domain.abstraction (g.D.Domain.abstraction.dims c.remove-first.result) c.remove-first.new.self.items =
    (returns_have g.D.Domain.abstraction c.args.inner.found.returns.items c.push.new.self.items c.remove-first.new.self.items c.args.inner.normal c.remove-first.result pushed
    c.remove-first.ensures.value
    c.remove-first.ensures.items c.requires).1 in
    rw c.as_slice.ensures.value have

pub returns-clause-caught : goal.returns-clause-caught
returns-clause-caught g c =
    let inner = c.args.inner in
    let pushed : c.push.new.self.items ≡ c.args.inner.found.returns.items ++ c.args.inner.normal ∷ [] = search rules in
    let joined = rw c.as_slice.ensures.value at c.in_ok-exactness.ensures.joined in (
      c.join_all.new.value,
      c.in_ok-exactness.exactness,
      returns_joined (lossy_operations g.D.Domain.abstraction) inner.found.returns.items c.push.new.self.items c.remove-first.new.self.items inner.normal c.remove-first.result c.join_all.new.value
          c.in_ok-exactness.exactness
          pushed c.remove-first.ensures.value c.remove-first.ensures.items joined,
      c.take_returns-jumps.ensures.left inner.normal c.join_all.new.value inner.flag c.note.result ∙ ap (λ f. jumps_caught returned (outcome_view inner) c.join_all.new.value f) c.note.ensures,
    )

pub returns-clause-dims : goal.returns-clause-dims
returns-clause-dims g c =
    let pushed : c.push.new.self.items ≡ c.args.inner.found.returns.items ++ c.args.inner.normal ∷ [] = search rules in
    c.in_ok-exactness.ensures.dims ∙ (returns_have g.D.Domain.abstraction c.args.inner.found.returns.items c.push.new.self.items c.remove-first.new.self.items c.args.inner.normal c.remove-first.result
    pushed c.remove-first.ensures.value c.remove-first.ensures.items c.requires).0
