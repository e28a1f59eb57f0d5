-- Goals of `join_branches`: both branches of a choice, whose ends are joined at this point.
use Rattle.std.proofs.Common.{sym, ap, ◌∙◌}
use Rattle.lra_pass_stack.specs.Crates.lra_analysis_spec.Pass.{in_turn}
use Rattle.lra_pass_results.specs.Outcome.{outcome_view}
use Rattle.lra_pass_stack.proofs.choices.join_branches.Goals as goal

pub returns-clause-joined : goal.returns-clause-joined
returns-clause-joined g c =
    let one = c.args.place.first in
    let two = c.args.second in
    let found = c.in_ok-append.ensures one.normal two.normal c.join.new.self one.flag two.flag c.note-both.result in (
      c.join.new.self,
      c.in_ok-exactness.exactness,
      (c.in_ok-exactness.ensures.joins, sym c.requires, c.in_ok-exactness.ensures.dims, c.in_ok-exactness.ensures.capped),
      found ∙
          ap (λ f. in_turn (outcome_view one) (outcome_view two) c.join.new.self f) c.note-both.ensures,
    )
