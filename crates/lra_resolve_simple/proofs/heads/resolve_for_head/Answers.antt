-- Goals of `resolve_for_head`: takes the label of a `for`, begins its scope, and resolves what stands in its
-- parentheses.
use Rattle.std.proofs.Common.{refl, option_map, ◌∙◌}
use Rattle.lra_syntax.specs.Views.{init_view, assign_view}
use Rattle.lra_scopes.proofs.{FirstFaults.tells_front, FirstFaults.tells_behind, Loops.wanting_told, Loops.first_told, Loops.second_told, Loops.both_clean}
use Rattle.lra_resolve_simple.proofs.LabellingLaws.{begun, fronted}
use Rattle.lra_resolve_simple.proofs.heads.resolve_for_head.Goals as goal

pub returns-in_err-label-clause-told : goal.returns-in_err-label-clause-told
returns-in_err-label-clause-told c = wanting_told _ c.from_residual.result _ c.in_err-label.ensures.memory c.from_residual.ensures.1

pub returns-in_err-init-clause-told : goal.returns-in_err-init-clause-told
returns-in_err-init-clause-told c =
    first_told _ _ _ c.from_residual-in_err-init.result _ refl c.from_residual-in_err-init.ensures.1 (tells_front _ _ _ c.in_err-init.ensures.told)

pub returns-in_err-cond-clause-told : goal.returns-in_err-cond-clause-told
returns-in_err-cond-clause-told c =
    first_told _ _ _ c.from_residual-in_err-cond.result _ refl c.from_residual-in_err-cond.ensures.1
    (tells_behind _ _ _ c.in_ok-init.ensures.told (rw c.in_ok-init.ensures.entered at c.in_err-cond.ensures.told))

pub returns-in_err-step-clause-told : goal.returns-in_err-step-clause-told
returns-in_err-step-clause-told c =
    second_told _ _ _ c.from_residual-in_err-step.result _ refl
    (both_clean _ _ _ refl c.in_ok-init.ensures.told (rw c.in_ok-init.ensures.entered at c.in_ok-cond.ensures.told))
    c.from_residual-in_err-step.ensures.1 (rw c.in_ok-init.ensures.entered at c.in_err-step.ensures.told)

pub returns-clause-told : goal.returns-clause-told
returns-clause-told c =
    both_clean _ _ _ refl
    (both_clean _ _ _ refl c.in_ok-init.ensures.told (rw c.in_ok-init.ensures.entered at c.in_ok-cond.ensures.told))
    (rw c.in_ok-init.ensures.entered at c.in_ok-step.ensures.told)

pub returns-clause-labelled : goal.returns-clause-labelled
returns-clause-labelled c = (
    fronted c.args.labels.now c.relist.new.self c.resolve_step.new.labels c.args.rounds.now.place (init_view c.args.rounds.now.init.now)
    (option_map assign_view c.args.rounds.now.step.now)
    (begun c.args.labels.now c.add.new.self c.resolve_init.new.labels c.relist.new.self c.args.rounds.now.place (init_view c.args.rounds.now.init.now)
    c.in_ok-label.ensures.adds c.in_ok-init.ensures.labelled c.in_ok-init.ensures.lives
    (λ front rest l is number. c.relist.ensures.labels front rest l is (c.in_ok-label.ensures.number ∙ number)) c.relist.ensures.live)
    c.in_ok-step.ensures.adds
    ).0

pub returns-clause-lives : goal.returns-clause-lives
returns-clause-lives c = (
    fronted c.args.labels.now c.relist.new.self c.resolve_step.new.labels c.args.rounds.now.place (init_view c.args.rounds.now.init.now)
    (option_map assign_view c.args.rounds.now.step.now)
    (begun c.args.labels.now c.add.new.self c.resolve_init.new.labels c.relist.new.self c.args.rounds.now.place (init_view c.args.rounds.now.init.now)
    c.in_ok-label.ensures.adds c.in_ok-init.ensures.labelled c.in_ok-init.ensures.lives
    (λ front rest l is number. c.relist.ensures.labels front rest l is (c.in_ok-label.ensures.number ∙ number)) c.relist.ensures.live)
    c.in_ok-step.ensures.adds
    ).1
