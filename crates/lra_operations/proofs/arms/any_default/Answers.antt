-- Goals of `any_default`: whether one of the labels is `default`.
use Rattle.std.proofs.{Common.rules, Common.◌≡◌, Common.◌∷◌, Common.◌∙◌, Common.Bool, Common.map, Common.ap, Common.sym, lemmas.List.nil_from_length}
use Rattle.std.specs.Prelude.{◌||◌}
use Rattle.lra_operations.specs.TreeViews.{arm_view, arms_of}
use Rattle.lra_operations.proofs.ArmViews.{arms_none, default_in, default_first}
use Rattle.lra_operations.proofs.arms.any_default.Goals as goal

pub returns-then-is_default : goal.returns-then-is_default
returns-then-is_default c =
    let first : c.arms.left.now ≡ c.in-Some.arm.now ∷ c.in-Some.behind.now = search rules in
    sym (c.arms.invariant ∙ default_first c.arms.left.now c.in-Some.behind.now c.in-Some.arm.now c.is_default.result first c.is_default.ensures ∙
    ap (λ (b : Bool). b || default_in (arms_of (map arm_view c.in-Some.behind.now))) c.if-is_default.true)

pub arms-preserved : goal.arms-preserved
arms-preserved c =
    let first : c.arms.left.now ≡ c.in-Some.arm.now ∷ c.in-Some.behind.now = search rules in
    c.arms.invariant ∙ default_first c.arms.left.now c.in-Some.behind.now c.in-Some.arm.now c.is_default.result first c.is_default.ensures ∙
    ap (λ (b : Bool). b || default_in (arms_of (map arm_view c.in-Some.behind.now))) c.if-is_default.false

pub returns : goal.returns
returns c =
    let none = nil_from_length c.arms.left.now c.in_default.ensures.cases in
    sym (c.arms.invariant ∙ ap default_in (arms_none c.arms.left.now none))
