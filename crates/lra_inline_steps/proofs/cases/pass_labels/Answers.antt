-- Goals of `pass_labels`: the labels that come next, and the statement after them.
use Rattle.std.proofs.{Common.rules, Common.◌≡◌, Common.◌∷◌, Common.length, Common.ap, Common.arith, lemmas.List.nil_from_length}
use Rattle.lra_inline_steps.proofs.CaseRows.{none_passed, no_case_left, one_label_more, statement_left}
use Rattle.lra_inline_steps.proofs.cases.pass_labels.Goals as goal

pub labels-init : goal.labels-init
labels-init c = none_passed c.args.arms.now.items c.args.cases.now

pub returns-in_default : goal.returns-in_default
returns-in_default c = no_case_left c.args.arms.now.items c.labels.arms.items c.args.cases.now c.labels.rest.now c.labels.invariant
    (nil_from_length c.labels.rest.now c.in_default.ensures.cases)

pub returns-in-Stated : goal.returns-in-Stated
returns-in-Stated c =
    let split : c.labels.rest.now ≡ c.in-Some.case.now ∷ c.in-Some.behind.now = search rules in
    statement_left c.args.arms.now.items c.labels.arms.items c.args.cases.now c.labels.rest.now c.labels.invariant c.in-Some.case.now
    c.in-Some.behind.now split c.in-Stated.stmt c.in-Stated.is

pub labels-preserved : goal.labels-preserved
labels-preserved c =
    let split : c.labels.rest.now ≡ c.in-Some.case.now ∷ c.in-Some.behind.now = search rules in
    one_label_more c.args.arms.now.items c.labels.arms.items c.args.cases.now c.labels.rest.now c.labels.invariant c.in-Some.case.now
    c.in-Some.behind.now split c.in-Label.label c.add_arm.new.arms.items c.in-Label.is c.in_ok-add_arm-in-Label.ensures

pub labels-smaller : goal.labels-smaller
labels-smaller c =
    let split : c.labels.rest.now ≡ c.in-Some.case.now ∷ c.in-Some.behind.now = search rules in
    let longer = ap length split in
    omega (arith, longer)
