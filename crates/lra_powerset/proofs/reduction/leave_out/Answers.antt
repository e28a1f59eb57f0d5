-- Goals of `leave_out`: the parts that go are left out.
use Rattle.std.proofs.{Common.◌≡◌, Common.◌∷◌, Common.length, Common.vec_len, Common.ap, Common.◌∙◌, Common.arith, Common.rules, lemmas.Grind.common_steps}
use Rattle.lra_domain.specs.{declared.Included.Included, declared.Included.TheVariants.Yes}
use Rattle.lra_powerset.proofs.TellLemmas.{leave_at, leave_gone, leave_stays}
use Rattle.lra_powerset.proofs.reduction.leave_out.Goals as goal

pub remove-requires : goal.remove-requires
remove-requires g c =
    let same : length c.loop-answer.parts.items ≡ vec_len c.loop-answer.parts = grind (arith, common_steps) in
    let within = leave_at c.args.parts.now.items c.args.told.now c.loop-answer.parts.items c.loop-answer.rest.now c.in-Some.more.now
    c.in-Some.answer.now c.loop-answer.at c.loop-answer.invariant c.in-Some.ensures.cases.0 in
    omega (arith, same, within)

pub loop-answer-preserved-then-eq : goal.loop-answer-preserved-then-eq
loop-answer-preserved-then-eq g c =
    let yes : c.in-Some.answer.now ≡ Yes = search rules in
    rw c.remove.ensures.items (leave_gone c.args.parts.now.items c.args.told.now c.loop-answer.parts.items c.loop-answer.rest.now
    c.in-Some.more.now c.loop-answer.at c.loop-answer.invariant
    (c.in-Some.ensures.cases.0 ∙ ap (λ (i : Included). i ∷ c.in-Some.more.now) yes))

pub loop-answer-preserved : goal.loop-answer-preserved
loop-answer-preserved g c =
    let stays : ¬ (c.in-Some.answer.now ≡ Yes) = search rules in
    leave_stays c.args.parts.now.items c.args.told.now c.loop-answer.parts.items c.loop-answer.rest.now c.in-Some.more.now
    c.in-Some.answer.now c.loop-answer.at c.loop-answer.invariant c.in-Some.ensures.cases.0 stays
